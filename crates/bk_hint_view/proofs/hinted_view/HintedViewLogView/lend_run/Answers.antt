use Rattle.std.proofs.Common.{◌∙◌, ◌&&◌, ap, sym}
use Rattle.std.proofs.lemmas.Bool.{and_parts}
use Rattle.bk_hint_view.specs.Showing.{has_true_table}
use Rattle.bk_hint_view.proofs.Rests.{lent_stands}
use Rattle.bk_hint_view.proofs.hinted_view.HintedViewLogView.lend_run.Goals as goal

pub returns-in-Some-run_at : goal.returns-in-Some-run_at
returns-in-Some-run_at g c = λ h.
    let was = (and_parts _ _ (ap (λ v. v.inner && has_true_table v.table v.bytes) c.self.view_is ∙ h)).1 in
    rw (sym c.self.view_is) (lent_stands _ _ _ _ _ c.in-Some.is was c.in-Some-run_at.ensures)
