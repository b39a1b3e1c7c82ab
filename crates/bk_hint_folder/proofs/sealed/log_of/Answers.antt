use Rattle.std.proofs.Common.{◌∙◌}
use Rattle.bk_hint_disk.proofs.Truths.{reads_equal, views_equal}
use Rattle.bk_hint_folder.proofs.sealed.log_of.Goals as goal

pub returns-in-Err-view-clause-files : goal.returns-in-Err-view-clause-files
returns-in-Err-view-clause-files g c = λ honest.
    let viewed = c.read_at.ensures.honest ∙ honest in
    views_equal g.D.View.LogView.bytes g.D.View.LogView.honest _ _ _ _ (c.view.ensures.transition viewed)
    ∙ reads_equal (λ v. v.items) _ _ _ 0 1024 _ (c.read_at.ensures.transition honest)
