use Rattle.std.proofs.Common.{◌++◌, ap, ◌∙◌}
use Rattle.std.proofs.lemmas.List.{append-nil}
use Rattle.bk_index.specs.Pages.{all_pairs}
use Rattle.bk_index.proofs.CountedPages.{entries_seen}
use Rattle.bk_index.proofs.index.Index.walk.Goals as goal

pub returns : goal.returns
returns c =
    c.over.ensures ∙ (λ i. c.empty.ensures i ++ (all_pairs c.list.result.now ++ c.empty-2.ensures i)) ∙ append-nil (all_pairs c.list.result.now) ∙ ap all_pairs c.list.ensures.value
    ∙ entries_seen c.self.inside.pages c.self.invariant.sorted c.args.self.now c.self.view_is
