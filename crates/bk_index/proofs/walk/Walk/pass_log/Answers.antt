use Rattle.std.proofs.Common.{◌<◌, length}
use Rattle.std.proofs.lemmas.List.Elements.{All-rest}
use Rattle.bk_index.proofs.walk.Walk.pass_log.Goals as goal

-- the pages after the first one
pub invariant_of-self-in-Some-split_first : goal.invariant_of-self-in-Some-split_first
invariant_of-self-in-Some-split_first c =
    All-rest (λ page. 0 < length page) c.in-Some-split_first.page.now c.in-Some-split_first.pages.now c.self.inside.pages.now
    c.in-Some-split_first.ensures.cases.0 c.self.invariant
