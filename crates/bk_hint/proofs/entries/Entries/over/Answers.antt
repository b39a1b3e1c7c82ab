use Rattle.bk_hint.proofs.Walks.{starts, left_at_start}
use Rattle.bk_hint.proofs.entries.Entries.over.Goals as goal

pub invariant_of-result : goal.invariant_of-result
invariant_of-result c = rw c.origin.ensures (starts c.args.heads.now c.args.steps.now c.requires)

pub returns : goal.returns
returns c = rw c.origin.ensures (left_at_start c.args.heads.now c.args.steps.now)
