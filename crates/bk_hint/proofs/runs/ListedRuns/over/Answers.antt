use Rattle.bk_hint.proofs.Walks.{starts}
use Rattle.bk_hint.proofs.runs.ListedRuns.over.Goals as goal

pub invariant_of-result : goal.invariant_of-result
invariant_of-result c = rw c.origin.ensures (starts c.args.heads.now c.args.steps.now c.requires)
