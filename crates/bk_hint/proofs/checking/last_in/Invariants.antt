use Rattle.std.proofs.Common.{length}
use Rattle.bk_hint.proofs.Checks.{Checks}
use Rattle.bk_hint.proofs.checking.last_in.Given as goal

abbrev pub invariant-steps : goal.invariant-steps
invariant-steps l = Checks l.fn.heads l.fn.steps l.last l.left l.rest

abbrev pub decreases-steps : goal.decreases-steps
decreases-steps l = length l.rest
