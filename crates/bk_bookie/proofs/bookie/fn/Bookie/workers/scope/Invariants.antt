use Rattle.std.proofs.Common.{◌≡◌, ◌≤◌, vec_len}
use Rattle.std.specs.Prelude.{vec_capacity}
use Rattle.bk_bookie.proofs.bookie.fn.Bookie.workers.scope.Given as goal

abbrev pub invariant-loop-worker : goal.invariant-loop-worker
invariant-loop-worker g l = (vec_len l.running ≡ l.worker) × (l.worker-end ≤ vec_capacity l.running)
