use Rattle.bk_crash.specs.Remaining.{RemainsOf}
use Rattle.bk_crash.proofs.Leaving.{Came}
use Rattle.bk_crash.proofs.RemainingLogs.{known}
use Rattle.bk_crash.proofs.written.Written.remaining.Given as goal

abbrev pub invariant-loop-log : goal.invariant-loop-log
invariant-loop-log g l = Came (λ id. RemainsOf (known l.state id)) l.log-iterator l.self.logs.entries l.left.items
