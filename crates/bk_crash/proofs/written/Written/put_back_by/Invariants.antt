use Rattle.bk_crash.specs.Remaining.{IsBackOfBy}
use Rattle.bk_crash.proofs.Leaving.{CameBack}
use Rattle.bk_crash.proofs.RemainingLogs.{known}
use Rattle.bk_crash.proofs.written.Written.put_back_by.Given as goal

abbrev pub invariant-loop-log : goal.invariant-loop-log
invariant-loop-log g l = CameBack (λ id. IsBackOfBy (known l.state id)) l.self.logs.entries l.log-iterator l.self.gone.entries l.fn.left.items l.left.items
