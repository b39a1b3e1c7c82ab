use Rattle.bk_crash.specs.Leaving.{IsLeftOf}
use Rattle.bk_crash.proofs.Leaving.{Came}
use Rattle.bk_crash.proofs.written.Written.left.Given as goal

abbrev pub invariant-loop-log : goal.invariant-loop-log
invariant-loop-log g l = Came (λ id. IsLeftOf) l.log-iterator l.self.logs.entries l.left.items
