use Rattle.bk_crash.specs.Leaving.{IsBackOf}
use Rattle.bk_crash.proofs.Leaving.{CameBack}
use Rattle.bk_crash.proofs.written.Written.put_back.Given as goal

abbrev pub invariant-loop-log : goal.invariant-loop-log
invariant-loop-log g l = CameBack (λ id. IsBackOf) l.self.logs.entries l.log-iterator l.self.gone.entries l.fn.left.items l.left.items
