use Rattle.bk_crash.proofs.Copies.{AreListed}
use Rattle.bk_crash.proofs.written.Written.files.Given as goal

abbrev pub invariant-loop-log : goal.invariant-loop-log
invariant-loop-log l = AreListed l.log-iterator l.self.logs.entries l.files.items
