use Rattle.std.proofs.Common.{◌+◌, cond}
use Rattle.bk_log.specs.Scanning.{is_going}
use Rattle.bk_log.specs.Scanning.{IsStillScan}
use Rattle.bk_log.proofs.scanner.Scanner.next.Given as goal

abbrev pub invariant-loop-self : goal.invariant-loop-self
invariant-loop-self g l = IsStillScan l.initial.self l.self

abbrev pub decreases-loop-self : goal.decreases-loop-self
decreases-loop-self g l = l.self.left + cond (is_going l.self) 1 0
