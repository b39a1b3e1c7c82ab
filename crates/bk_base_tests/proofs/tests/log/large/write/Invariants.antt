use Rattle.std.specs.Prelude.{◌≡◌, false}
use Rattle.bk_log.specs.Writing.{Writes}
use Rattle.bk_base_tests.proofs.tests.log.large.write.Given as goal

-- the writer is that of its log
abbrev pub invariant-loop-number : goal.invariant-loop-number
invariant-loop-number g l = l.writer.failed ≡ false → Writes l.disk l.writer
