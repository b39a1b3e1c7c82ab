use Rattle.std.proofs.Common.{◌≡◌, ◌+◌, length}
use Rattle.bk_hint.specs.Runs.{entries_of_runs}
use Rattle.bk_hint.proofs.contents.Contents.len.Given as goal

abbrev pub invariant-loop-run : goal.invariant-loop-run
invariant-loop-run l = l.count + length (entries_of_runs l.run-iterator) ≡ length l.self
