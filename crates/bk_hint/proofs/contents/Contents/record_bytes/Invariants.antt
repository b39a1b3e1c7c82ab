use Rattle.std.proofs.Common.{◌≡◌, ◌+◌}
use Rattle.bk_hint.specs.Entries.{bytes_of}
use Rattle.bk_hint.specs.Runs.{entries_of_runs}
use Rattle.bk_hint.proofs.contents.Contents.record_bytes.Given as goal

abbrev pub invariant-loop-run : goal.invariant-loop-run
invariant-loop-run l = l.bytes + bytes_of (entries_of_runs l.run-iterator) ≡ bytes_of l.self
