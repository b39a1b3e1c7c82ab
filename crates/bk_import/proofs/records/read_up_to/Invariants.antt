-- What was appended is what was consumed.
use Rattle.std.proofs.Common.{◌≤◌, ◌-◌, length, vec_len}
use Rattle.std.specs.Io.KnownBytes.{Consumes}
use Rattle.bk_import.proofs.records.read_up_to.Given as goal

abbrev pub invariant-loop-chunk : goal.invariant-loop-chunk
invariant-loop-chunk g l = record {
  within : length l.bytes.items ≤ l.n;
  bytes : Consumes (g.R.Read.remaining l.initial.reader) (g.R.Read.remaining l.reader) l.bytes.items;
}

abbrev pub decreases-loop-chunk : goal.decreases-loop-chunk
decreases-loop-chunk g l = l.n - vec_len l.bytes
