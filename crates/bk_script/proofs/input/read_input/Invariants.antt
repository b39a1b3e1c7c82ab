use Rattle.std.proofs.Common.{◌≤◌, vec_len}
use Rattle.std.specs.Io.KnownBytes.{Consumes}
use Rattle.bk_script.proofs.input.read_input.Given as goal

abbrev pub invariant-loop : goal.invariant-loop
invariant-loop g l = (vec_len l.input ≤ 16777216) × Consumes (g.R.Read.remaining l.initial.reader) (g.R.Read.remaining l.reader) l.input.items
