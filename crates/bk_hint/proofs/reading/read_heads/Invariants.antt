use Rattle.std.proofs.Common.{◌≡◌, ◌+◌, ◌-◌, ◌*◌, ◌++◌, drop}
use Rattle.bk_hint.specs.Decoding.{heads_in}
use Rattle.bk_hint.proofs.reading.read_heads.Given as goal

abbrev pub invariant-loop-k : goal.invariant-loop-k
invariant-loop-k l = l.read.items ++ heads_in (l.count - l.k) (drop (32 + 24 * l.k) l.bytes) ≡ heads_in l.count (drop 32 l.bytes)
