use Rattle.std.proofs.Common.{◌≡◌, ◌<◌, ◌++◌, length, map}
use Rattle.std.specs.List.{All}
use Rattle.bk_disk.specs.Blocks.{bytes_of, joined}
use Rattle.bk_disk.proofs.blocks.cut.Given as goal

abbrev pub invariant-loop-rest : goal.invariant-loop-rest
invariant-loop-rest l = record {
  each : All (λ b. length b ≡ 65536) (map bytes_of l.full.items);
  short : length l.last.items < 65536;
  whole : joined (map bytes_of l.full.items) l.last.items ++ l.rest ≡ l.begun ++ l.bytes;
}

abbrev pub decreases-loop-rest : goal.decreases-loop-rest
decreases-loop-rest l = length l.rest
