use Rattle.std.proofs.Common.{◌≡◌, ◌<◌, ◌++◌, length, map}
use Rattle.std.specs.List.{All}
use Rattle.std.specs.Vec.Iter.{into_iter_items, into_iter_len}
use Rattle.bk_disk.specs.Blocks.{bytes_of, blocks_of, joined}
use Rattle.bk_disk.proofs.chunks.chunked.Given as goal

abbrev pub invariant-loop-block : goal.invariant-loop-block
invariant-loop-block l = record {
  left : into_iter_len l.block-iterator ≡ length (into_iter_items l.block-iterator);
  each : All (λ chunk. length chunk ≡ 256) (map blocks_of l.full.items);
  short : length l.last.items < 256;
  whole : joined (map blocks_of l.full.items) (map bytes_of l.last.items) ++ map bytes_of (into_iter_items l.block-iterator)
      ≡ map bytes_of l.fn.begun.items ++ map bytes_of l.fn.blocks.items;
}
