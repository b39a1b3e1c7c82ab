use Rattle.std.proofs.Common.{◌≡◌, ◌/◌, ◌%◌, get_or, ◌∙◌, ap, arith}
use Rattle.bk_disk.specs.Blocks.{Block, Chunk}
use Rattle.bk_disk.proofs.InChunks.{length_chunks, length_chunk, block_of_full, block_of_last}
use Rattle.bk_disk.proofs.chunks.Chunks.block.Goals as goal

pub index-requires-then-chunk-len : goal.index-requires-then-chunk-len
index-requires-then-chunk-len c =
    let chunk : Chunk = c.index.result.now in
    let size = length_chunk c.self.inside.full.items c.self.inside.last.items (c.args.at / 256) chunk c.self.invariant
    (omega (arith, c.self.inside.full.ok.0)) c.index.ensures in
    rw c.deref.ensures (omega (arith, size, chunk.value.ok.0))

pub index-requires-else-chunk-len : goal.index-requires-else-chunk-len
index-requires-else-chunk-len c =
    let sizes = length_chunks c.self.inside.full.items c.self.inside.last.items c.args.self.now c.self.invariant c.self.view_is in
    omega (arith, sizes.0, c.self.inside.full.ok.0, c.self.inside.last.ok.0)

pub returns-then-chunk-len : goal.returns-then-chunk-len
returns-then-chunk-len c =
    let chunk : Chunk = c.index.result.now in
    let block : Block = c.index-then-chunk-len.result.now in
    let inner : block ≡ get_or chunk.value.items (c.args.at % 256) block = rw c.deref.ensures at c.index-then-chunk-len.ensures in
    c.deref-then-chunk-len-2.ensures.value ∙ ap (λ v. v.items) c.deref-then-chunk-len.ensures
    ∙ block_of_full c.self.inside.full.items c.self.inside.last.items c.args.self.now c.args.at chunk block c.self.invariant c.self.view_is
    (omega (arith, c.self.inside.full.ok.0)) c.index.ensures inner

pub returns-else-chunk-len : goal.returns-else-chunk-len
returns-else-chunk-len c =
    let block : Block = c.index-else-chunk-len.result.now in
    c.deref-else-chunk-len-2.ensures.value ∙ ap (λ v. v.items) c.deref-else-chunk-len.ensures
    ∙ block_of_last c.self.inside.full.items c.self.inside.last.items c.args.self.now c.args.at block c.self.invariant c.self.view_is
    c.requires (omega (arith, c.self.inside.full.ok.0)) c.index-else-chunk-len.ensures
