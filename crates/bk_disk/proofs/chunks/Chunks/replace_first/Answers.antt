use Rattle.std.proofs.Common.{◌≡◌, ◌<◌, ◌∙◌, ap, map, set, length, arith}
use Rattle.std.proofs.lemmas.Bool.Decides.{nat_tests}
use Rattle.std.proofs.lemmas.List.{map-set}
use Rattle.bk_disk.specs.Blocks.{Chunk, bytes_of, blocks_of, joined, IsCut}
use Rattle.bk_disk.proofs.Cuts.{map_clones}
use Rattle.bk_disk.proofs.InChunks.{chunk_replaced}
use Rattle.bk_disk.proofs.chunks.Chunks.replace_first.Goals as goal

whole : (c : goal.After-drop-index_mut-3) → IsCut 256 (map blocks_of (set c.self.inside.full.items 0 c.in_ok-self-inside.field-0))
    (map bytes_of c.self.inside.last.items)
    × (joined (map blocks_of (set c.self.inside.full.items 0 c.in_ok-self-inside.field-0)) (map bytes_of c.self.inside.last.items)
    ≡ set c.args.self.now 0 (bytes_of c.args.block))
whole c =
    let some : 0 < length c.self.inside.full.items = grind (arith, nat_tests, c.self.inside.full.ok.0) in
    let first : Chunk = c.index.result.now in
    let cloned : map bytes_of c.in_ok-chunk.chunk.items ≡ map bytes_of c.deref-first.result.now.items =
    map_clones bytes_of _ (λ a b is. ap (λ v. v.items) is) _ _ c.in_ok-chunk.ensures.cases.0 in
    let made : blocks_of c.in_ok-self-inside.field-0 ≡ set (blocks_of first) 0 (bytes_of c.args.block) =
    ap (λ v. map bytes_of v.items) c.in_ok-self-inside.ensures.ok ∙ map-set bytes_of c.in_ok-chunk.chunk.items 0 c.args.block
    ∙ ap (λ l. set l 0 (bytes_of c.args.block)) (cloned ∙ ap (λ v. map bytes_of v.items) c.deref-first.ensures) in
    chunk_replaced c.self.inside.full.items c.self.inside.last.items c.args.self.now first c.in_ok-self-inside.field-0 c.args.block
    c.self.invariant c.self.view_is some c.index.ensures made

pub invariant_of-self-2 : goal.invariant_of-self-2
invariant_of-self-2 c = (whole c).0

pub returns-clause-ok : goal.returns-clause-ok
returns-clause-ok c = (whole c).1
