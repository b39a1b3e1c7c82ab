use Rattle.std.proofs.Common.{map, ap}
use Rattle.bk_disk.specs.Blocks.{bytes_of, blocks_of}
use Rattle.bk_disk.proofs.Cuts.{map_clones}
use Rattle.bk_disk.proofs.chunks.Chunks.share.Goals as goal

pub invariant_of-result : goal.invariant_of-result
invariant_of-result c =
    let full = map_clones blocks_of _ (λ a b is. ap (λ v. map bytes_of v.items) is) _ _ c.in_ok-full.ensures.cases.0 in
    let last = map_clones bytes_of _ (λ a b is. ap (λ v. v.items) is) _ _ c.in_ok-last.ensures.cases.0 in
    rw (full, last) c.self.invariant

pub returns : goal.returns
returns c =
    let full = map_clones blocks_of _ (λ a b is. ap (λ v. map bytes_of v.items) is) _ _ c.in_ok-full.ensures.cases.0 in
    let last = map_clones bytes_of _ (λ a b is. ap (λ v. v.items) is) _ _ c.in_ok-last.ensures.cases.0 in
    rw (full, last) c.self.view_is
