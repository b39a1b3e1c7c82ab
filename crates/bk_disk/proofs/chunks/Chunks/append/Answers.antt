use Rattle.std.proofs.Common.{◌≡◌, ◌++◌, ◌∙◌, ap, map, arith}
use Rattle.std.proofs.lemmas.List.{length-map, map-append}
use Rattle.bk_disk.specs.Blocks.{bytes_of, blocks_of, joined, IsCut}
use Rattle.bk_disk.proofs.Cuts.{appended, map_clones}
use Rattle.bk_disk.proofs.chunks.Chunks.append.Goals as goal

whole : (c : goal.After-drop-full-2) → IsCut 256 (map blocks_of c.append-2.new.self.items) (map bytes_of c.in_ok-full.last.items)
    × (joined (map blocks_of c.append-2.new.self.items) (map bytes_of c.in_ok-full.last.items) ≡ c.args.self.now ++ map bytes_of c.args.blocks.items)
whole c =
    let full = c.self.inside.full.items in
    let more = c.in_ok-full.full.items in
    let blocks = c.args.blocks.items in
    let begun : map bytes_of c.in_ok-begun.begun.items ≡ map bytes_of c.self.inside.last.items =
    map_clones bytes_of _ (λ a b is. ap (λ v. v.items) is) _ _ c.in_ok-begun.ensures.cases.0 in
    let cut : joined (map blocks_of more) (map bytes_of c.in_ok-full.last.items) ≡ map bytes_of c.self.inside.last.items ++ map bytes_of blocks =
    c.in_ok-full.ensures.whole ∙ ap (λ x. x ++ map bytes_of blocks) begun in
    let pushed : c.append-2.new.self.items ≡ full ++ more = c.in_ok-append.ensures.items in
    rw (pushed, map-append blocks_of full more)
    (appended 256 (map blocks_of full) (map blocks_of more) _ _ _ _ c.self.invariant c.self.view_is c.in_ok-full.ensures.cut cut
    (omega (arith, length-map blocks bytes_of, c.requires)))

pub returns-clause-ok : goal.returns-clause-ok
returns-clause-ok c = (whole c).1
