use Rattle.std.proofs.Common.{◌≡◌, ◌++◌, ◌∙◌, ap, map, arith, length-append}
use Rattle.std.proofs.lemmas.List.{length-map}
use Rattle.bk_disk.specs.Blocks.{bytes_of, joined}
use Rattle.bk_disk.proofs.Cuts.{length_blocks}
use Rattle.bk_disk.proofs.blocks.Blocks.append.Goals as goal

pub append-requires : goal.append-requires
append-requires c =
    let more = c.in_ok-full.full.items in
    let last = c.self.inside.last.items in
    let bytes = c.args.bytes.now in
    let cut : joined (map bytes_of more) c.in_ok-full.last.items ≡ last ++ bytes = c.in_ok-full.ensures.whole ∙ ap (λ x. x ++ bytes) c.deref.ensures.value in
    let sizes = length_blocks c.self.inside.full last _ c.self.invariant c.self.view_is in
    let cut_sizes = length_blocks (map bytes_of more) _ _ c.in_ok-full.ensures.cut cut in
    omega (arith, sizes.0, cut_sizes.0, length-append last bytes, length-map more bytes_of, c.requires)
