use Rattle.bk_disk.specs.Blocks.{bytes_of}
use Rattle.std.proofs.Common.{◌≡◌, ◌++◌, [], ◌∷◌, length, ap, ◌∙◌, refl, arith, length-append, take-append-drop}
use Rattle.std.proofs.lemmas.List.Elements.{All-nil}
use Rattle.bk_disk.proofs.Cuts.{each_push, joined_push}
use Rattle.bk_disk.proofs.blocks.cut.Goals as goal

pub loop-rest-init : goal.loop-rest-init
loop-rest-init c =
    let begun : c.extend_from_slice.new.self.items ≡ c.in_ok-last.last.items ++ c.args.begun.now = c.in_ok-extend_from_slice.ensures.items in
    rw (c.new-full.ensures.items, begun, c.in_ok-last.ensures.items) (record { each = All-nil _; short = c.requires.short; whole = refl })

pub loop-rest-preserved : goal.loop-rest-preserved
loop-rest-preserved c =
    let full = c.loop-rest.full.items in
    let last = c.loop-rest.last.items in
    let head = c.split_at.result.0.now in
    let behind = c.split_at.result.1.now in
    let filled : c.extend_from_slice-in-loop-rest.new.self.items ≡ last ++ head = c.in_ok-extend_from_slice-2.ensures.items in
    let block : bytes_of c.in_ok-new.field-0 ≡ last ++ head = ap (λ v. v.items) c.in_ok-new.ensures.ok ∙ filled in
    let pushed : c.push.new.self.items ≡ full ++ c.in_ok-new.field-0 ∷ [] = c.in_ok-push.ensures.items in
    let size : length (bytes_of c.in_ok-new.field-0) ≡ 65536 = omega (
      arith,
      ap length block,
      length-append last head,
      c.split_at.ensures.front_len,
      c.loop-rest.last.ok.0,
    ) in
    let parts : head ++ behind ≡ c.loop-rest.rest.now = rw (c.split_at.ensures.front, c.split_at.ensures.back) (take-append-drop _ _) in
    rw (pushed, c.in_ok-last-2.ensures.items) (record {
      each = each_push bytes_of 65536 full c.in_ok-new.field-0 c.loop-rest.invariant.each size;
      short = omega arith;
      whole = joined_push bytes_of full c.in_ok-new.field-0 last c.loop-rest.rest.now head behind _ block parts c.loop-rest.invariant.whole;
    })
