use Rattle.std.proofs.Common.{◌≡◌, ◌<◌, ◌++◌, [], ◌∷◌, map, length, ap, sym, ◌∙◌, arith, length-append, append-nil, refl}
use Rattle.std.specs.Vec.Iter.{into_iter_items}
use Rattle.std.proofs.lemmas.List.Elements.{All-nil}
use Rattle.std.proofs.lemmas.List.{length-map, length_push, nil_from_length}
use Rattle.bk_disk.specs.Blocks.{bytes_of, blocks_of, joined}
use Rattle.bk_disk.proofs.Cuts.{each_push}
use Rattle.bk_disk.proofs.InChunks.{block_pushed, chunk_pushed}
use Rattle.bk_disk.proofs.chunks.chunked.Goals as goal

pub loop-block-init : goal.loop-block-init
loop-block-init c =
    let given = c.into_iter-block-iterator.ensures.into_iter_gives in
    let none = c.new-full.ensures.items in
    record {
      left = given.1 ∙ c.args.blocks.ok.0 ∙ sym (ap length given.0);
      each = rw none (All-nil _);
      short = c.requires.short;
      whole = rw (none, given.0) refl;
    }

pub loop-block-preserved-then-len-eq-CHUNK : goal.loop-block-preserved-then-len-eq-CHUNK
loop-block-preserved-then-len-eq-CHUNK c =
    let at = c.loop-block in
    let steps : into_iter_items at.block-iterator ≡ c.in-Some.block ∷ into_iter_items c.next.new.self = c.in-Some.ensures.steps.0 in
    let gone = c.in-Some.ensures.steps.1 in
    let filled : c.push.new.self.items ≡ at.last.items ++ c.in-Some.block ∷ [] = c.in_ok-push.ensures.items in
    let closed : c.in_ok-new.field-0.value.items ≡ at.last.items ++ c.in-Some.block ∷ [] = ap (λ v. v.items) c.in_ok-new.ensures.ok ∙ filled in
    let pushed : c.push-then-len-eq-CHUNK.new.self.items ≡ at.full.items ++ c.in_ok-new.field-0 ∷ [] = c.in_ok-push-2.ensures.items in
    let size : length (blocks_of c.in_ok-new.field-0) ≡ 256 = omega (
      arith,
      length-map c.in_ok-new.field-0.value.items bytes_of,
      ap length closed,
      ap length filled,
      c.if-len-eq-CHUNK.true,
      c.len.ensures,
      c.push.new.self.ok.0,
    ) in
    rw (pushed, c.new-last.ensures.items) (record {
      left = omega (arith, at.invariant.left, gone, ap length steps);
      each = each_push blocks_of 256 at.full.items c.in_ok-new.field-0 at.invariant.each size;
      short = omega arith;
      whole = chunk_pushed at.full.items at.last.items _ _ c.in-Some.block c.in_ok-new.field-0 _ closed steps at.invariant.whole;
    })

pub loop-block-preserved : goal.loop-block-preserved
loop-block-preserved c =
    let at = c.loop-block in
    let steps : into_iter_items at.block-iterator ≡ c.in-Some.block ∷ into_iter_items c.next.new.self = c.in-Some.ensures.steps.0 in
    let gone = c.in-Some.ensures.steps.1 in
    let filled : c.push.new.self.items ≡ at.last.items ++ c.in-Some.block ∷ [] = c.in_ok-push.ensures.items in
    let more = length_push at.last.items c.in-Some.block in
    let short : length c.push.new.self.items < 256 = omega (
      arith,
      ap length filled,
      more,
      at.invariant.short,
      c.if-len-eq-CHUNK.false,
      c.len.ensures,
      c.push.new.self.ok.0,
    ) in
    record {
      left = omega (arith, at.invariant.left, gone, ap length steps);
      each = at.invariant.each;
      short = short;
      whole = rw filled (block_pushed at.full.items at.last.items _ _ c.in-Some.block _ steps at.invariant.whole);
    }

whole : (c : goal.After-drop-block-iterator-2) → joined (map blocks_of c.loop-block.full.items) (map bytes_of c.loop-block.last.items)
    ≡ map bytes_of c.args.begun.items ++ map bytes_of c.args.blocks.items
whole c =
    let at = c.loop-block in
    let none = c.in-None.ensures.steps in
    let empty : into_iter_items at.block-iterator ≡ [] = nil_from_length _ (sym at.invariant.left ∙ none.0) in
    sym (append-nil _) ∙ rw empty at at.invariant.whole

pub returns-clause-cut : goal.returns-clause-cut
returns-clause-cut c =
    let begun = c.args.begun.items in
    let blocks = c.args.blocks.items in
    record {
      each = c.loop-block.invariant.each;
      short = omega (arith, c.loop-block.invariant.short, length-map c.loop-block.last.items bytes_of);
      fits = omega (
        arith,
        ap length (whole c),
        length-append (map bytes_of begun) (map bytes_of blocks),
        length-map begun bytes_of,
        length-map blocks bytes_of,
        c.requires.fits,
      );
    }

pub returns-clause-whole : goal.returns-clause-whole
returns-clause-whole c = whole c
