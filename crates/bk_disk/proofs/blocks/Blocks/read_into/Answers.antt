use Rattle.std.proofs.Common.{◌≡◌, ◌≤◌, ◌+◌, ◌%◌, length, ◌++◌, take, drop, ◌∙◌, ap, arith, length-drop, rules}
use Rattle.std.proofs.lemmas.Slice.{take-put_mid}
use Rattle.bk_disk.proofs.Cuts.{take_next}
use Rattle.bk_disk.proofs.blocks.Blocks.read_into.Goals as goal

pub loop-done-preserved : goal.loop-done-preserved
loop-done-preserved c =
    let out = c.loop-done.out in
    let done = c.loop-done.done in
    let n = c.min-size.result in
    let piece = c.copy_from_slice.new.self in
    let block = c.block_of-block.result.now in
    let within = (c.args.from + done) % 65536 in
    let size : n ≤ length (drop within block) = omega (arith, length-drop within block) in
    let copied : piece ≡ take n (drop within block) = c.copy_from_slice.ensures.after ∙ ap (λ k. take k (drop within block)) (omega arith) in
    record {
      within = search rules;
      so_far = take-put_mid done _ out piece (done + n) (omega arith) (omega arith) ∙ ap (λ x. take done out ++ x) copied
          ∙ take_next c.args.self.now (take done out) (drop within block) c.args.from done n (omega arith) c.loop-done.invariant.so_far
          c.block_of-block.ensures.value size;
    }
