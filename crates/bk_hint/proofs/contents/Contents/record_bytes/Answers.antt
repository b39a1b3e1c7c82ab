use Rattle.std.proofs.Common.{arith}
use Rattle.bk_hint.proofs.Counts.{bytes_below}
use Rattle.bk_hint.proofs.Runwise.{summed_run}
use Rattle.bk_hint.proofs.contents.Contents.record_bytes.Goals as goal

pub overflow_add-bytes : goal.overflow_add-bytes
overflow_add-bytes c =
    let below = bytes_below c.args.self.now c.runs-run-items.ensures.in_order in
    let summed = summed_run c.loop-run.run-iterator c.next.new.self c.in-Some.run' c.in-Some.ensures.steps in
    let so_far = c.loop-run.invariant in
    let here = c.bytes-bytes.ensures in
    omega arith

pub loop-run-preserved : goal.loop-run-preserved
loop-run-preserved c =
    let summed = summed_run c.loop-run.run-iterator c.next.new.self c.in-Some.run' c.in-Some.ensures.steps in
    let so_far = c.loop-run.invariant in
    let here = c.bytes-bytes.ensures in
    omega arith
