use Rattle.std.proofs.Common.{arith}
use Rattle.bk_hint.proofs.Counts.{many_below}
use Rattle.bk_hint.proofs.Runwise.{counted_run}
use Rattle.bk_hint.proofs.contents.Contents.len.Goals as goal

pub overflow_add-count : goal.overflow_add-count
overflow_add-count c =
    let below = many_below c.args.self.now c.runs-run-items.ensures.in_order in
    let counted = counted_run c.loop-run.run-iterator c.next.new.self c.in-Some.run' c.in-Some.ensures.steps in
    let so_far = c.loop-run.invariant in
    let here = c.count-count.ensures in
    omega arith
