use Rattle.std.proofs.Common.{arith}
use Rattle.bk_index.proofs.RunPages.{run_seen, counted_run}
use Rattle.bk_index.proofs.index.Index.insert_part.Goals as goal

pub overflow_add-self : goal.overflow_add-self
overflow_add-self c = omega (arith, c.self.invariant.counted, c.in_ok-pushed.ensures.len, c.in_ok-pushed.ensures.few)

pub invariant_of-self-then-pushed-gt0 : goal.invariant_of-self-then-pushed-gt0
invariant_of-self-then-pushed-gt0 c =
    counted_run c.self.inside.pages c.self.invariant.sorted c.args.key c.args.place c.args.size c.in_ok-pushed.pushed c.push_near.new.self
    c.in_ok-pushed.ensures.pushed _ (omega (arith, c.self.invariant.counted, c.in_ok-pushed.ensures.len))

pub returns-then-pushed-gt0-clause-ok : goal.returns-then-pushed-gt0-clause-ok
returns-then-pushed-gt0-clause-ok c =
    run_seen c.self.inside.pages c.self.invariant.sorted c.args.key c.args.place c.args.size c.in_ok-pushed.pushed c.push_near.new.self
    c.in_ok-pushed.ensures.pushed c.args.self.now c.self.view_is
