use Rattle.std.proofs.Common.{◌≡◌, fold, length, arith}
use Rattle.std.specs.Vec.Iter.{into_iter_items}
use Rattle.bk_manifest.specs.declared.subject.Subject.{Subject}
use Rattle.bk_manifest.specs.Fact.{facts}
use Rattle.bk_manifest.specs.State.{last_after, said}
use Rattle.bk_manifest.proofs.States.{next_left, all_applied, memory_left, memory_stays}
use Rattle.bk_manifest.proofs.state.State.settle.Goals as goal

pub returns-in-Err : goal.returns-in-Err
returns-in-Err c = absurd (c.in-Err.ensures.room (memory_left c.loop-one.self _ _ _ c.in-Some.ensures.steps.0 c.loop-one.invariant.room).0)

pub loop-one-preserved : goal.loop-one-preserved
loop-one-preserved c = record {
  left = λ s. next_left s c.loop-one.self c.apply.new.self _ _ _ _ c.in-Some.ensures.steps.0 c.in-Ok.ensures.ok (c.loop-one.invariant.left s);
  room = memory_stays _ c.loop-one.self c.apply.new.self c.apply.ensures.keeps
      (memory_left c.loop-one.self _ _ _ c.in-Some.ensures.steps.0 c.loop-one.invariant.room).1;
}

pub returns : goal.returns
returns c =
    let none : length (into_iter_items c.loop-one.one-iterator) ≡ 0 = omega (arith, c.loop-one.one-iterator.rest.ok.0, c.in-None.ensures.steps.0) in
    all_applied c.loop-one.self (into_iter_items c.loop-one.one-iterator)
    (λ (s : Subject). fold (last_after s) (said c.args.self.now s) (facts c.args.records.items)) none c.loop-one.invariant.left
