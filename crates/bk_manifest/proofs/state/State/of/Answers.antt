use Rattle.std.proofs.Common.{◌≡◌, fold, length, arith}
use Rattle.std.specs.Prelude.{None}
use Rattle.std.specs.Vec.Iter.{into_iter_items}
use Rattle.bk_manifest.specs.declared.subject.Subject.{Subject}
use Rattle.bk_manifest.specs.Fact.{facts}
use Rattle.bk_manifest.specs.State.{last_after}
use Rattle.bk_manifest.proofs.States.{next_left, all_applied}
use Rattle.bk_manifest.proofs.state.State.of.Goals as goal

pub loop-one-preserved : goal.loop-one-preserved
loop-one-preserved c = λ s. next_left s c.loop-one.state c.apply.new.self _ _ _ _ c.in-Some.ensures.steps.0 c.in_ok-apply.ensures.ok (c.loop-one.invariant s)

pub returns : goal.returns
returns c =
    let none : length (into_iter_items c.loop-one.one-iterator) ≡ 0 = omega (arith, c.loop-one.one-iterator.rest.ok.0, c.in-None.ensures.steps.0) in
    all_applied c.loop-one.state (into_iter_items c.loop-one.one-iterator) (λ (s : Subject). fold (last_after s) None (facts c.args.records.items)) none
    c.loop-one.invariant
