use Rattle.std.proofs.Common.{rules, arith, subst, eqb, ◌≡◌, ◌+◌, length, inl, inr}
use Rattle.std.proofs.lemmas.Iterator.Consumers.{YieldsList-turn, YieldsList-end, YieldsList-at, YieldsList-from_enumerate}
use Rattle.std.proofs.lemmas.Iterator.Splits.{YieldsList-from_slice_split}
use Rattle.std.proofs.lemmas.List.{length_push}
use borrow.Author.Tests.{tests}
use Rattle.bk_script.specs.Script.{IsFirstBad}
use Rattle.bk_script.proofs.Words.{empty_from_test, filled_from_test}
use Rattle.bk_script.proofs.Scripts.{numbered_turn, good_more, spell_skip, spell_more, spell_all, first_bad}
use Rattle.bk_script.proofs.script.read_steps.Goals as goal

pub loop-index-preserved-then-is_empty : goal.loop-index-preserved-then-is_empty
loop-index-preserved-then-is_empty c =
    let t = numbered_turn _ _ _ _ (YieldsList-turn
    (YieldsList-at c.into_iter-index-iterator.ensures.into_iter_gives (YieldsList-from_enumerate (YieldsList-at c.enumerate-index-items.ensures.source
    (YieldsList-from_slice_split _ (λ b. eqb b 10) c.args.input.now c.split.ensures.rest c.split.ensures.done c.split.ensures.closure
    (λ x b q k. search (rules, tests)))) c.enumerate-index-items.ensures.count)) c.loop-index.yielded _ c.loop-index.yielded_by _ _
    (c.in-Some.index, c.in-Some.line) c.in-Some.is c.next.ensures.steps) in
    let empty = empty_from_test _ _ c.is_empty.ensures c.if-is_empty.true in
    rw (length_push c.loop-index.yielded (c.in-Some.index, c.in-Some.line)) (
      good_more _ _ _ t.0 t.2 (inl empty) c.loop-index.invariant.0,
      spell_skip _ _ _ _ t.0 t.2 empty c.loop-index.invariant.1,
    )

pub loop-index-preserved : goal.loop-index-preserved
loop-index-preserved c =
    let t = numbered_turn _ _ _ _ (YieldsList-turn
    (YieldsList-at c.into_iter-index-iterator.ensures.into_iter_gives (YieldsList-from_enumerate (YieldsList-at c.enumerate-index-items.ensures.source
    (YieldsList-from_slice_split _ (λ b. eqb b 10) c.args.input.now c.split.ensures.rest c.split.ensures.done c.split.ensures.closure
    (λ x b q k. search (rules, tests)))) c.enumerate-index-items.ensures.count)) c.loop-index.yielded _ c.loop-index.yielded_by _ _
    (c.in-Some.index, c.in-Some.line) c.in-Some.is c.next.ensures.steps) in
    let filled = filled_from_test _ _ c.is_empty.ensures c.if-is_empty.false in
    rw (length_push c.loop-index.yielded (c.in-Some.index, c.in-Some.line), c.in-Ok-push.ensures.items) (
      good_more _ _ _ t.0 t.2 (inr (c.in-Ok.step, c.in-Ok.ensures.ok)) c.loop-index.invariant.0,
      spell_more _ _ _ _ _ t.0 t.2 filled c.in-Ok.ensures.ok c.loop-index.invariant.1,
    )

pub returns-in-Err-Bad-clause-bad : goal.returns-in-Err-Bad-clause-bad
returns-in-Err-Bad-clause-bad c = λ number e.
    let t = numbered_turn _ _ _ _ (YieldsList-turn
    (YieldsList-at c.into_iter-index-iterator.ensures.into_iter_gives (YieldsList-from_enumerate (YieldsList-at c.enumerate-index-items.ensures.source
    (YieldsList-from_slice_split _ (λ b. eqb b 10) c.args.input.now c.split.ensures.rest c.split.ensures.done c.split.ensures.closure
    (λ x b q k. search (rules, tests)))) c.enumerate-index-items.ensures.count)) c.loop-index.yielded _ c.loop-index.yielded_by _ _
    (c.in-Some.index, c.in-Some.line) c.in-Some.is c.next.ensures.steps) in
    let filled = filled_from_test _ _ c.is_empty.ensures c.if-is_empty.false in
    let bad = first_bad c.args.input.now _ _ t.0 t.2 (filled, c.read_step.ensures.bad (rw c.in-Err-Bad.field-0-is at c.in-Err-Bad.is))
    c.loop-index.invariant.0 in
    let told : c.in-Some.index + 1 ≡ number = cc in
    let same : length c.loop-index.yielded + 1 ≡ number = omega (arith, told, t.1) in
    subst (IsFirstBad c.args.input.now) same bad

pub returns-clause-ok : goal.returns-clause-ok
returns-clause-ok c =
    let t = YieldsList-end (YieldsList-at c.into_iter-index-iterator.ensures.into_iter_gives
    (YieldsList-from_enumerate (YieldsList-at c.enumerate-index-items.ensures.source
    (YieldsList-from_slice_split _ (λ b. eqb b 10) c.args.input.now c.split.ensures.rest c.split.ensures.done c.split.ensures.closure
    (λ x b q k. search (rules, tests)))) c.enumerate-index-items.ensures.count)) c.loop-index.yielded _ c.loop-index.yielded_by _ _
    c.in-None.is c.next.ensures.steps in
    spell_all _ _ _ t.1 c.loop-index.invariant.1
