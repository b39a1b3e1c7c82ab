use Rattle.std.proofs.Common.{arith}
use Rattle.bk_hint.proofs.Walks.{no_head, begin_legal, begin_turns, next_id, next_is, again_is, next_turns, again_turns}
use Rattle.bk_hint.proofs.entries.turn.Goals as goal

pub returns-in_err-head : goal.returns-in_err-head
returns-in_err-head c =
    absurd (no_head c.args.last.now c.args.heads.now c.args.steps.now c.in_ok-step.others.now c.in_ok-step.step.now c.requires c.in_ok-step.ensures.cases.0
    c.if-step-eq-BEGIN.true c.in_err-head.ensures.cases)

pub first-requires-clause-ledger : goal.first-requires-clause-ledger
first-requires-clause-ledger c =
    (begin_legal c.args.last.now c.args.heads.now c.in_ok-head.heads.now c.args.steps.now c.in_ok-step.others.now c.in_ok-step.step.now c.in_ok-head.head.now c.requires
    c.in_ok-step.ensures.cases.0 c.if-step-eq-BEGIN.true c.in_ok-head.ensures.cases.0).ledger

pub first-requires-clause-entry : goal.first-requires-clause-entry
first-requires-clause-entry c =
    (begin_legal c.args.last.now c.args.heads.now c.in_ok-head.heads.now c.args.steps.now c.in_ok-step.others.now c.in_ok-step.step.now c.in_ok-head.head.now c.requires
    c.in_ok-step.ensures.cases.0 c.if-step-eq-BEGIN.true c.in_ok-head.ensures.cases.0).id

pub returns-then-step-eq-BEGIN : goal.returns-then-step-eq-BEGIN
returns-then-step-eq-BEGIN c =
    begin_turns c.args.last.now c.args.heads.now c.in_ok-head.heads.now c.args.steps.now c.in_ok-step.others.now c.in_ok-step.step.now c.in_ok-head.head.now c.first.result
    c.requires c.in_ok-step.ensures.cases.0 c.if-step-eq-BEGIN.true c.in_ok-head.ensures.cases.0 c.first.ensures

pub next-requires-clause-id : goal.next-requires-clause-id
next-requires-clause-id c =
    let step = c.in_ok-step.step.now in
    next_id c.args.last.now _ _ _ _ c.requires.in_order
    (next_is c.args.last.now c.args.heads.now c.args.steps.now c.in_ok-step.others.now step c.in_ok-step.ensures.cases.0 (omega arith) (omega arith))

pub returns-then-step-lt-AGAIN : goal.returns-then-step-lt-AGAIN
returns-then-step-lt-AGAIN c =
    next_turns c.args.last.now c.args.heads.now c.args.steps.now c.in_ok-step.others.now c.in_ok-step.step.now c.next.result c.requires c.in_ok-step.ensures.cases.0
    (omega arith) (omega arith) c.next.ensures

pub repeated-requires-clause-id : goal.repeated-requires-clause-id
repeated-requires-clause-id c =
    let step = c.in_ok-step.step.now in
    next_id c.args.last.now _ _ _ _ c.requires.in_order
    (again_is c.args.last.now c.args.heads.now c.args.steps.now c.in_ok-step.others.now step c.in_ok-step.ensures.cases.0 (omega arith))

pub returns : goal.returns
returns c =
    again_turns c.args.last.now c.args.heads.now c.args.steps.now c.in_ok-step.others.now c.in_ok-step.step.now c.repeated.result c.requires c.in_ok-step.ensures.cases.0
    (omega arith) c.repeated.ensures
