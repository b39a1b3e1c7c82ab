use Rattle.std.proofs.Common.{arith}
use Rattle.bk_hint.proofs.Checks.{begin_passes, next_passes, again_passes, refuses_none, refuses_head, refuses_next, refuses_again}
use Rattle.bk_hint.proofs.checking.after_step.Goals as goal

pub returns-in_err-head-clause-none : goal.returns-in_err-head-clause-none
returns-in_err-head-clause-none c = λ _ steps can.
    refuses_none c.args.last.now c.args.left.now c.args.step steps c.if-step-eq-BEGIN.true c.in_err-head.ensures.cases can

pub returns-in_err-first-clause-none : goal.returns-in_err-first-clause-none
returns-in_err-first-clause-none c = λ _ steps can.
    refuses_head c.args.last.now c.args.left.now c.in_ok-head.others.now c.args.step steps c.in_ok-head.head.now c.if-step-eq-BEGIN.true c.in_ok-head.ensures.cases.0
    c.in_err-first.ensures can

pub returns-then-step-eq-BEGIN-clause-some : goal.returns-then-step-eq-BEGIN-clause-some
returns-then-step-eq-BEGIN-clause-some c = λ steps.
    begin_passes c.args.last.now c.args.left.now c.in_ok-head.others.now c.args.step steps c.in_ok-head.head.now c.in_ok-first.first c.if-step-eq-BEGIN.true
    c.in_ok-head.ensures.cases.0 c.in_ok-first.ensures.0.0 c.in_ok-first.ensures.0.1 c.in_ok-first.ensures.1 c.requires

pub returns-in_err-behind-clause-none : goal.returns-in_err-behind-clause-none
returns-in_err-behind-clause-none c = λ _ steps can.
    refuses_next c.args.last.now c.args.left.now c.args.step steps (omega arith) (omega arith) c.in_err-behind.ensures can

pub returns-then-step-lt-AGAIN-clause-some : goal.returns-then-step-lt-AGAIN-clause-some
returns-then-step-lt-AGAIN-clause-some c = λ steps.
    next_passes c.args.last.now c.args.left.now c.args.step steps c.in_ok-behind.behind (omega arith) (omega arith) c.in_ok-behind.ensures.0 c.in_ok-behind.ensures.1
    c.requires

pub returns-in_err-again-clause-none : goal.returns-in_err-again-clause-none
returns-in_err-again-clause-none c = λ _ steps can.
    refuses_again c.args.last.now c.args.left.now c.args.step steps (omega arith) c.in_err-again.ensures can

pub returns-clause-some : goal.returns-clause-some
returns-clause-some c = λ steps.
    again_passes c.args.last.now c.args.left.now c.args.step steps c.in_ok-again.again (omega arith) c.in_ok-again.ensures.0
    c.in_ok-again.ensures.1 c.requires
