use Rattle.std.proofs.Common.{sym, ◌∙◌, ap, arith, Err, refl}
use Rattle.bk_log.proofs.Sums.{counted_put}
use Rattle.bk_log.proofs.Tallies.{counted}
use Rattle.bk_log.proofs.Writes.{room_put, puts_refused, turn_refused, writes_refused, after_put, writes_ok}
use Rattle.bk_log.proofs.writer.LogWriter.put.Goals as goal

pub append-requires-after_bounds : goal.append-requires-after_bounds
append-requires-after_bounds g c = λ ls bounds h.
    let whole = sym (ap (λ w. w.failed) c.self.view_is) ∙ c.if-self.false in
    room_put _ _ _ _ _ c.self.view_is (c.requires.writes h whole) c.requires.fits (c.deref.ensures.value ∙ c.in-Ok.ensures)

pub invariant_of-self-in-Err : goal.invariant_of-self-in-Err
invariant_of-self-in-Err g c = rw (ap (λ t. t.sizes) c.in-Ok-turn_to.ensures.ok) c.self.invariant

pub returns-in-Err-clause-writer : goal.returns-in-Err-clause-writer
returns-in-Err-clause-writer g c =
    puts_refused _ _ c.args.payload.now _ _ _ c.self.view_is (ap (λ t. t.sizes) c.in-Ok-turn_to.ensures.ok)
    c.is_lasting-self-inside.ensures c.if-self.false (λ e. c.in-Err.ensures.never (ap Err e))

pub returns-in-Err-clause-transition : goal.returns-in-Err-clause-transition
returns-in-Err-clause-transition g c = λ h.
    turn_refused _ _ _ _ _ _ _ c.self.view_is (c.deref.ensures.value ∙ c.in-Ok.ensures) (c.in-Err.ensures.transition h)

pub returns-in-Err-clause-writes : goal.returns-in-Err-clause-writes
returns-in-Err-clause-writes g c = λ h whole.
    let before = sym (ap (λ w. w.failed) c.self.view_is) ∙ c.if-self.false in
    writes_refused _ _ _ _ c.args.payload.now _ (c.requires.writes h before) (returns-in-Err-clause-writer g c) (returns-in-Err-clause-transition g c h) whole

pub invariant_of-self-2 : goal.invariant_of-self-2
invariant_of-self-2 g c =
    counted_put _ _ _ _ _ _ _ c.self.invariant (omega (arith, c.requires.payload.0)) c.ledger_of-ledger.ensures.bound
    (counted c.self.inside.sizes _ _ _ _ _ c.in-Ok-turn_to.ensures.ok c.add.ensures c.from.ensures)

pub returns-clause-writes : goal.returns-clause-writes
returns-clause-writes g c = λ h whole.
    let before = sym (ap (λ w. w.failed) c.self.view_is) ∙ c.if-self.false in
    writes_ok _ _ _ _ _ _ _ c.self.view_is (c.requires.writes h before) c.requires.payload c.requires.keyed (c.deref.ensures.value ∙ c.in-Ok.ensures)
    (c.in_default-append.ensures.transition h)
    (after_put _ _ _ _ _ _ c.self.view_is c.ledger_of-ledger.ensures.value c.from.ensures
    (counted c.self.inside.sizes _ _ _ _ _ c.in-Ok-turn_to.ensures.ok c.add.ensures refl))
