use Rattle.std.proofs.Common.{◌≡◌, take, drop, IfErr, refl, subst, ap, ◌∙◌, arith}
use Rattle.bk_log.specs.Ahead.{Ahead, IsRecord}
use Rattle.bk_log.specs.declared.fault.ScanFault.TheVariants.{Memory}
use Rattle.bk_log.proofs.Aheads.{length-left, window_head, head_left, shows_lent}
use Rattle.bk_log.proofs.RunPasses.{first_in_run}
use Rattle.bk_log.proofs.window.Window.front.Goals as goal

pub returns-then-wanted-len-clause-transition : goal.returns-then-wanted-len-clause-transition
returns-then-wanted-len-clause-transition g c = λ h.
    c.front_of-then-wanted-len.ensures.front _ (length-left _ _ _ (c.requires h))
    (window_head _ c.args.self.now _ _ _ _ _ _ c.self.view_is c.self.invariant.0.ahead h c.min-wanted.ensures
    (omega (arith, c.if-wanted-len.true, c.len.ensures, c.self.inside.read.ok.0)) c.deref.ensures.value refl)

pub returns-in-Some-clause-transition : goal.returns-in-Some-clause-transition
returns-in-Some-clause-transition g c = λ h.
    shows_lent _ _ _ _
    (c.front_of.ensures.front _ (length-left _ _ _ (c.requires h))
    (head_left c.args.self.now.bytes c.in-Some.head.now c.args.self.now.at _ _ c.min-wanted.ensures
    (c.in-Some.ensures.value h ∙ ap (λ (a : Ahead). take c.min-wanted.result (drop a.at c.args.self.now.bytes)) c.self.view_is))) c.with_room.ensures.value
    c.with_room.ensures.err

pub returns-in-Some-borrow-clause-transition : goal.returns-in-Some-borrow-clause-transition
returns-in-Some-borrow-clause-transition g c = λ h.
    shows_lent _ _ _ _
    (c.front_of-in-Some-borrow.ensures.front _ (length-left _ _ _ (c.requires h))
    (head_left c.args.self.now.bytes c.in-Some-borrow.head.now c.args.self.now.at _ _ c.min-wanted.ensures (c.in-Some-borrow.ensures.value h)))
    c.with_room-in-Some-borrow.ensures.value
    (subst (λ (a : Ahead). IfErr c.with_room-in-Some-borrow.result (λ fault. (fault ≡ Memory) × (a.room ≡ 0) × IsRecord c.front_of-in-Some-borrow.result))
    c.in-Some-borrow.ensures.same c.with_room-in-Some-borrow.ensures.err)

pub returns-in-Some-run-clause-transition : goal.returns-in-Some-run-clause-transition
returns-in-Some-run-clause-transition g c = λ h.
    shows_lent _ _ _ _ (first_in_run _ _ _ c.in-Some-run.run' (c.requires h) (c.in-Some-run.ensures.value h) c.in-Some-run.ensures.fits)
    c.with_room-in-Some-run.ensures.value c.with_room-in-Some-run.ensures.err
