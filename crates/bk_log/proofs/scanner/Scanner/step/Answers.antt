use Rattle.std.proofs.Common.{sym, ◌∙◌, ap, subst, Some, true, ◌+◌, ◌-◌}
use Rattle.std.specs.Int.{w32, cast_signed, cast_unsigned}
use Rattle.bk_log.specs.declared.fault.ScanFault.TheVariants.{BadLength}
use Rattle.bk_log.specs.declared.front.Front.TheVariants.{Record}
use Rattle.bk_log.specs.Ahead.{Ahead, HasRoomFor}
use Rattle.bk_log.specs.Scanning.{Scan, IsGiven}
use Rattle.bk_log.specs.Scanned.{window_scan, KeepsScan}
use Rattle.bk_log.proofs.Kept.{going_on, skipped_window, kept_foreign, kept_entry, kept_rest, kept_bad, given_next, front_here, fits_here}
use Rattle.bk_log.proofs.scanner.Scanner.step.Goals as goal

pub invariant_of-self : goal.invariant_of-self
invariant_of-self g c =
    let s = c.self.inside in
    let going = going_on s.window _ _ _ _ _ _ _ _ c.self.view_is c.requires in
    let shown = c.in-Ok-Record.field-0-is ∙ ap (Record c.in-Ok-Record.size) c.in_default.is in
    let fits = fits_here s.window s.end _ _ _ c.at-at.ensures shown c.in-Ok-Record.ensures.fits in
    let made = subst (HasRoomFor c.front.new.self.room) c.in-Ok-Record.field-0-is c.in-Ok-Record.ensures.room in
    subst (λ (w : Ahead). KeepsScan w s.from s.end s.given (s.foreign + 1) s.torn s.ended s.fault)
    (sym (skipped_window s.window _ _ _ c.front.ensures.same (rw c.from.ensures at c.skip.ensures)))
    (kept_foreign s.window _ _ _ _ _ _ _ _ _ _ c.self.invariant made going.0 going.1 fits.0 fits.1
    (front_here s.window s.end _ _ _ c.at-at.ensures shown c.in-Ok-Record.ensures.transition))

pub invariant_of-self-in-Ok-Record : goal.invariant_of-self-in-Ok-Record
invariant_of-self-in-Ok-Record g c =
    let s = c.self.inside in
    let going = going_on s.window _ _ _ _ _ _ _ _ c.self.view_is c.requires in
    let shown = c.in-Ok-Record.field-0-is ∙ ap (Record c.in-Ok-Record.size) c.in-Some.is in
    let fits = fits_here s.window s.end _ _ _ c.at-at.ensures shown c.in-Ok-Record.ensures.fits in
    let made = subst (HasRoomFor c.front.new.self.room) c.in-Ok-Record.field-0-is c.in-Ok-Record.ensures.room in
    subst (λ (w : Ahead). KeepsScan w s.from s.end (s.given + 1) s.foreign s.torn s.ended s.fault)
    (sym (skipped_window s.window _ _ _ c.front.ensures.same (rw c.from.ensures at c.skip.ensures)))
    (kept_entry s.window _ _ _ _ _ _ _ _ _ _ _ c.self.invariant made going.0 going.1 fits.0 fits.1
    (front_here s.window s.end _ _ _ c.at-at.ensures shown c.in-Ok-Record.ensures.transition))

pub returns-in-Some-clause-transition : goal.returns-in-Some-clause-transition
returns-in-Some-clause-transition g c = λ h.
    let s = c.self.inside in
    let shown = c.in-Ok-Record.field-0-is ∙ ap (Record c.in-Ok-Record.size) c.in-Some.is in
    let honest = ap (λ (v : Scan). v.honest) c.self.view_is ∙ h in
    let front = front_here s.window s.end _ _ _ c.at-at.ensures shown c.in-Ok-Record.ensures.transition honest in
    let fits = fits_here s.window s.end _ _ _ c.at-at.ensures shown c.in-Ok-Record.ensures.fits in
    subst (λ (v : Scan). IsGiven v (record { key = c.in-Some.key; at = c.at-at.result + 4; size = c.in-Ok-Record.size }) s.foreign) c.self.view_is
    (subst (λ n. IsGiven (window_scan s.window s.from s.end s.given s.foreign s.torn s.ended s.fault)
    (record { key = c.in-Some.key; at = n + 4; size = c.in-Ok-Record.size }) s.foreign) (sym c.at-at.ensures)
    (given_next s.window s.from s.end s.given s.foreign s.torn c.in-Ok-Record.size s.ended s.fault c.in-Some.key c.self.invariant honest fits.1 front))

pub invariant_of-self-in-Ok-Rest : goal.invariant_of-self-in-Ok-Rest
invariant_of-self-in-Ok-Rest g c =
    let s = c.self.inside in
    let going = going_on s.window _ _ _ _ _ _ _ _ c.self.view_is c.requires in
    subst (λ (w : Ahead). KeepsScan w s.from s.end s.given s.foreign (s.end - c.at-at.result) true s.fault) (sym c.front.ensures.same)
    (subst (λ n. KeepsScan (record s.window { ready = c.front.new.self.ready; room = c.front.new.self.room }) s.from s.end s.given s.foreign (s.end - n) true
    s.fault) (sym c.at-at.ensures)
    (kept_rest s.window _ _ _ _ _ _ _ _ _ c.self.invariant going.1 (front_here s.window s.end _ _ _ c.at-at.ensures c.in-Ok-Rest.field-0-is
    c.in-Ok-Rest.ensures.transition)))

pub invariant_of-self-in-Ok-Bad : goal.invariant_of-self-in-Ok-Bad
invariant_of-self-in-Ok-Bad g c =
    let s = c.self.inside in
    let going = going_on s.window _ _ _ _ _ _ _ _ c.self.view_is c.requires in
    subst (λ (w : Ahead). KeepsScan w s.from s.end s.given s.foreign s.torn s.ended (Some
    (BadLength c.at-at.result (cast_signed w32 (cast_unsigned w32 c.in-Ok-Bad.length))))) (sym c.front.ensures.same)
    (subst (λ n. KeepsScan (record s.window { ready = c.front.new.self.ready; room = c.front.new.self.room }) s.from s.end s.given s.foreign s.torn s.ended
    (Some (BadLength n (cast_signed w32 (cast_unsigned w32 c.in-Ok-Bad.length))))) (sym c.at-at.ensures)
    (kept_bad s.window _ _ _ _ _ _ _ _ _ _ c.self.invariant going.0 (front_here s.window s.end _ _ _ c.at-at.ensures c.in-Ok-Bad.field-0-is
    c.in-Ok-Bad.ensures.transition)))
