use Rattle.std.proofs.Common.{rules, ◌<◌, length, refl, ap, ◌∙◌, ℕ}
use Rattle.bk_lease.specs.declared.slot.Slot.TheVariants.{Closed}
use Rattle.bk_lease.specs.Values.{with_state}
use Rattle.bk_lease.proofs.CloseResults.{closed_found, leased_found}
use Rattle.bk_lease.proofs.KeeperSeen.{its_register, seen_as, knows, open_inside, open_fits, taken_inside, leased_seen, met_seen, meets_seen, still_at_rest}
use Rattle.bk_lease.proofs.KeeperSeen.{at_rest_with, seen_still, seen_with}
use Rattle.bk_lease.proofs.keeper.Keeper.close.Goals as goal

pub closed-requires-clause-inside : goal.closed-requires-clause-inside
closed-requires-clause-inside c = let d = seen_as c.self.inside _ c.self.view_is c.self.invariant in
    let inside : c.args.slot < length c.self.inside.slots.items = taken_inside d _ _ c.requires (λ e. cc) in search rules

pub closed-requires-clause-open : goal.closed-requires-clause-open
closed-requires-clause-open c = let d = seen_as c.self.inside _ c.self.view_is c.self.invariant in
    (its_register c.self.inside, knows d, open_inside d _ _ c.requires c.log_at-log.ensures, refl)

pub closed-requires-clause-log : goal.closed-requires-clause-log
closed-requires-clause-log c = let d = seen_as c.self.inside _ c.self.view_is c.self.invariant in
    open_fits d _ _ (open_inside d _ _ c.requires c.log_at-log.ensures)

-- the slot was closed
pub invariant_of-self : goal.invariant_of-self
invariant_of-self c = let d = seen_as c.self.inside _ c.self.view_is c.self.invariant in let met = c.in-Ok.ensures.met in
    let is_open = open_inside d _ _ c.requires c.log_at-log.ensures in
    let hit = (met.1 _ _ (knows d) is_open).0 (closed_found c.log_at-log.result met.0 met.2) in
    at_rest_with d _ _ _ (taken_inside d _ _ c.requires (λ e. cc)) (open_fits d _ _ is_open) c.in-Ok.ensures.same.0 c.in-Ok.ensures.same.1 hit.0

pub returns-in-Ok-clause-unleased : goal.returns-in-Ok-clause-unleased
returns-in-Ok-clause-unleased c = let d = seen_as c.self.inside _ c.self.view_is c.self.invariant in let met = c.in-Ok.ensures.met in
    let hit = (met.1 _ _ (knows d) (open_inside d _ _ c.requires c.log_at-log.ensures)).0 (closed_found c.log_at-log.result met.0 met.2) in
    meets_seen d _ _ hit.1

pub returns-in-Ok-clause-closed : goal.returns-in-Ok-clause-closed
returns-in-Ok-clause-closed c = let d = seen_as c.self.inside _ c.self.view_is c.self.invariant in let met = c.in-Ok.ensures.met in
    let hit = (met.1 _ _ (knows d) (open_inside d _ _ c.requires c.log_at-log.ensures)).0 (closed_found c.log_at-log.result met.0 met.2) in
    seen_with d c.closed.new.seat _ _ c.in-Ok.ensures.same.0 hit.0 ∙ ap (λ (log : ℕ). with_state c.args.self.now c.args.slot (Closed log)) c.log_at-log.ensures

-- it was not
pub invariant_of-self-in-Err : goal.invariant_of-self-in-Err
invariant_of-self-in-Err c = let d = seen_as c.self.inside _ c.self.view_is c.self.invariant in let met = c.in-Err.ensures.met in
    let miss = leased_found c.log_at-log.result met.0 c.in-Err.count met.2 in
    let missed = (met.1 _ _ (knows d) (open_inside d _ _ c.requires c.log_at-log.ensures)).1 miss.0 in
    still_at_rest d _ _ c.in-Err.ensures.same.0 c.in-Err.ensures.same.1 (missed.0 ∙ λ j. (knows d j, c.self.inside.seat.me.1))

pub returns-in-Err-clause-leased : goal.returns-in-Err-clause-leased
returns-in-Err-clause-leased c = let d = seen_as c.self.inside _ c.self.view_is c.self.invariant in let met = c.in-Err.ensures.met in
    let miss = leased_found c.log_at-log.result met.0 c.in-Err.count met.2 in
    let missed = (met.1 _ _ (knows d) (open_inside d _ _ c.requires c.log_at-log.ensures)).1 miss.0 in
    leased_seen d _ _ _ _ _ missed.1.2 miss.1 missed.1.1

pub returns-in-Err-clause-met : goal.returns-in-Err-clause-met
returns-in-Err-clause-met c = let d = seen_as c.self.inside _ c.self.view_is c.self.invariant in let met = c.in-Err.ensures.met in
    let miss = leased_found c.log_at-log.result met.0 c.in-Err.count met.2 in
    let missed = (met.1 _ _ (knows d) (open_inside d _ _ c.requires c.log_at-log.ensures)).1 miss.0 in
    met_seen d _ _ _ _ _ missed.1.2 miss.1

pub returns-in-Err-clause-err : goal.returns-in-Err-clause-err
returns-in-Err-clause-err c = let d = seen_as c.self.inside _ c.self.view_is c.self.invariant in let met = c.in-Err.ensures.met in
    let miss = leased_found c.log_at-log.result met.0 c.in-Err.count met.2 in
    let missed = (met.1 _ _ (knows d) (open_inside d _ _ c.requires c.log_at-log.ensures)).1 miss.0 in
    seen_still d c.closed.new.seat c.in-Err.ensures.same.0 (missed.0 ∙ λ j. (knows d j, c.self.inside.seat.me.1))
