use Rattle.std.proofs.Common.{rules, ◌<◌, length, [], refl, ◌∙◌, ap, arith}
use Rattle.bk_lease.specs.declared.rule.Role.TheVariants.{Keeper}
use Rattle.bk_lease.specs.Steps.{SeatView, split_keeper_step, split_seat_step}
use Rattle.bk_lease.proofs.KeeperSteps.{undoes, grants}
use Rattle.bk_lease.proofs.KeeperSeen.{its_register, seen_as, knows, open_inside, taken_inside, count_read, room_seen, full_seen, still_at_rest}
use Rattle.bk_lease.proofs.KeeperSeen.{seen_still, seen_given}
use Rattle.bk_lease.proofs.keeper.Keeper.pin.Goals as goal

pub pinned-met-requires-clause-inside : goal.pinned-met-requires-clause-inside
pinned-met-requires-clause-inside c = let d = seen_as c.self.inside _ c.self.view_is c.self.invariant in
    let inside : c.args.slot < length c.self.inside.slots.items = taken_inside d _ _ c.requires (λ e. cc) in search rules

pub pinned-met-requires-clause-idle : goal.pinned-met-requires-clause-idle
pinned-met-requires-clause-idle c = let d = seen_as c.self.inside _ c.self.view_is c.self.invariant in
    (c.log_at-log.result, (its_register c.self.inside, knows d, open_inside d _ _ c.requires c.log_at-log.ensures, refl))

pub fetch_sub-requires : goal.fetch_sub-requires
fetch_sub-requires c = let d = seen_as c.self.inside _ c.self.view_is c.self.invariant in
    let pinned = c.pinned-met.ensures.met.1 _ _ (knows d) (open_inside d _ _ c.requires c.log_at-log.ensures) in
    let inside : c.args.slot < length c.self.inside.slots.items = taken_inside d _ _ c.requires (λ e. cc) in
    (search rules, search rules, undoes _ _ _ _ _ (ap (λ (m : SeatView). m.0) pinned.2) pinned.0 inside refl)

pub invariant_of-self : goal.invariant_of-self
invariant_of-self c = let d = seen_as c.self.inside _ c.self.view_is c.self.invariant in
    let pinned = c.pinned-met.ensures.met.1 _ _ (knows d) (open_inside d _ _ c.requires c.log_at-log.ensures) in
    still_at_rest d _ _ (c.fetch_sub.ensures.0 ∙ c.pinned-met.ensures.same.0) (c.fetch_sub.ensures.1 ∙ c.pinned-met.ensures.same.1)
    (c.fetch_sub.ensures.2 _ (ap (λ (m : SeatView). m.0) pinned.2) ∙ ap (λ (m : SeatView). (Keeper (its_register c.self.inside), m.1)) pinned.2)

pub returns-then-met-self-clause-too_many : goal.returns-then-met-self-clause-too_many
returns-then-met-self-clause-too_many c = λ _. let d = seen_as c.self.inside _ c.self.view_is c.self.invariant in
    let pinned = c.pinned-met.ensures.met.1 _ _ (knows d) (open_inside d _ _ c.requires c.log_at-log.ensures) in
    full_seen d _ _ _ _ _ pinned.1 c.pinned-met.ensures.met.2 c.if-met-self.true

pub split_seat-seat-requires : goal.split_seat-seat-requires
split_seat-seat-requires c = let d = seen_as c.self.inside _ c.self.view_is c.self.invariant in
    let pinned = c.pinned-met.ensures.met.1 _ _ (knows d) (open_inside d _ _ c.requires c.log_at-log.ensures) in
    let inside : c.args.slot < length c.self.inside.slots.items = taken_inside d _ _ c.requires (λ e. cc) in
    let count = count_read d _ _ _ _ _ pinned.1 c.pinned-met.ensures.met.2 in
    (search rules, search rules, grants _ _ _ _ _ (ap (λ (m : SeatView). m.0) pinned.2) refl (omega arith))

pub new-requires-clause-held : goal.new-requires-clause-held
new-requires-clause-held c = let d = seen_as c.self.inside _ c.self.view_is c.self.invariant in
    let pinned = c.pinned-met.ensures.met.1 _ _ (knows d) (open_inside d _ _ c.requires c.log_at-log.ensures) in
    c.split_seat-seat.ensures.4 ∙ ap (λ (m : SeatView). (split_seat_step m.0, [])) pinned.2

pub invariant_of-self-2 : goal.invariant_of-self-2
invariant_of-self-2 c = let d = seen_as c.self.inside _ c.self.view_is c.self.invariant in
    let pinned = c.pinned-met.ensures.met.1 _ _ (knows d) (open_inside d _ _ c.requires c.log_at-log.ensures) in
    still_at_rest d _ _ (c.split_seat-seat.ensures.0 ∙ c.pinned-met.ensures.same.0) (c.split_seat-seat.ensures.1 ∙ c.pinned-met.ensures.same.1)
    (c.split_seat-seat.ensures.2 ∙ ap (λ (m : SeatView). (split_keeper_step m.0, m.1)) pinned.2)

pub returns-clause-room : goal.returns-clause-room
returns-clause-room c = let d = seen_as c.self.inside _ c.self.view_is c.self.invariant in
    let pinned = c.pinned-met.ensures.met.1 _ _ (knows d) (open_inside d _ _ c.requires c.log_at-log.ensures) in
    room_seen d _ _ _ _ _ pinned.1 c.pinned-met.ensures.met.2 c.if-met-self.false

pub returns-then-met-self-clause-err : goal.returns-then-met-self-clause-err
returns-then-met-self-clause-err c = let d = seen_as c.self.inside _ c.self.view_is c.self.invariant in
    let pinned = c.pinned-met.ensures.met.1 _ _ (knows d) (open_inside d _ _ c.requires c.log_at-log.ensures) in
    seen_still d c.fetch_sub.new.seat (c.fetch_sub.ensures.0 ∙ c.pinned-met.ensures.same.0)
    (c.fetch_sub.ensures.2 _ (ap (λ (m : SeatView). m.0) pinned.2) ∙ ap (λ (m : SeatView). (Keeper (its_register c.self.inside), m.1)) pinned.2)

pub returns-clause-given : goal.returns-clause-given
returns-clause-given c = let d = seen_as c.self.inside _ c.self.view_is c.self.invariant in
    let pinned = c.pinned-met.ensures.met.1 _ _ (knows d) (open_inside d _ _ c.requires c.log_at-log.ensures) in
    seen_given d c.split_seat-seat.new.seat (c.split_seat-seat.ensures.0 ∙ c.pinned-met.ensures.same.0) (c.split_seat-seat.ensures.2
    ∙ ap (λ (m : SeatView). (split_keeper_step m.0, m.1)) pinned.2)
