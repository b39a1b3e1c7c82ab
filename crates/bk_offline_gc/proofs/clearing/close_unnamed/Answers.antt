use Rattle.bk_offline_gc.proofs.Removed.{past_after, never_open, closed_after, leased_after, retire_touches, close_touches, touches_then}
use Rattle.bk_offline_gc.proofs.clearing.close_unnamed.Goals as goal

pub unreachable-requires : goal.unreachable-requires
unreachable-requires g c =
    let past = past_after c.args.store.now c.retire.new.store c.args.log c.retire.result c.in-Retired.field-0 c.in-Retired.is c.requires c.retire.ensures.transition in
    never_open c.retire.new.store c.close.new.store c.args.log past c.close.result c.in-NoLog-close.is c.close.ensures.transition

pub returns-in-Closed-clause-touches : goal.returns-in-Closed-clause-touches
returns-in-Closed-clause-touches g c =
    touches_then c.args.store.now c.retire.new.store c.close.new.store c.args.log
    (retire_touches c.args.store.now c.retire.new.store c.args.log c.retire.result c.retire.ensures.transition)
    (close_touches c.retire.new.store c.close.new.store c.args.log c.close.result c.close.ensures.transition)

pub returns-in-Closed-clause-yes : goal.returns-in-Closed-clause-yes
returns-in-Closed-clause-yes g c =
    let past = past_after c.args.store.now c.retire.new.store c.args.log c.retire.result c.in-Retired.field-0 c.in-Retired.is c.requires c.retire.ensures.transition in
    closed_after c.retire.new.store c.close.new.store c.args.log past c.close.result c.in-Closed.is c.close.ensures.transition

pub returns-in-Leased-clause-touches : goal.returns-in-Leased-clause-touches
returns-in-Leased-clause-touches g c =
    touches_then c.args.store.now c.retire.new.store c.close.new.store c.args.log
    (retire_touches c.args.store.now c.retire.new.store c.args.log c.retire.result c.retire.ensures.transition)
    (close_touches c.retire.new.store c.close.new.store c.args.log c.close.result c.close.ensures.transition)

pub returns-in-Leased-clause-no : goal.returns-in-Leased-clause-no
returns-in-Leased-clause-no g c =
    let past = past_after c.args.store.now c.retire.new.store c.args.log c.retire.result c.in-Retired.field-0 c.in-Retired.is c.requires c.retire.ensures.transition in
    leased_after c.retire.new.store c.close.new.store c.args.log past c.close.result c.in-Leased.field-0 c.in-Leased.is c.close.ensures.transition
