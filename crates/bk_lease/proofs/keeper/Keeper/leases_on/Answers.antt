use Rattle.std.proofs.Common.{◌≡◌, ◌<◌, length, refl, sym, ◌∙◌}
use Rattle.std.proofs.lemmas.List.{get_or_read_under}
use Rattle.bk_lease.specs.declared.slot.Slot.TheVariants.{Open}
use Rattle.bk_lease.specs.Leases.{state_at}
use Rattle.bk_lease.proofs.KeeperSeen.{seen_as, knows, slot_inside, met_seen, open_seen}
use Rattle.bk_lease.proofs.keeper.Keeper.leases_on.Goals as goal

pub returns-in-Open-clause-count : goal.returns-in-Open-clause-count
returns-in-Open-clause-count c = let d = seen_as c.self.inside _ c.self.view_is c.self.invariant in let met = c.counted.ensures.met in
    let inside : c.args.slot < length c.self.inside.slots.items = slot_inside d _ c.requires in
    let is_open : state_at c.self.inside.slots.items c.args.slot ≡ Open c.in-Open.field-0 = sym (get_or_read_under _ _ _ _ _ c.index.ensures inside refl) ∙ c.in-Open.is in
    open_seen d _ _ _ is_open (met_seen d _ _ _ _ _ (met.1.1 _ _ (knows d) is_open).1 met.2)
