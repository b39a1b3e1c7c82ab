use Rattle.std.proofs.Common.{rules, ◌<◌, length, arith}
use Rattle.bk_lease.proofs.KeeperSteps.{frees}
use Rattle.bk_lease.proofs.KeeperSeen.{seen_as, knows, state_inside, taken_inside, at_rest_with, seen_with}
use Rattle.bk_lease.proofs.keeper.Keeper.free.Goals as goal

pub store-requires : goal.store-requires
store-requires c = let d = seen_as c.self.inside _ c.self.view_is c.self.invariant in
    let inside : c.args.closed.slot < length c.self.inside.slots.items = taken_inside d _ _ c.requires (λ e. cc) in
    (search rules, search rules, frees _ _ _ _ _ (knows d) c.args.closed.log (state_inside d _ _ c.requires))

pub invariant_of-self : goal.invariant_of-self
invariant_of-self c = let d = seen_as c.self.inside _ c.self.view_is c.self.invariant in
    at_rest_with d _ _ _ (taken_inside d _ _ c.requires (λ e. cc)) (omega arith) c.store.ensures.0 c.store.ensures.1 (c.store.ensures.2 _ (knows d))

pub returns : goal.returns
returns c = let d = seen_as c.self.inside _ c.self.view_is c.self.invariant in
    seen_with d c.store.new.seat _ _ c.store.ensures.0 (c.store.ensures.2 _ (knows d))
