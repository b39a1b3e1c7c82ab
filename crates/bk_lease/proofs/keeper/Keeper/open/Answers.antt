use Rattle.std.proofs.Common.{rules}
use Rattle.bk_lease.proofs.KeeperSteps.{opens}
use Rattle.bk_lease.proofs.KeeperSeen.{seen_as, knows, slot_inside, may_inside, at_rest_with, seen_with}
use Rattle.bk_lease.proofs.keeper.Keeper.open.Goals as goal

pub store-requires : goal.store-requires
store-requires c = let d = seen_as c.self.inside _ c.self.view_is c.self.invariant in (
  search rules,
  search rules,
  opens _ _ _ _ _ (knows d) c.args.log _ (slot_inside d _ c.requires.slot) c.requires.log
      (may_inside d _ c.requires.may_open) c.unleased.ensures,
)

pub invariant_of-self : goal.invariant_of-self
invariant_of-self c = let d = seen_as c.self.inside _ c.self.view_is c.self.invariant in
    at_rest_with d _ _ _ (slot_inside d _ c.requires.slot) c.requires.log c.store.ensures.0 c.store.ensures.1
    (c.store.ensures.2 c.args.log c.unleased.ensures _ (knows d))

pub returns : goal.returns
returns c = let d = seen_as c.self.inside _ c.self.view_is c.self.invariant in
    seen_with d c.store.new.seat _ _ c.store.ensures.0 (c.store.ensures.2 c.args.log c.unleased.ensures _ (knows d))
