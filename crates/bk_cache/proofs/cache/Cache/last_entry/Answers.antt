use Rattle.std.proofs.Common.{arith}
use Rattle.bk_cache.proofs.CacheOrder.{held_ids, no_last, last_held, last_entry, named, unnamed}
use Rattle.bk_cache.proofs.cache.Cache.last_entry.Goals as goal

-- no key has such a ledger
pub returns-then-ledger-gt-LAST_ID-clause-greatest : goal.returns-then-ledger-gt-LAST_ID-clause-greatest
returns-then-ledger-gt-LAST_ID-clause-greatest c entry there =
    let ids = held_ids c.self.inside.rows c.self.inside.len c.self.inside.used c.self.invariant c.args.self.now c.self.view_is _ there in
    omega (arith, ids.0)

-- the ledger has no entry
pub returns-in_err-key-clause-greatest : goal.returns-in_err-key-clause-greatest
returns-in_err-key-clause-greatest c entry there =
    absurd (no_last c.self.inside.rows c.self.inside.len c.self.inside.used c.self.invariant c.args.self.now c.self.view_is c.args.ledger
    (unnamed _ c.in_err-key.ensures) entry there)

pub returns-clause-held : goal.returns-clause-held
returns-clause-held c =
    let x = named c.in_ok-key.key _ c.in_ok-key.ensures in
    rw (c.entry.ensures.value, x.2)
    (last_held c.self.inside.rows c.self.inside.len c.self.inside.used c.self.invariant c.args.self.now c.self.view_is c.args.ledger x.0 x.1)

pub returns-clause-greatest : goal.returns-clause-greatest
returns-clause-greatest c entry there =
    let x = named c.in_ok-key.key _ c.in_ok-key.ensures in
    rw (c.entry.ensures.value, x.2)
    (last_entry c.self.inside.rows c.self.inside.len c.self.inside.used c.self.invariant c.args.self.now c.self.view_is c.args.ledger x.0 x.1 entry there)
