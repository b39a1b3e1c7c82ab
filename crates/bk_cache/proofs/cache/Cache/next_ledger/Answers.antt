use Rattle.std.proofs.Common.{◌≡◌, arith, rules}
use Rattle.bk_cache.proofs.CacheOrder.{held_ids, no_first, first_held, first_from, first_upto, from_start, ledger_from, ledger_upto}
use Rattle.bk_cache.proofs.cache.Cache.next_ledger.Goals as goal

-- no key has such a ledger
pub returns-in_err-first-clause-least : goal.returns-in_err-first-clause-least
returns-in_err-first-clause-least c key above there =
    let ids = held_ids c.self.inside.rows c.self.inside.len c.self.inside.used c.self.invariant c.args.self.now c.self.view_is key there in
    absurd (c.in_err-first.ensures (omega (arith, above, ids.0), omega arith))

pub returns-in-Some-clause-held : goal.returns-in-Some-clause-held
returns-in-Some-clause-held c =
    let from = first_from c.self.inside.rows c.self.inside.len c.self.inside.used c.self.invariant c.args.self.now c.self.view_is c.args.from 0
    c.in_ok-first.first c.in_ok-first.ensures.1 _ c.in-Some.ensures in
    let held = first_held c.self.inside.rows c.self.inside.len c.self.inside.used c.self.invariant c.args.self.now c.self.view_is c.args.from 0
    c.in_ok-first.first c.in_ok-first.ensures.1 _ c.in-Some.ensures in
    let value : c.ledger.result ≡ c.in-Some.key.ledger = search rules in
    rw value
    (ledger_from c.args.from c.in-Some.key from, (c.in-Some.key.entry, held))

pub returns-in-Some-clause-least : goal.returns-in-Some-clause-least
returns-in-Some-clause-least c key above there =
    let upto = first_upto c.self.inside.rows c.self.inside.len c.self.inside.used c.self.invariant c.args.self.now c.self.view_is c.args.from 0
    c.in_ok-first.first c.in_ok-first.ensures.1 _ c.in-Some.ensures key there (from_start c.args.from key above) in
    let value : c.ledger.result ≡ c.in-Some.key.ledger = search rules in
    rw value (ledger_upto c.in-Some.key key upto)

-- there is none
pub returns-in-None-clause-least : goal.returns-in-None-clause-least
returns-in-None-clause-least c key above there =
    no_first c.self.inside.rows c.self.inside.len c.self.inside.used c.self.invariant c.args.self.now c.self.view_is c.args.from 0
    c.in_ok-first.first c.in_ok-first.ensures.1 c.in-None.ensures key there (from_start c.args.from key above)
