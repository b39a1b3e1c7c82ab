use Rattle.std.proofs.Common.{◌≡◌, inr, refl, sym, ◌∙◌, arith, rules}
use Rattle.bk_cache.proofs.CacheOrder.{held_ids, no_first, entry_from, entry_held, entry_least, entry_none, no_value}
use Rattle.bk_cache.proofs.cache.Cache.next_entry.Goals as goal

-- no key has such ids
pub returns-in_err-first-clause-least : goal.returns-in_err-first-clause-least
returns-in_err-first-clause-least c entry above there =
    let ids = held_ids c.self.inside.rows c.self.inside.len c.self.inside.used c.self.invariant c.args.self.now c.self.view_is _ there in
    absurd (c.in_err-first.ensures (ids.0, omega (arith, above, ids.1)))

pub returns-in-Some-clause-held : goal.returns-in-Some-clause-held
returns-in-Some-clause-held c =
    let own : c.in-Some.key.ledger ≡ c.args.ledger = sym c.ledger.ensures.value ∙ c.if-ledger.true in
    let value : c.entry.result ≡ c.in-Some.key.entry = search rules in
    rw value (
      entry_from c.self.inside.rows c.self.inside.len c.self.inside.used c.self.invariant c.args.self.now c.self.view_is c.args.ledger c.args.from
          c.in_ok-first.first c.in_ok-first.ensures.1 _ c.in-Some.ensures own,
      entry_held c.self.inside.rows c.self.inside.len c.self.inside.used c.self.invariant c.args.self.now c.self.view_is c.args.ledger c.args.from
          c.in_ok-first.first c.in_ok-first.ensures.1 _ c.in-Some.ensures own,
    )

pub returns-in-Some-clause-least : goal.returns-in-Some-clause-least
returns-in-Some-clause-least c entry above there =
    let own : c.in-Some.key.ledger ≡ c.args.ledger = sym c.ledger.ensures.value ∙ c.if-ledger.true in
    let value : c.entry.result ≡ c.in-Some.key.entry = search rules in
    rw value
    (entry_least c.self.inside.rows c.self.inside.len c.self.inside.used c.self.invariant c.args.self.now c.self.view_is c.args.ledger c.args.from
    c.in_ok-first.first c.in_ok-first.ensures.1 _ c.in-Some.ensures own entry above there)

-- the first key from there on is of another ledger
pub returns-in_default-clause-least : goal.returns-in_default-clause-least
returns-in_default-clause-least c entry above there =
    entry_none c.self.inside.rows c.self.inside.len c.self.inside.used c.self.invariant c.args.self.now c.self.view_is c.args.ledger c.args.from
    c.in_ok-first.first c.in_ok-first.ensures.1 _ c.in-Some.ensures (λ own. c.if-ledger.false (c.ledger.ensures.value ∙ own)) entry above there

-- there is none
pub returns-in_default-2-clause-least : goal.returns-in_default-2-clause-least
returns-in_default-2-clause-least c entry above there =
    no_first c.self.inside.rows c.self.inside.len c.self.inside.used c.self.invariant c.args.self.now c.self.view_is c.args.ledger c.args.from
    c.in_ok-first.first c.in_ok-first.ensures.1 (no_value _ c.first_from.result _ c.in_default.is c.first_from.ensures) _ there (inr (refl, above))
