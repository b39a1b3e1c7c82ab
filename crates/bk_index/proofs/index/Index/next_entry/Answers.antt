use Rattle.std.proofs.Common.{inr, refl, sym, subst, ◌∙◌, arith, IsSome}
use Rattle.std.specs.FinMap as map
use Rattle.bk_record.specs.Key.{EntryKey}
use Rattle.bk_index.proofs.OrderedKeys.{no_key, first_held, first_from_start, first_key_least, upto_ledger, upto_entry}
use Rattle.bk_index.proofs.index.Index.next_entry.Goals as goal

pub returns-in_err-key-clause-least : goal.returns-in_err-key-clause-least
returns-in_err-key-clause-least c entry above there =
    absurd (no_key c.self.inside.pages c.self.invariant.sorted c.args.self.now c.self.view_is c.args.ledger c.args.from c.in_err-key.ensures
    (record { ledger = c.args.ledger; entry = entry }) there (inr (refl, above)))

pub returns-then-ledger-clause-held : goal.returns-then-ledger-clause-held
returns-then-ledger-clause-held c =
    let k = c.in_ok-key.key in
    let own = sym c.ledger.ensures.value ∙ c.if-ledger.true in
    let start = first_from_start c.self.inside.pages c.self.invariant.sorted c.args.self.now c.self.view_is c.args.ledger c.args.from k c.in_ok-key.ensures in
    let held = first_held c.self.inside.pages c.self.invariant.sorted c.args.self.now c.self.view_is c.args.ledger c.args.from k c.in_ok-key.ensures in
    rw c.entry.ensures.value (
      upto_entry (record { ledger = c.args.ledger; entry = c.args.from }) k (sym own) start,
      subst (λ (q : EntryKey). IsSome (map.get c.args.self.now q)) (λ i. record { ledger = own i; entry = k.entry }) held,
    )

pub returns-then-ledger-clause-least : goal.returns-then-ledger-clause-least
returns-then-ledger-clause-least c entry above there =
    let k = c.in_ok-key.key in
    let own = sym c.ledger.ensures.value ∙ c.if-ledger.true in
    rw c.entry.ensures.value (upto_entry k (record { ledger = c.args.ledger; entry = entry }) own
    (first_key_least c.self.inside.pages c.self.invariant.sorted c.args.self.now c.self.view_is c.args.ledger c.args.from k c.in_ok-key.ensures
    (record { ledger = c.args.ledger; entry = entry }) there (inr (refl, above))))

pub returns-else-ledger-clause-least : goal.returns-else-ledger-clause-least
returns-else-ledger-clause-least c entry above there =
    let k = c.in_ok-key.key in
    let start = first_from_start c.self.inside.pages c.self.invariant.sorted c.args.self.now c.self.view_is c.args.ledger c.args.from k c.in_ok-key.ensures in
    let low = upto_ledger (record { ledger = c.args.ledger; entry = c.args.from }) k start in
    let high = upto_ledger k (record { ledger = c.args.ledger; entry = entry })
    (first_key_least c.self.inside.pages c.self.invariant.sorted c.args.self.now c.self.view_is c.args.ledger c.args.from k c.in_ok-key.ensures
    (record { ledger = c.args.ledger; entry = entry }) there (inr (refl, above))) in
    c.if-ledger.false (omega (arith, low, high, c.ledger.ensures.value))
