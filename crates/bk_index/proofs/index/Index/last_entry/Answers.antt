use Rattle.std.proofs.Common.{sym, subst, ◌∙◌, arith, IsSome}
use Rattle.std.specs.FinMap as map
use Rattle.bk_record.specs.Key.{EntryKey}
use Rattle.bk_index.proofs.OrderedKeys.{no_last, last_held, last_within, last_key_greatest, upto_ledger, upto_entry}
use Rattle.bk_index.proofs.index.Index.last_entry.Goals as goal

pub returns-in_err-key-clause-greatest : goal.returns-in_err-key-clause-greatest
returns-in_err-key-clause-greatest c entry there =
    absurd (no_last c.self.inside.pages c.self.invariant.sorted c.args.self.now c.self.view_is c.args.ledger c.in_err-key.ensures
    (record { ledger = c.args.ledger; entry = entry }) there (omega arith))

pub returns-then-ledger-clause-held : goal.returns-then-ledger-clause-held
returns-then-ledger-clause-held c =
    let k = c.in_ok-key.key in
    let own = sym c.ledger.ensures.value ∙ c.if-ledger.true in
    let held = last_held c.self.inside.pages c.self.invariant.sorted c.args.self.now c.self.view_is c.args.ledger k c.in_ok-key.ensures in
    rw c.entry.ensures.value (subst (λ (q : EntryKey). IsSome (map.get c.args.self.now q)) (λ i. record { ledger = own i; entry = k.entry }) held)

pub returns-then-ledger-clause-greatest : goal.returns-then-ledger-clause-greatest
returns-then-ledger-clause-greatest c entry there =
    let k = c.in_ok-key.key in
    let own = sym c.ledger.ensures.value ∙ c.if-ledger.true in
    rw c.entry.ensures.value (upto_entry (record { ledger = c.args.ledger; entry = entry }) k (sym own)
    (last_key_greatest c.self.inside.pages c.self.invariant.sorted c.args.self.now c.self.view_is c.args.ledger k c.in_ok-key.ensures
    (record { ledger = c.args.ledger; entry = entry }) there (omega arith)))

pub returns-else-ledger-clause-greatest : goal.returns-else-ledger-clause-greatest
returns-else-ledger-clause-greatest c entry there =
    let k = c.in_ok-key.key in
    let under = last_within c.self.inside.pages c.self.invariant.sorted c.args.self.now c.self.view_is c.args.ledger k c.in_ok-key.ensures in
    let over = upto_ledger (record { ledger = c.args.ledger; entry = entry }) k
    (last_key_greatest c.self.inside.pages c.self.invariant.sorted c.args.self.now c.self.view_is c.args.ledger k c.in_ok-key.ensures
    (record { ledger = c.args.ledger; entry = entry }) there (omega arith)) in
    c.if-ledger.false (omega (arith, under, over, c.ledger.ensures.value))
