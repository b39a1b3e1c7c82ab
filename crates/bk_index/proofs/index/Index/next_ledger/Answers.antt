use Rattle.std.proofs.Common.{◌≡◌, ◌⊎◌, inl, inr, ℕ, ◌<◌, ◌≤◌, arith}
use Rattle.bk_record.specs.Key.{EntryKey}
use Rattle.bk_index.proofs.OrderedKeys.{IsUpTo, no_key, first_held, first_from_start, first_key_least, upto_ledger}
use Rattle.bk_index.proofs.index.Index.next_ledger.Goals as goal

leads : (n l : ℕ) → n ≤ l → (n < l) ⊎ (n ≡ l)
leads n l above = grind arith

-- every key of a later ledger is after the first entry of this one
past_start : (from : ℕ) (k : EntryKey) → from ≤ k.ledger → IsUpTo (record { ledger = from; entry = 0 }) k
past_start from k above = elim (leads from k.ledger above) [ inl below ↦ inl below | inr same ↦ inr (same, omega arith) ]

pub returns-in_err-key-clause-least : goal.returns-in_err-key-clause-least
returns-in_err-key-clause-least c key above there =
    absurd (no_key c.self.inside.pages c.self.invariant.sorted c.args.self.now c.self.view_is c.args.from 0 c.in_err-key.ensures key there
    (past_start c.args.from key above))

pub returns-clause-held : goal.returns-clause-held
returns-clause-held c =
    let k = c.in_ok-key.key in
    let start = first_from_start c.self.inside.pages c.self.invariant.sorted c.args.self.now c.self.view_is c.args.from 0 k c.in_ok-key.ensures in
    rw c.ledger.ensures.value (
      upto_ledger (record { ledger = c.args.from; entry = 0 }) k start,
      (k.entry, first_held c.self.inside.pages c.self.invariant.sorted c.args.self.now c.self.view_is c.args.from 0 k c.in_ok-key.ensures),
    )

pub returns-clause-least : goal.returns-clause-least
returns-clause-least c key above there =
    rw c.ledger.ensures.value (upto_ledger c.in_ok-key.key key
    (first_key_least c.self.inside.pages c.self.invariant.sorted c.args.self.now c.self.view_is c.args.from 0 c.in_ok-key.key c.in_ok-key.ensures key there
    (past_start c.args.from key above)))
