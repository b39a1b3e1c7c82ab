-- Comparison of the keys of payloads.
use Rattle.std.proofs.Common.{◌≡◌, true, ◌&&◌, eqb, eq-eqb, ap}
use Rattle.std.proofs.lemmas.Bool.{and_parts, and_from, eqb-true}
use Rattle.bk_record.specs.Key.{EntryKey}

-- two keys are equal if both their ids are
pub same_key : (a b : EntryKey) → (eqb a.ledger b.ledger && eqb a.entry b.entry) ≡ true → a ≡ b
same_key a b is =
    let parts = and_parts _ _ is in
    let ledger = eqb-true _ _ parts.0 in
    let entry = eqb-true _ _ parts.1 in
    λ i. record { ledger = ledger i; entry = entry i }

pub key_is_itself : (a b : EntryKey) → a ≡ b → (eqb a.ledger b.ledger && eqb a.entry b.entry) ≡ true
key_is_itself a b is =
    and_from _ _ (eq-eqb _ _ (ap (λ k. k.ledger) is)) (eq-eqb _ _ (ap (λ k. k.entry) is))
