-- The key of a payload from its first bytes.
use Rattle.std.proofs.Common.{◌≡◌, ℕ, ◌≤◌, List, length, take, drop, refl, ap, ◌∙◌, arith}
use Rattle.std.proofs.lemmas.List.{take-take, drop-take}
use Rattle.std.specs.Int.{w64, from_be_bytes}
use Rattle.bk_record.specs.Record.{key_of, ledger_field, entry_field}

ids_of-take : (payload : List ℕ) → 16 ≤ length payload → (ledger_field (take 16 payload) ≡ ledger_field payload)
    × (entry_field (take 16 payload) ≡ entry_field payload)
unfolding ledger_field entry_field
ids_of-take payload long = (
  ap (from_be_bytes w64) (take-take 8 16 payload (omega arith)),
  ap (λ (x : List ℕ). from_be_bytes w64 (take 8 x)) (drop-take 8 8 payload) ∙ ap (from_be_bytes w64) (take-take 8 8 (drop 8 payload) (omega arith)),
)

-- the key is in the first sixteen bytes
pub key_of-take : (payload : List ℕ) → 16 ≤ length payload → key_of (take 16 payload) ≡ key_of payload
unfolding key_of
key_of-take payload long = let ids = ids_of-take payload long in rw (ids.0, ids.1) refl
