-- Answers of takes, against the receipts of what was added.
use Rattle.std.specs.Prelude.{◌≡◌, ℕ, ◌-◌, ◌%◌, Bool, IsTrue, List}
use Rattle.bk_log.specs.Places.{HasEntryAt}
use Rattle.bk_store.specs.declared.answer.Taken.{Taken}
use Rattle.bk_store.specs.declared.answer.Taken.TheVariants.{Deleted, Cached, NotHeld, Leased}
use Rattle.bk_store.specs.declared.mark.Receipt.{Receipt}
use Rattle.sha2.specs.Sha256.{sha256}

-- The load deletes this ledger: the last of each eight, counted from its first one.
abbrev pub IsDoomed : ℕ → ℕ → Type 0
IsDoomed first ledger = (ledger - first) % 8 ≡ 7

-- What a right answer has: a payload with the digest of the receipt, from a cache or, on an honest
-- view, at the place of the lease; or the ledger is one that the load deletes.
abbrev pub AnswersReceipt : {V : Type 0} → (V → List ℕ) → (V → Bool) → ℕ → Receipt → Taken V → Type 0
AnswersReceipt bytes honest first receipt Deleted = IsDoomed first receipt.key.ledger
AnswersReceipt bytes honest first receipt (Cached payload) = receipt.digest ≡ sha256 payload.value.items
AnswersReceipt bytes honest first receipt NotHeld = ⊥
AnswersReceipt bytes honest first receipt (Leased lease place) = (payload : List ℕ) × (receipt.digest ≡ sha256 payload)
    × (IsTrue (honest lease.view) → HasEntryAt (bytes lease.view) place.at receipt.key payload)
