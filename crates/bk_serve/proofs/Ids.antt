-- Ids that are out of range.
use Rattle.std.proofs.Common.{ℕ, ◌<◌, ◌^◌, inl, inr, refl}
use Rattle.std.proofs.lemmas.Bool.{cases_lt}
use Rattle.bk_store.specs.State.{State}
use Rattle.bk_serve_core.specs.Replies.{refused}
use Rattle.bk_serve_core.specs.declared.refusal.Refusal.TheVariants as f
use Rattle.bk_serve.specs.Reads.{IsNegative, IsRefused}

pub negative : (ledger entry_id : ℕ) → ¬ ((ledger < 2 ^ 63) × (entry_id < 2 ^ 63)) → IsNegative ledger entry_id
negative ledger entry_id outside =
    elim (cases_lt ledger (2 ^ 63)) [
      | inl below ↦ elim (cases_lt entry_id (2 ^ 63)) [ inl under ↦ absurd (outside (below, under)) | inr above ↦ inr above ]
      | inr above ↦ inl above
    ]

pub refuses_ids : (ledger entry_id : ℕ) (s : State) → ¬ ((ledger < 2 ^ 63) × (entry_id < 2 ^ 63)) → IsRefused ledger entry_id s (refused f.Negative) s
refuses_ids ledger entry_id s outside = record { says = refl; negative = negative ledger entry_id outside; same = refl }
