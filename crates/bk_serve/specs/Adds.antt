-- Answers to adds.
use Rattle.std.specs.Prelude.{◌≡◌, ◌⊎◌, ℕ, Bool, true, false, List, ◌++◌, Result, Ok, Err}
use Rattle.std.specs.Int.{w64, to_be_bytes}
use Rattle.bk_manifest.specs.Keeping.{Kept}
use Rattle.bk_store.specs.State.{State}
use Rattle.bk_store.specs.Transitions.{AddTransition}
use Rattle.bk_store.specs.declared.adding.AddKind.{AddKind}
use Rattle.bk_store.specs.declared.answer.Added.{Added}
use Rattle.bk_store.specs.declared.answer.Added.TheVariants.{Accepted, Held}
use Rattle.bk_store.specs.declared.answer.AddFault.{AddFault}
use Rattle.bk_store.specs.declared.answer.AddFault.TheVariants.{Full}
use Rattle.bk_serve_core.specs.Replies.{Told, done, refused, accepted, held}
use Rattle.bk_serve_core.specs.declared.refusal.Refusal.{Refusal}
use Rattle.bk_serve_core.specs.declared.refusal.Refusal.TheVariants as f
use Rattle.bk_serve.specs.CatchingUp.{CatchesUp}
use Rattle.bk_serve.specs.Flushes.{MayWork}
use Rattle.bk_serve.specs.Works.{IsEmptied}
use Rattle.bk_serve.specs.Refusals.{of_add}

-- an entry as the store keeps it
abbrev pub payload_of : ℕ → ℕ → List ℕ → List ℕ
payload_of ledger entry content = (to_be_bytes w64 ledger ++ to_be_bytes w64 entry) ++ content

abbrev pub told_of_add : Result Added AddFault → Told
told_of_add (Ok (Accepted receipt)) = done (accepted receipt.number receipt.digest)
told_of_add (Ok Held) = done held
told_of_add (Err fault) = refused (of_add fault)

-- The store answers an add.
pub record IsAdded (kind : AddKind) (payload : List ℕ) (s : State) (reply : Told) (t : State) : Type 0 where
  pub result : Result Added AddFault
  pub adds : AddTransition s kind payload result t
  pub says : reply ≡ told_of_add result

-- A flush was made, after which nothing is only cached, and then the store answers an add. Or the
-- flush failed.
pub data AddsAfterFlush (kind : AddKind) (payload : List ℕ) (s : State) (reply : Told) (t : State) : Type 0 where
  flushed : (u : State) → MayWork s u → IsEmptied u → IsAdded kind payload u reply t → AddsAfterFlush kind payload s reply t
  failed : (fault : Refusal) → reply ≡ refused fault → MayWork s t → AddsAfterFlush kind payload s reply t

-- the write cache has no room for the entry
abbrev pub is_full : Result Added AddFault → Bool
is_full (Err (Full used limit)) = true
is_full _ = false

-- The store answers an add. If there is no room for the entry, it does after a flush.
pub data AddsEntry (kind : AddKind) (payload : List ℕ) (s : State) (reply : Told) (t : State) : Type 0 where
  added : (result : Result Added AddFault) → AddTransition s kind payload result t → is_full result ≡ false → reply ≡ told_of_add result
      → AddsEntry kind payload s reply t
  flushes : (result : Result Added AddFault) (u : State) → AddTransition s kind payload result u → is_full result ≡ true
      → AddsAfterFlush kind payload u reply t → AddsEntry kind payload s reply t

-- Or there is no memory for the entry.
abbrev pub AddsContent : AddKind → List ℕ → State → Told → State → Type 0
AddsContent kind payload s reply t = ((reply ≡ refused f.Memory) × (t ≡ s)) ⊎ AddsEntry kind payload s reply t

-- An entry is added only where store and manifest agree on its ledger, so that no opening deletes it.
pub data AddAnswers (kind : AddKind) (ledger : ℕ) (payload : List ℕ) (s : State) (m : Kept) (reply : Told) (t : State) (m' : Kept) : Type 0 where
  behind : {refusal : Refusal} → reply ≡ refused refusal → CatchesUp ledger s m (Err refusal) t m' → AddAnswers kind ledger payload s m reply t m'
  agreeing : (u : State) → CatchesUp ledger s m (Ok tt) u m' → AddsContent kind payload u reply t → AddAnswers kind ledger payload s m reply t m'
