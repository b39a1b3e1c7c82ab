-- Answers about ledgers: fences, deletions and attributes, which a manifest keeps. Read
-- `DeleteAnswers` first.
use Rattle.std.specs.Prelude.{◌≡◌, ◌⊎◌, ℕ, ◌≤◌, ◌^◌, Bool, true, false, ◌&&◌, not, List, Option, Some, None, Result, Ok, Err, IsTrue}
use Rattle.bk_manifest.specs.Fact.{deleted_ledger, fenced_ledger, attribute}
use Rattle.bk_manifest.specs.Keeping.{Kept, durable}
use Rattle.bk_manifest.specs.State.{last_about, the_attribute, attribute_bytes}
use Rattle.bk_store.specs.State.{State}
use Rattle.bk_store.specs.Transitions.{DeleteTransition, FenceTransition, is_dead}
use Rattle.bk_store.specs.declared.answer.DeleteFault.{DeleteFault}
use Rattle.bk_store.specs.declared.answer.Fence.{Fence}
use Rattle.bk_store.specs.declared.answer.Fence.TheVariants as fences
use Rattle.bk_store.specs.declared.answer.FenceFault.{FenceFault}
use Rattle.bk_serve_core.specs.Replies as r
use Rattle.bk_serve_core.specs.Replies.{Told, done, refused}
use Rattle.bk_serve_core.specs.declared.refusal.Refusal.{Refusal}
use Rattle.bk_serve_core.specs.declared.refusal.Refusal.TheVariants as f
use Rattle.bk_serve.specs.CatchingUp.{is_noted_fence}
use Rattle.bk_serve.specs.Notes.{Notes, NoteTransition}
use Rattle.bk_serve.specs.Refusals.{of_delete, of_fence}

-- ---- requests that are refused before they do anything

-- The number is no ledger id.
pub record IsBadLedger (ledger : ℕ) (reply : Told) : Type 0 where
  pub negative : 2 ^ 63 ≤ ledger
  pub says : reply ≡ refused f.Negative

-- The ledger is deleted.
pub record IsGone (s : State) (ledger : ℕ) (refusal : Refusal) (reply : Told) : Type 0 where
  pub dead : is_dead s ledger ≡ true
  pub says : reply ≡ refused refusal

-- Nothing changes.
abbrev pub Same : State → Kept → State → Kept → Type 0
Same s m t m' = (t ≡ s) × (m' ≡ m)

-- ---- deletions

abbrev pub told_of_delete : Result ℕ DeleteFault → Told
told_of_delete (Ok entries) = done (r.dropped entries)
told_of_delete (Err fault) = refused (of_delete fault)

-- A deletion is durable before the store deletes the ledger.
pub data DeleteAnswers (ledger : ℕ) (s : State) (m : Kept) (reply : Told) (t : State) (m' : Kept) : Type 0 where
  bad : IsBadLedger ledger reply → Same s m t m' → DeleteAnswers ledger s m reply t m'
  gone : IsGone s ledger f.AlreadyDeleted reply → Same s m t m' → DeleteAnswers ledger s m reply t m'
  unnoted : {refusal : Refusal} → reply ≡ refused refusal → NoteTransition (deleted_ledger ledger) m (Err refusal) m' → t ≡ s
      → DeleteAnswers ledger s m reply t m'
  deletes : (result : Result ℕ DeleteFault) → Notes (deleted_ledger ledger) m m' → DeleteTransition s ledger result t
      → reply ≡ told_of_delete result → DeleteAnswers ledger s m reply t m'

-- ---- fences

-- A fence becomes durable, or it is.
abbrev pub IsNotedFence : ℕ → Kept → Kept → Type 0
IsNotedFence ledger m m' = Notes (fenced_ledger ledger) m m' ⊎ ((IsTrue m.honest → is_noted_fence m ledger ≡ true) × (m' ≡ m))

abbrev pub told_of_fence : Result Fence FenceFault → Told
told_of_fence (Ok fences.Fenced) = done r.fenced_now
told_of_fence (Ok fences.AlreadyFenced) = done r.fenced_before
told_of_fence (Err fault) = refused (of_fence fault)

-- A fence is durable before the store fences the ledger.
pub data FenceAnswers (ledger : ℕ) (s : State) (m : Kept) (reply : Told) (t : State) (m' : Kept) : Type 0 where
  bad : IsBadLedger ledger reply → Same s m t m' → FenceAnswers ledger s m reply t m'
  gone : IsGone s ledger f.Deleted reply → Same s m t m' → FenceAnswers ledger s m reply t m'
  unnoted : {refusal : Refusal} → reply ≡ refused refusal → NoteTransition (fenced_ledger ledger) m (Err refusal) m' → t ≡ s
      → FenceAnswers ledger s m reply t m'
  fencing : (result : Result Fence FenceFault) → IsNotedFence ledger m m' → FenceTransition s ledger result t
      → reply ≡ told_of_fence result → FenceAnswers ledger s m reply t m'

abbrev pub told_of_bool : Bool → Told
told_of_bool true = done r.says_yes
told_of_bool false = done r.says_no

-- A live ledger is fenced if its fence is durable.
abbrev pub IsFencedAnswers : ℕ → State → Kept → Told → Type 0
IsFencedAnswers ledger s m reply = IsBadLedger ledger reply
    ⊎ (IsTrue m.honest → reply ≡ told_of_bool (not (is_dead s ledger) && is_noted_fence m ledger))

-- ---- attributes

-- An attribute of a live ledger is durable before it is answered.
pub data SetAnswers (kind ledger : ℕ) (value : List ℕ) (s : State) (m : Kept) (reply : Told) (m' : Kept) : Type 0 where
  bad : IsBadLedger ledger reply → m' ≡ m → SetAnswers kind ledger value s m reply m'
  gone : IsGone s ledger f.Deleted reply → m' ≡ m → SetAnswers kind ledger value s m reply m'
  unnoted : {refusal : Refusal} → reply ≡ refused refusal → NoteTransition (attribute ledger kind value) m (Err refusal) m'
      → SetAnswers kind ledger value s m reply m'
  stores : Notes (attribute ledger kind value) m m' → is_dead s ledger ≡ false → reply ≡ done r.stored → SetAnswers kind ledger value s m reply m'

abbrev pub told_of_attribute : Option (List ℕ) → Told
told_of_attribute (Some value) = done (r.attribute value)
told_of_attribute None = done r.no_attribute

-- The reply has the attribute of a live ledger that is durable.
pub data GetAnswers (kind ledger : ℕ) (s : State) (m : Kept) (reply : Told) : Type 0 where
  bad : IsBadLedger ledger reply → GetAnswers kind ledger s m reply
  gone : IsGone s ledger f.Deleted reply → GetAnswers kind ledger s m reply
  gets : is_dead s ledger ≡ false → (IsTrue m.honest → reply ≡ told_of_attribute (attribute_bytes (last_about (the_attribute ledger kind) (durable m))))
      → GetAnswers kind ledger s m reply
