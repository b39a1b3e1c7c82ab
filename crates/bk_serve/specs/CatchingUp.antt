-- A store catches up with what is durable of a ledger. Read `CatchesUp` first.
use Rattle.std.specs.Prelude.{◌≡◌, ℕ, Bool, true, false, [], Result, Ok, Err, is_some, IsTrue}
use Rattle.bk_manifest.specs.Keeping.{Kept, durable}
use Rattle.bk_manifest.specs.State.{last_about, the_deletion, the_fence}
use Rattle.bk_store.specs.State.{State}
use Rattle.bk_store.specs.Transitions.{DeleteTransition, FenceTransition, is_dead, is_fenced}
use Rattle.bk_store.specs.declared.answer.DeleteFault.{DeleteFault}
use Rattle.bk_store.specs.declared.answer.Fence.{Fence}
use Rattle.bk_store.specs.declared.answer.FenceFault.{FenceFault}
use Rattle.bk_serve_core.specs.declared.refusal.Refusal.{Refusal}
use Rattle.bk_serve_core.specs.declared.refusal.Refusal.TheVariants as f
use Rattle.bk_serve.specs.Notes.{IsSettleRefusal, NotesNone}

-- a deletion of the ledger is durable, and a fence
abbrev pub is_noted_deletion : Kept → ℕ → Bool
is_noted_deletion m ledger = is_some (last_about (the_deletion ledger) (durable m))

abbrev pub is_noted_fence : Kept → ℕ → Bool
is_noted_fence m ledger = is_some (last_about (the_fence ledger) (durable m))

-- What is durable of a ledger is in force.
pub record IsInForce (ledger : ℕ) (t : State) (m : Kept) : Type 0 where
  pub deletion : IsTrue m.honest → is_noted_deletion m ledger ≡ true → is_dead t ledger ≡ true
  pub fence : IsTrue m.honest → is_noted_fence m ledger ≡ true → is_dead t ledger ≡ false → is_fenced t ledger ≡ true

-- The store deletes or fences a ledger whose deletion or fence is durable, or does nothing.
pub data Follows (ledger : ℕ) (s : State) (m : Kept) (t : State) : Type 0 where
  nothing : t ≡ s → Follows ledger s m t
  deletes : (IsTrue m.honest → is_noted_deletion m ledger ≡ true) → (result : Result ℕ DeleteFault) → DeleteTransition s ledger result t
      → Follows ledger s m t
  fences : (IsTrue m.honest → is_noted_fence m ledger ≡ true) → (result : Result Fence FenceFault) → FenceTransition s ledger result t
      → Follows ledger s m t

-- What is durable of a ledger comes into force, unless memory runs out.
abbrev pub CarriesOut : ℕ → State → Kept → Result (Unit {0}) Refusal → State → Type 0
CarriesOut ledger s m (Ok done_) t = Follows ledger s m t × IsInForce ledger t m
CarriesOut ledger s m (Err refusal) t = (refusal ≡ f.Memory) × (t ≡ s)

-- Store and manifest agree on a ledger: no refused record may be in the file any more, and what is
-- durable of the ledger is in force. Or they do not, for this reason, and the store is unchanged.
abbrev pub CatchesUp : ℕ → State → Kept → Result (Unit {0}) Refusal → State → Kept → Type 0
CatchesUp ledger s m (Ok done_) t m' = NotesNone m m' × (m'.pending ≡ []) × Follows ledger s m' t × IsInForce ledger t m'
CatchesUp ledger s m (Err refusal) t m' = NotesNone m m' × IsSettleRefusal m m' refusal × (t ≡ s)
