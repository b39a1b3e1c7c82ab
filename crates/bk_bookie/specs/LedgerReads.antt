-- Reads by ledger, as a pass gets them.
use Rattle.std.specs.Prelude.{◌≡◌, ℕ, ◌≤◌, List, length, Result, Ok, Err}
use Rattle.std.specs.List.{All}
use Rattle.std.specs.List.Sorted.{IsStrictlyIncreasing}
use Rattle.bk_store.specs.State.{State}
use Rattle.bk_bookie.specs.Passes.{PassView, ObservesTrail, IsStalePass}
use Rattle.bk_bookie.specs.declared.fault.CallFault.{CallFault}
use Rattle.bk_bookie.specs.declared.fault.CallFault.TheVariants.{Backwards, Of}

-- One critical section of a read: an answer that the store gives, or none if the trail is shorter
-- than the pass has observed. The store is unchanged.
abbrev pub ReadTransition : {A F : Type 0} → (State → A → Type 0) → State → PassView → Result A (CallFault F) → PassView → Type 0
ReadTransition gives s p (Err (Backwards seen front)) q = IsStalePass s s p q seen front
ReadTransition gives s p (Err (Of fault)) q = ObservesTrail s s p q
ReadTransition gives s p (Ok answer) q = gives s answer × ObservesTrail s s p q

-- A page of at most `most` ids from this one on, which rise.
pub record IsPageFrom (from most : ℕ) (page : List ℕ) : Type 0 where
  pub within : length page ≤ most
  pub rising : IsStrictlyIncreasing page
  pub each : All (λ n. from ≤ n) page
