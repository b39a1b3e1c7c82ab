-- Specification value of a pass, and what a pass knows after a call.
use Rattle.std.specs.Prelude.{◌≡◌, ℕ, ◌<◌, ◌≤◌, length, Result, Ok, Err}
use Rattle.bk_store.specs.State.{State}
use Rattle.bk_bookie.specs.declared.fault.CallFault.{CallFault}
use Rattle.bk_bookie.specs.declared.fault.CallFault.TheVariants.{Backwards, Of}

-- A pass: the number of its accepted adds, and the length of the longest trail that it has
-- observed.
pub record PassView : Type 0 where
  pub adds : ℕ
  pub seen : ℕ

-- Length of the trail of a store.
abbrev pub front_of : State → ℕ
front_of s = length s.ledgers.trail

-- The trail before the call is at least as long as the pass had observed, and the pass has observed
-- the trail after it.
pub record ObservesTrail (s t : State) (p q : PassView) : Type 0 where
  pub before : p.seen ≤ front_of s
  pub after : q.seen ≡ front_of t

-- The trail is shorter than the pass has observed, and nothing changes.
pub record IsStalePass (s t : State) (p q : PassView) (seen front : ℕ) : Type 0 where
  pub seen_is : seen ≡ p.seen
  pub front_is : front ≡ front_of s
  pub shorter : front < seen
  pub store : t ≡ s
  pub pass : q ≡ p

-- The result of a call of the store, as a pass gets it.
abbrev pub call_result_of : {A F : Type 0} → Result A F → Result A (CallFault F)
call_result_of (Ok answer) = Ok answer
call_result_of (Err fault) = Err (Of fault)

-- One critical section: one transition of the store, or none if the trail is shorter than the pass
-- has observed.
abbrev pub PassTransition : {A F : Type 0} → (State → Result A F → State → Type 0) → State → PassView → Result A (CallFault F) → State → PassView → Type 0
PassTransition turn s p (Err (Backwards seen front)) t q = IsStalePass s t p q seen front
PassTransition turn s p (Err (Of fault)) t q = turn s (Err fault) t × ObservesTrail s t p q
PassTransition turn s p (Ok answer) t q = turn s (Ok answer) t × ObservesTrail s t p q

-- What a pass knows after a call. The length that it has observed never falls. With `Backwards` the
-- pass is unchanged.
abbrev pub SeenIsMonotone : {A F : Type 0} → PassView → Result A (CallFault F) → PassView → Type 0
SeenIsMonotone p (Err (Backwards seen front)) q = (seen ≡ p.seen) × (front < seen) × (q ≡ p)
SeenIsMonotone p (Err (Of fault)) q = p.seen ≤ q.seen
SeenIsMonotone p (Ok answer) q = p.seen ≤ q.seen
