-- Frame conditions: what a step of a store leaves unchanged.
use Rattle.std.specs.Prelude.{◌≡◌, ◌≢◌, ℕ, ◌<◌, None}
use Rattle.std.specs.FinMap as finite
use Rattle.bk_lease.specs.Leases.{state_at}
use Rattle.bk_lease.specs.Values.{SlotTable}
use Rattle.bk_lease.specs.declared.slot.Slot.TheVariants.{Free}
use Rattle.bk_store.specs.State.{State}

-- the log is not held, and its id is never used again
abbrev pub IsRemovedLog : State → ℕ → Type 0
IsRemovedLog s log = (finite.get s.logs log ≡ None) × (log < s.next)

-- Unchanged by every step: the settings, the known ledgers, and each removed log.
pub record CoreUnchanged (s t : State) : Type 0 where
  pub settings : t.settings ≡ s.settings
  pub ledgers : t.ledgers ≡ s.ledgers
  pub gone : (log : ℕ) → IsRemovedLog s log → IsRemovedLog t log

-- the write caches and the fronts are unchanged
pub record CachesUnchanged (s t : State) : Type 0 where
  pub active : t.caches.active ≡ s.caches.active
  pub flush : t.caches.flush ≡ s.caches.flush
  pub fronts : t.fronts ≡ s.fronts

-- each occupied slot is unchanged: the log in it, and whether it is closed to leases
pub record SlotsUnchanged (old new : SlotTable) : Type 0 where
  pub table : new.table ≡ old.table
  pub stay : (slot : ℕ) → state_at old.slots slot ≢ Free → state_at new.slots slot ≡ state_at old.slots slot

-- all three frame conditions, which most steps preserve
abbrev pub FrameUnchanged : State → State → Type 0
FrameUnchanged s t = CoreUnchanged s t × CachesUnchanged s t × SlotsUnchanged s.keeper t.keeper
