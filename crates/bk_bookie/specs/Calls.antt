-- Results of takes and read-backs.
use Rattle.std.specs.Prelude.{◌≡◌, ℕ, ◌<◌, ◌≤◌, Bool, List, Some, Result, Ok, Err}
use Rattle.bk_record.specs.Key.{EntryKey}
use Rattle.bk_record.specs.Record.{key_of}
use Rattle.sha2.specs.Sha256.{sha256}
use Rattle.bk_log.specs.declared.fault.FetchFault.{FetchFault}
use Rattle.bk_log.specs.declared.fault.FetchFault.TheVariants as fetch_faults
use Rattle.bk_store.specs.State.{State}
use Rattle.bk_store.specs.Abstract.{IsLeaseOn}
use Rattle.bk_store.specs.declared.answer.Taken.{Taken}
use Rattle.bk_store.specs.declared.answer.Taken.TheVariants.{Deleted, Cached, NotHeld, Leased}
use Rattle.bk_store.specs.declared.answer.TakeFault.{TakeFault}
use Rattle.bk_store.specs.declared.mark.Receipt.{Receipt}
use Rattle.bk_bookie.specs.Passes.{PassView, ObservesTrail, IsStalePass, front_of}
use Rattle.bk_bookie.specs.Receipts.{Stands, IsMissing, IsOther, mark_of}
use Rattle.bk_bookie.specs.declared.fault.ReadBackFault.{ReadBackFault}
use Rattle.bk_bookie.specs.declared.fault.ReadBackFault.TheVariants.{Backwards, Missing, Differs, Of}

-- A take returns a payload of the key, or a lease whose view shows an entry of the key at the
-- location.
abbrev pub GivesEntry : {V F : Type 0} → (V → List ℕ) → (V → Bool) → EntryKey → Result (Taken V) F → Type 0
GivesEntry bytes honest key (Ok Deleted) = Unit {0}
GivesEntry bytes honest key (Ok (Cached payload)) = key_of payload.value.items ≡ Some key
GivesEntry bytes honest key (Ok NotHeld) = Unit {0}
GivesEntry bytes honest key (Ok (Leased lease place)) = (payload : List ℕ) × IsLeaseOn bytes honest lease place key payload
GivesEntry bytes honest key (Err fault) = Unit {0}

-- A read-back returns a payload with the key and digest of the receipt, or a lease whose view shows
-- such a payload at the location. It never returns `NotHeld`.
abbrev pub GivesBack : {V F : Type 0} → (V → List ℕ) → (V → Bool) → Receipt → Result (Taken V) F → Type 0
GivesBack bytes honest receipt (Ok Deleted) = Unit {0}
GivesBack bytes honest receipt (Ok (Cached payload)) = (key_of payload.value.items ≡ Some receipt.key) × (receipt.digest ≡ sha256 payload.value.items)
GivesBack bytes honest receipt (Ok NotHeld) = ⊥
GivesBack bytes honest receipt (Ok (Leased lease place)) =
    (payload : List ℕ) × IsLeaseOn bytes honest lease place receipt.key payload × (receipt.digest ≡ sha256 payload)
GivesBack bytes honest receipt (Err fault) = Unit {0}

-- A fetch by such a lease returns the payload of its entry. On an honest disk it finds it.
abbrev pub FetchesLeased : {T : Type 0} → (T → List ℕ) → List ℕ → Result T FetchFault → Type 0
FetchesLeased bytes payload (Ok found) = bytes found ≡ payload
FetchesLeased bytes payload (Err fetch_faults.Disk) = Unit {0}
FetchesLeased bytes payload (Err fetch_faults.NotThere) = ⊥
FetchesLeased bytes payload (Err fetch_faults.Memory) = Unit {0}
FetchesLeased bytes payload (Err fetch_faults.Odd) = ⊥

-- The result of a take as a result of a read-back.
abbrev pub read_back_result_of : {A : Type 0} → Result A TakeFault → Result A ReadBackFault
read_back_result_of (Ok answer) = Ok answer
read_back_result_of (Err fault) = Err (Of fault)

-- One critical section of a read-back. It looks up the receipt and takes its key if the mark is in
-- the trail. Otherwise, or if the trail is shorter than what the pass has observed, the store is
-- unchanged.
abbrev pub ReadBackTransition : {V : Type 0} → (State → Result (Taken V) TakeFault → State → Type 0) → Receipt → State → PassView
    → Result (Taken V) ReadBackFault → State → PassView → Type 0
ReadBackTransition turn receipt s p (Err (Backwards seen front)) t q = IsStalePass s t p q seen front
ReadBackTransition turn receipt s p (Err (Missing front)) t q = IsMissing s.ledgers.trail receipt × (front ≡ front_of s) × (t ≡ s) × ObservesTrail s t p q
ReadBackTransition turn receipt s p (Err (Differs mark)) t q = IsOther s.ledgers.trail receipt mark × (t ≡ s) × ObservesTrail s t p q
ReadBackTransition turn receipt s p (Err (Of fault)) t q = Stands s.ledgers.trail receipt × turn s (Err fault) t × ObservesTrail s t p q
ReadBackTransition turn receipt s p (Ok taken) t q = Stands s.ledgers.trail receipt × turn s (Ok taken) t × ObservesTrail s t p q

-- What a pass knows after a read-back. The length that it has observed never falls. `Missing`
-- occurs only for a number that is not below that length, so for no receipt of this pass. `Differs`
-- returns another mark than the receipt's.
abbrev pub ReadBackObserves : {V : Type 0} → PassView → Receipt → Result (Taken V) ReadBackFault → PassView → Type 0
ReadBackObserves p receipt (Err (Backwards seen front)) q = (seen ≡ p.seen) × (front < seen) × (q ≡ p)
ReadBackObserves p receipt (Err (Missing front)) q = (p.seen ≤ front) × (q.seen ≡ front) × (front ≤ receipt.number)
ReadBackObserves p receipt (Err (Differs mark)) q = (p.seen ≤ q.seen) × (receipt.number < q.seen) × ¬ (mark ≡ mark_of receipt)
ReadBackObserves p receipt (Err (Of fault)) q = (p.seen ≤ q.seen) × (receipt.number < q.seen)
ReadBackObserves p receipt (Ok taken) q = (p.seen ≤ q.seen) × (receipt.number < q.seen)
