-- The abstract map that a store refines. It knows no log, no flush and no place.
use Rattle.std.specs.Prelude.{◌≡◌, ℕ, ◌+◌, ◌<◌, Bool, true, false, if◌then◌else◌, List, length, Option, Some}
use Rattle.std.specs.Prelude.{None, IsSome, unwrap_or, option_map, Result, Ok, Err, IsTrue}
use Rattle.std.specs.Option.{option_or}
use Rattle.std.specs.FinMap as finite
use Rattle.std.specs.FinSet as set
use Rattle.bk_record.specs.Key.{EntryKey}
use Rattle.bk_record.specs.Location.{Place}
use Rattle.bk_record.specs.Record.{read_added}
use Rattle.bk_record.specs.Files.{Files}
use Rattle.bk_record.specs.Scan.{Payloads, scan_of}
use Rattle.bk_record.specs.Keyed.{ledger_count, without_ledger}
use Rattle.bk_cache.specs.Caches.{used_of, AreApart}
use Rattle.bk_lease.specs.Values.{LeasedView}
use Rattle.bk_store.specs.Entries.{HasEntry}
use Rattle.bk_store.specs.Fronts.{fronts_after_swap}
use Rattle.bk_store.specs.Ledgers.{KnownLedgers, is_barred, receipt_of, with_add, with_deletion, with_fence}
use Rattle.bk_store.specs.State.{State, StoreParts}
use Rattle.bk_store.specs.Invariant.{StoreInvariant}
use Rattle.bk_store.specs.declared.adding.AddKind.{AddKind}
use Rattle.bk_store.specs.declared.fronts.Fronts.{Fronts}
use Rattle.bk_store.specs.declared.answer.Added.{Added}
use Rattle.bk_store.specs.declared.answer.Added.TheVariants.{Accepted, Held}
use Rattle.bk_store.specs.declared.answer.AddFault.{AddFault}
use Rattle.bk_store.specs.declared.answer.AddFault.TheVariants as add_faults
use Rattle.bk_store.specs.declared.answer.Taken.{Taken}
use Rattle.bk_store.specs.declared.answer.Taken.TheVariants.{Deleted, Cached, NotHeld, Leased}
use Rattle.bk_store.specs.declared.answer.TakeFault.{TakeFault}
use Rattle.bk_store.specs.declared.answer.TakeFault.TheVariants as take_faults
use Rattle.bk_store.specs.declared.answer.DeleteFault.{DeleteFault}
use Rattle.bk_store.specs.declared.answer.DeleteFault.TheVariants as delete_faults
use Rattle.bk_store.specs.declared.answer.Fence.{Fence}
use Rattle.bk_store.specs.declared.answer.Fence.TheVariants as fences
use Rattle.bk_store.specs.declared.answer.FenceFault.{FenceFault}
use Rattle.bk_store.specs.declared.answer.FenceFault.TheVariants as fence_faults
use Rattle.bk_cache.specs.declared.swap.Swap.{Swap}
use Rattle.bk_cache.specs.declared.swap.Swap.TheVariants.{Running, Nothing, Swapped}

-- State of the abstract map: the accepted entries of live ledgers, the known ledgers, which of the
-- entries are only cached, and the fronts.
pub record AbstractState : Type 0 where
  pub map : Payloads
  pub ledgers : KnownLedgers
  pub active : Payloads
  pub flush : Option Payloads
  pub fronts : Fronts

-- the ledger is deleted
abbrev pub IsDeleted : AbstractState → ℕ → Type 0
IsDeleted p ledger = set.contains p.ledgers.dead ledger ≡ true

-- the ledger is live
abbrev pub IsAlive : AbstractState → ℕ → Type 0
IsAlive p ledger = set.contains p.ledgers.dead ledger ≡ false

-- the ledger is live, and is fenced or not
abbrev pub IsFenced : AbstractState → ℕ → Type 0
IsFenced p ledger = IsAlive p ledger × (set.contains p.ledgers.fenced ledger ≡ true)

abbrev pub IsUnfenced : AbstractState → ℕ → Type 0
IsUnfenced p ledger = IsAlive p ledger × (set.contains p.ledgers.fenced ledger ≡ false)

-- the payload is an entry's of this key, its ledger is live, and no fence bars it
pub record IsLive (p : AbstractState) (kind : AddKind) (payload : List ℕ) (key : EntryKey) : Type 0 where
  pub reads : read_added payload ≡ Ok key
  pub lives : IsAlive p key.ledger
  pub unbarred : is_barred kind p.ledgers.fenced key.ledger ≡ false

-- the same, and the map does not have the key
pub record IsNew (p : AbstractState) (kind : AddKind) (payload : List ℕ) (key : EntryKey) : Type 0 where
  pub live : IsLive p kind payload key
  pub missing : finite.get p.map key ≡ None

-- the payload would take the active pairs over this many bytes
abbrev pub IsOver : ℕ → AbstractState → List ℕ → Type 0
IsOver limit p payload = limit < used_of p.active + length payload

-- An add, in order of precedence: bad, deleted, fenced, held, full, accepted. An accepted entry is
-- in the map and has a mark in the trail. Out of memory may replace an acceptance.
abbrev pub AbstractAdd : ℕ → AddKind → AbstractState → List ℕ → Result Added AddFault → AbstractState → Type 0
AbstractAdd limit kind p payload (Err (add_faults.Bad fault)) q = (read_added payload ≡ Err fault) × (q ≡ p)
AbstractAdd limit kind p payload (Err add_faults.Deleted) q = (key : EntryKey) × (read_added payload ≡ Ok key) × IsDeleted p key.ledger × (q ≡ p)
AbstractAdd limit kind p payload (Err add_faults.Fenced) q = (key : EntryKey) × (read_added payload ≡ Ok key) × IsAlive p key.ledger
    × (is_barred kind p.ledgers.fenced key.ledger ≡ true) × (q ≡ p)
AbstractAdd limit kind p payload (Ok Held) q = (key : EntryKey) × IsLive p kind payload key × IsSome (finite.get p.map key) × (q ≡ p)
AbstractAdd limit kind p payload (Err (add_faults.Full used most)) q = (key : EntryKey) × IsNew p kind payload key × IsOver limit p payload
    × (used ≡ used_of p.active) × (most ≡ limit) × (q ≡ p)
AbstractAdd limit kind p payload (Err add_faults.Memory) q = (key : EntryKey) × IsNew p kind payload key × (¬ (IsOver limit p payload)) × (q ≡ p)
AbstractAdd limit kind p payload (Ok (Accepted receipt)) q = (key : EntryKey) × IsNew p kind payload key × (¬ (IsOver limit p payload))
    × (receipt ≡ receipt_of p.ledgers.trail key payload)
    × (q ≡ record p {
      map = finite.insert p.map key payload;
      ledgers = with_add p.ledgers key payload;
      active = finite.insert p.active key payload;
    })

-- a lease on an entry: on the log of its place, with a view that is honest and has the entry there
pub record IsLeaseOn {V : Type 0} (bytes : V → List ℕ) (honest : V → Bool) (lease : LeasedView V) (place : Place) (key : EntryKey)
    (payload : List ℕ) : Type 0 where
  pub log : lease.ticket.log ≡ place.log
  pub held : lease.ticket.is_held ≡ true
  pub honest_is : IsTrue (honest lease.view)
  pub shown : HasEntry (λ _. bytes lease.view) place key payload

-- A take reports a deleted ledger, or returns the payload of the map, as bytes or as a lease, or
-- reports that there is none. Out of memory may replace a payload, and `NoSeat` or `TooMany` a
-- lease.
abbrev pub AbstractTake : {V : Type 0} → (V → List ℕ) → (V → Bool) → AbstractState → EntryKey → Result (Taken V) TakeFault → Type 0
AbstractTake bytes honest p key (Ok Deleted) = IsDeleted p key.ledger
AbstractTake bytes honest p key (Ok (Cached payload)) = IsAlive p key.ledger × (finite.get p.map key ≡ Some payload.value.items)
AbstractTake bytes honest p key (Ok NotHeld) = IsAlive p key.ledger × (finite.get p.map key ≡ None)
AbstractTake bytes honest p key (Ok (Leased lease place)) = IsAlive p key.ledger
    × ((payload : List ℕ) × (finite.get p.map key ≡ Some payload) × IsLeaseOn bytes honest lease place key payload)
AbstractTake bytes honest p key (Err take_faults.NoSeat) = IsAlive p key.ledger × IsSome (finite.get p.map key)
AbstractTake bytes honest p key (Err take_faults.TooMany) = IsAlive p key.ledger × IsSome (finite.get p.map key)
AbstractTake bytes honest p key (Err take_faults.Memory) = IsAlive p key.ledger × IsSome (finite.get p.map key)

-- the fronts after a swap with this answer
abbrev pub abstract_swapped_fronts : Swap → AbstractState → Fronts
abstract_swapped_fronts answer p = fronts_after_swap answer (length p.ledgers.trail) p.fronts

-- A swap makes the active pairs the flushing ones, and notes how many marks they have. If there is
-- nothing to flush, all marks are durable.
abbrev pub abstract_after_swap : Swap → AbstractState → AbstractState
abstract_after_swap Running p = p
abstract_after_swap Nothing p = record p { fronts = abstract_swapped_fronts Nothing p }
abstract_after_swap (Swapped n) p = record p { active = finite.empty; flush = Some p.active; fronts = abstract_swapped_fronts (Swapped n) p }

-- the state without a ledger, which is deleted from then on and no longer fenced
abbrev pub abstract_after_delete : AbstractState → ℕ → AbstractState
abstract_after_delete p ledger = record {
  map = without_ledger p.map ledger;
  ledgers = with_deletion p.ledgers ledger;
  active = without_ledger p.active ledger;
  flush = option_map (λ m. without_ledger m ledger) p.flush;
  fronts = p.fronts;
}

-- A deletion removes the pairs of a ledger, and returns how many there were.
abbrev pub AbstractDelete : AbstractState → ℕ → Result ℕ DeleteFault → AbstractState → Type 0
AbstractDelete p ledger (Err delete_faults.AlreadyDeleted) q = IsDeleted p ledger × (q ≡ p)
AbstractDelete p ledger (Err delete_faults.Memory) q = IsAlive p ledger × (q ≡ p)
AbstractDelete p ledger (Ok n) q = IsAlive p ledger × (n ≡ ledger_count p.map ledger) × (q ≡ abstract_after_delete p ledger)

-- A fence fails if its ledger is deleted. Otherwise the ledger is fenced already, or becomes fenced
-- with a mark in the trail. Out of memory may replace the latter.
abbrev pub AbstractFence : AbstractState → ℕ → Result Fence FenceFault → AbstractState → Type 0
AbstractFence p ledger (Err fence_faults.Deleted) q = IsDeleted p ledger × (q ≡ p)
AbstractFence p ledger (Ok fences.AlreadyFenced) q = IsFenced p ledger × (q ≡ p)
AbstractFence p ledger (Err fence_faults.Memory) q = IsUnfenced p ledger × (q ≡ p)
AbstractFence p ledger (Ok fences.Fenced) q = IsUnfenced p ledger × (q ≡ record p { ledgers = with_fence p.ledgers ledger })

-- ---- a store and the abstract map

-- what the pairs that are only cached have of a key
abbrev pub pending_payload : AbstractState → EntryKey → Option (List ℕ)
pending_payload p key = option_or (finite.get p.active key) (finite.get (unwrap_or p.flush finite.empty) key)

-- The map is the logical contents of the files with the pairs that are only cached: in a live
-- ledger what those pairs have of a key, else the payload of its last record in the files; in a
-- deleted ledger nothing.
abbrev pub IsContentsOf : Files → AbstractState → Type 0
IsContentsOf files p = (key : EntryKey)
    → finite.get p.map key ≡ (if set.contains p.ledgers.dead key.ledger then None else option_or (pending_payload p key) (finite.get (scan_of files) key))

-- a store refines the abstract map between two calls
pub record StoreRefines (s : State) (p : AbstractState) : Type 0 where
  pub meaning : IsContentsOf s.files p
  pub ledgers : s.ledgers ≡ p.ledgers
  pub active : s.caches.active ≡ p.active
  pub flush : s.caches.flush ≡ p.flush
  pub fronts : s.fronts ≡ p.fronts

-- The state is that of some parts that satisfy the store invariant, and no key is in both write
-- caches. Every `Store` satisfies this.
pub record SatisfiesInvariant (s : State) : Type 0 where
  pub parts : StoreParts
  pub seen : parts.state ≡ s
  pub keeps : StoreInvariant parts
  pub apart : AreApart s.caches
