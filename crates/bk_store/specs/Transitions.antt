-- Transitions of a store that do not use the device: add, take, delete, fence, swap.
use Rattle.std.specs.Prelude.{◌≡◌, ◌⊎◌, ℕ, ◌+◌, ◌<◌, ◌^◌, nat_lt, Bool, true, false, not, ◌==◌, ◌&&◌, List, length, Some, None, IsSome, is_some, Result, Ok, Err}
use Rattle.std.specs.List.{count_by, filter}
use Rattle.std.specs.FinMap as finite
use Rattle.std.specs.FinSet as set
use Rattle.bk_record.specs.Key.{EntryKey}
use Rattle.bk_record.specs.Location.{Place}
use Rattle.bk_record.specs.Record.{read_added}
use Rattle.bk_record.specs.Scan.{Ledgers}
use Rattle.bk_record.specs.Keyed.{ledger_count, without_ledger}
use Rattle.bk_cache.specs.Caches as caches
use Rattle.bk_lease.specs.Values.{LeasedView, with_given}
use Rattle.bk_store.specs.Ledgers.{is_barred, receipt_of, with_add, with_deletion, with_fence}
use Rattle.bk_store.specs.Fronts.{fronts_after_swap}
use Rattle.bk_store.specs.Logs.{view_of}
use Rattle.bk_store.specs.State.{State}
use Rattle.bk_store.specs.Contents.{written_at, cached_at, holds}
use Rattle.bk_store.specs.Leasing.{IsLeaseOf, HasLeaseCount}
use Rattle.bk_store.specs.declared.adding.AddKind.{AddKind}
use Rattle.bk_store.specs.declared.fronts.Fronts.{Fronts}
use Rattle.bk_store.specs.declared.answer.Added.{Added}
use Rattle.bk_store.specs.declared.answer.Added.TheVariants.{Accepted, Held}
use Rattle.bk_store.specs.declared.answer.AddFault.{AddFault}
use Rattle.bk_store.specs.declared.answer.AddFault.TheVariants as add_faults
use Rattle.bk_store.specs.declared.answer.Taken.{Taken}
use Rattle.bk_store.specs.declared.answer.Taken.TheVariants.{Deleted, Cached, NotHeld, Leased}
use Rattle.bk_store.specs.declared.answer.TakeFault.{TakeFault}
use Rattle.bk_store.specs.declared.answer.TakeFault.TheVariants as take_faults
use Rattle.bk_store.specs.declared.answer.DeleteFault.{DeleteFault}
use Rattle.bk_store.specs.declared.answer.DeleteFault.TheVariants as delete_faults
use Rattle.bk_store.specs.declared.answer.Fence.{Fence}
use Rattle.bk_store.specs.declared.answer.Fence.TheVariants as fences
use Rattle.bk_store.specs.declared.answer.FenceFault.{FenceFault}
use Rattle.bk_store.specs.declared.answer.FenceFault.TheVariants as fence_faults
use Rattle.bk_cache.specs.declared.swap.Swap.{Swap}
use Rattle.bk_cache.specs.declared.swap.Swap.TheVariants.{Running, Nothing, Swapped}

-- the ledger is deleted
abbrev pub is_dead : State → ℕ → Bool
is_dead s ledger = set.contains s.ledgers.dead ledger

-- the ledger is fenced
abbrev pub is_fenced : State → ℕ → Bool
is_fenced s ledger = set.contains s.ledgers.fenced ledger

-- the payload is that of an entry whose ledger is live and not barred by a fence, and the store has
-- its key or not
pub record AsksToAdd (s : State) (kind : AddKind) (payload : List ℕ) (has : Bool) : Type 0 where
  pub key : EntryKey
  pub reads : read_added payload ≡ Ok key
  pub lives : is_dead s key.ledger ≡ false
  pub unbarred : is_barred kind s.ledgers.fenced key.ledger ≡ false
  pub held : holds s key ≡ has

-- An add puts the entry into the active cache if its payload is that of an entry, its ledger is
-- live and not barred, its key is new and there is room. It appends a mark to the trail and returns
-- its receipt.
abbrev pub AddTransition : State → AddKind → List ℕ → Result Added AddFault → State → Type 0
AddTransition s kind payload (Err (add_faults.Bad fault)) t = (read_added payload ≡ Err fault) × (t ≡ s)
AddTransition s kind payload (Err add_faults.Deleted) t = (key : EntryKey) × (read_added payload ≡ Ok key) × (is_dead s key.ledger ≡ true) × (t ≡ s)
AddTransition s kind payload (Err add_faults.Fenced) t = (key : EntryKey) × (read_added payload ≡ Ok key) × (is_dead s key.ledger ≡ false)
    × (is_barred kind s.ledgers.fenced key.ledger ≡ true) × (t ≡ s)
AddTransition s kind payload (Ok Held) t = AsksToAdd s kind payload true × (t ≡ s)
AddTransition s kind payload (Err (add_faults.Full used limit)) t = AsksToAdd s kind payload false × caches.IsFull s.caches payload
    × (used ≡ caches.used_of s.caches.active) × (limit ≡ s.caches.limit) × (t ≡ s)
AddTransition s kind payload (Err add_faults.Memory) t = AsksToAdd s kind payload false × (¬ (caches.IsFull s.caches payload)) × (t ≡ s)
AddTransition s kind payload (Ok (Accepted receipt)) t = (asks : AsksToAdd s kind payload false) × (¬ (caches.IsFull s.caches payload))
    × (receipt ≡ receipt_of s.ledgers.trail asks.key payload)
    × (t ≡ record s { caches = caches.with_added s.caches payload; ledgers = with_add s.ledgers asks.key payload })

-- the key is of a live ledger, is not cached, and the index points to this place
pub record IsInLog (s : State) (key : EntryKey) (place : Place) : Type 0 where
  pub lives : is_dead s key.ledger ≡ false
  pub uncached : cached_at s key ≡ None
  pub sent : finite.get s.index key ≡ Some place

-- Grants a lease of a log, which is counted in the keeper; an error leaves the state unchanged.
abbrev pub GrantLeaseTransition : {V : Type 0} → (V → List ℕ) → (V → Bool) → (V → Bool) → State → ℕ → Result (LeasedView V) TakeFault → State → Type 0
GrantLeaseTransition bytes honest sound s id (Ok lease) t =
    IsLeaseOf s.keeper s.logs id lease.ticket (view_of bytes honest sound lease.view) × (t ≡ record s { keeper = with_given s.keeper })
GrantLeaseTransition bytes honest sound s id (Err take_faults.NoSeat) t = t ≡ s
GrantLeaseTransition bytes honest sound s id (Err take_faults.TooMany) t = HasLeaseCount s.keeper s.logs id s.keeper.most × (t ≡ s)
GrantLeaseTransition bytes honest sound s id (Err take_faults.Memory) t = t ≡ s

-- A take looks into the caches, then into the index. A lease is counted in the keeper; every other
-- result leaves the state unchanged.
abbrev pub TakeTransition : {V : Type 0} → (V → List ℕ) → (V → Bool) → (V → Bool) → State → EntryKey → Result (Taken V) TakeFault → State → Type 0
TakeTransition bytes honest sound s key (Ok Deleted) t = (is_dead s key.ledger ≡ true) × (t ≡ s)
TakeTransition bytes honest sound s key (Ok (Cached payload)) t = (is_dead s key.ledger ≡ false) × (cached_at s key ≡ Some payload.value.items) × (t ≡ s)
TakeTransition bytes honest sound s key (Ok NotHeld) t = (is_dead s key.ledger ≡ false) × (cached_at s key ≡ None) × (finite.get s.index key ≡ None) × (t ≡ s)
TakeTransition bytes honest sound s key (Ok (Leased lease place)) t = IsInLog s key place
    × IsLeaseOf s.keeper s.logs place.log lease.ticket (view_of bytes honest sound lease.view) × (t ≡ record s { keeper = with_given s.keeper })
TakeTransition bytes honest sound s key (Err take_faults.NoSeat) t = (place : Place) × IsInLog s key place × (t ≡ s)
TakeTransition bytes honest sound s key (Err take_faults.TooMany) t = (place : Place) × IsInLog s key place × HasLeaseCount s.keeper s.logs place.log s.keeper.most × (t ≡ s)
TakeTransition bytes honest sound s key (Err take_faults.Memory) t = (is_dead s key.ledger ≡ false)
    × (IsSome (cached_at s key) ⊎ IsSome (finite.get s.index key)) × (t ≡ s)

-- how many keys of a ledger the store has: those in the write caches, and those only in the index
abbrev pub held_count : State → ℕ → ℕ
held_count s ledger = ledger_count s.caches.active ledger + ledger_count (caches.flush_of s.caches) ledger
    + count_by (λ e. (e.0.ledger == ledger) && not (is_some (written_at s e.0))) (finite.entries s.index)

-- the state without a ledger, which is deleted from then on and no longer fenced
abbrev pub state_after_delete : State → ℕ → State
state_after_delete s ledger = record s {
  caches = caches.without s.caches ledger;
  places = without_ledger s.places ledger;
  index = without_ledger s.index ledger;
  ledgers = with_deletion s.ledgers ledger;
}

-- A deletion removes the entries of a ledger, and returns how many keys there were.
abbrev pub DeleteTransition : State → ℕ → Result ℕ DeleteFault → State → Type 0
DeleteTransition s ledger (Err delete_faults.AlreadyDeleted) t = (is_dead s ledger ≡ true) × (t ≡ s)
DeleteTransition s ledger (Err delete_faults.Memory) t = (is_dead s ledger ≡ false) × (t ≡ s)
DeleteTransition s ledger (Ok n) t = (is_dead s ledger ≡ false) × (n ≡ held_count s ledger) × (t ≡ state_after_delete s ledger)

-- A fence of a live ledger appends a mark to the trail, unless the ledger was fenced before.
abbrev pub FenceTransition : State → ℕ → Result Fence FenceFault → State → Type 0
FenceTransition s ledger (Err fence_faults.Deleted) t = (is_dead s ledger ≡ true) × (t ≡ s)
FenceTransition s ledger (Ok fences.AlreadyFenced) t = (is_dead s ledger ≡ false) × (is_fenced s ledger ≡ true) × (t ≡ s)
FenceTransition s ledger (Err fence_faults.Memory) t = (is_dead s ledger ≡ false) × (is_fenced s ledger ≡ false) × (t ≡ s)
FenceTransition s ledger (Ok fences.Fenced) t = (is_dead s ledger ≡ false) × (is_fenced s ledger ≡ false)
    × (t ≡ record s { ledgers = with_fence s.ledgers ledger })

-- the fronts after a swap with this answer
abbrev pub swapped_fronts : Swap → State → Fronts
swapped_fronts answer s = fronts_after_swap answer (length s.ledgers.trail) s.fronts

-- A swap makes the active cache the flushing one, unless a flush is running or the active cache is
-- empty. It notes how many marks the flush has; if nothing is cached, all marks are durable.
abbrev pub SwapTransition : State → Swap → State → Type 0
SwapTransition s Running t = IsSome s.caches.flush × (t ≡ s)
SwapTransition s Nothing t = (s.caches.flush ≡ None) × (finite.len s.caches.active ≡ 0) × (t ≡ record s { fronts = swapped_fronts Nothing s })
SwapTransition s (Swapped n) t = (s.caches.flush ≡ None) × (0 < n) × (n ≡ finite.len s.caches.active)
    × (t ≡ record s { caches = record s.caches { active = finite.empty; flush = Some s.caches.active }; fronts = swapped_fronts (Swapped n) s })

-- the valid ledgers of a list: those up to the greatest id
abbrev pub valid_ledgers : List ℕ → Ledgers
valid_ledgers listed = set.from_list (filter (λ ledger. nat_lt ledger (2 ^ 63)) listed)
