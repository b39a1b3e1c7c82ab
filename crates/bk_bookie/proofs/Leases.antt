-- A fetch by a lease on an entry.
use Rattle.std.proofs.Common.{◌≡◌, ℕ, ◌<◌, ◌^◌, Bool, IsTrue, List, Result, Ok, Err, subst}
use Rattle.std.specs.List.{All}
use Rattle.bk_lease.specs.Values.{LeasedView}
use Rattle.bk_record.specs.Key.{EntryKey}
use Rattle.bk_record.specs.Location.{Place}
use Rattle.bk_log.specs.declared.fault.FetchFault.{FetchFault}
use Rattle.bk_log.specs.declared.fault.FetchFault.TheVariants as fetch_faults
use Rattle.bk_log.specs.Places.{HasEntryAt, Fetches}
use Rattle.bk_log.proofs.OneRecord.{stands_once}
use Rattle.bk_store.specs.Abstract.{IsLeaseOn}
use Rattle.bk_drive.proofs.FetchedEntries.{stands_here}
use Rattle.bk_bookie.specs.Calls.{FetchesLeased}

fetches_leased : {V T : Type 0} (bytes : V → List ℕ) (honest : V → Bool) (lease : LeasedView V) (place : Place) (key : EntryKey)
    (payload : List ℕ) → IsLeaseOn bytes honest lease place key payload → (IsTrue (honest lease.view) → All (λ b. b < 2 ^ 8) (bytes lease.view))
    → (items : T → List ℕ) (result : Result T FetchFault) → (IsTrue (honest lease.view) → Fetches items (bytes lease.view) place.at key result)
    → FetchesLeased items payload result
fetches_leased {V} {T} bytes honest lease place key payload is all items result fetches = by result (fetches is.honest_is)
  where
    stands : HasEntryAt (bytes lease.view) place.at key payload
    stands = stands_here (bytes lease.view) place key payload (all is.honest_is) is.shown

    by : (r : Result T FetchFault) → Fetches items (bytes lease.view) place.at key r → FetchesLeased items payload r
    by (Ok found) there = (stands_once (bytes lease.view) place.at).one (items found) payload there.here stands.here
    by (Err fetch_faults.Disk) there = tt
    by (Err fetch_faults.NotThere) there = there payload stands
    by (Err fetch_faults.Memory) there = tt
    by (Err fetch_faults.Odd) there = there

-- the same for the view that a lease lent
pub fetches_seen : {V T : Type 0} (bytes : V → List ℕ) (honest : V → Bool) (lease : LeasedView V) (place : Place) (key : EntryKey)
    (payload : List ℕ) → IsLeaseOn bytes honest lease place key payload → (lent : V) → lent ≡ lease.view
    → (IsTrue (honest lent) → All (λ b. b < 2 ^ 8) (bytes lent))
    → (items : T → List ℕ) (result : Result T FetchFault) → (IsTrue (honest lent) → Fetches items (bytes lent) place.at key result)
    → FetchesLeased items payload result
fetches_seen {V} {T} bytes honest lease place key payload is lent same all items result fetches =
    fetches_leased bytes honest lease place key payload is
    (subst (λ (u : V). IsTrue (honest u) → All (λ b. b < 2 ^ 8) (bytes u)) same all) items result
    (subst (λ (u : V). IsTrue (honest u) → Fetches items (bytes u) place.at key result) same fetches)
