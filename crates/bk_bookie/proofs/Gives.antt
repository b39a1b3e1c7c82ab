-- Results of a take and of a read-back on an honest disk.
use Rattle.std.proofs.Common.{◌≡◌, ℕ, List, Option, Some, None, IsTrue, IsSome, Bool, true, false, Result, Ok, Err, refl, sym, ◌∙◌, subst, if◌then◌else◌}
use Rattle.std.specs.Option.{option_or}
use Rattle.std.specs.FinMap as finite
use Rattle.std.specs.FinSet as set
use Rattle.bk_record.specs.Files.{Files, file_of}
use Rattle.bk_record.specs.Key.{EntryKey}
use Rattle.bk_record.specs.Record.{key_of, read_added}
use Rattle.bk_record.specs.Keyed.{Places}
use Rattle.bk_record.specs.Scan.{Payloads, Ledgers, scan_of}
use Rattle.bk_record.proofs.ReadKeys.{addable}
use Rattle.sha2.specs.Sha256.{sha256}
use Rattle.bk_cache.specs.Caches as caches
use Rattle.bk_store.specs.Representation.{Cached, Represents}
use Rattle.bk_store.specs.Ledgers.{LedgersMatchTrail}
use Rattle.bk_store.specs.Abstract.{SatisfiesInvariant, AbstractState, AbstractTake, StoreRefines}
use Rattle.bk_store.specs.State.{State}
use Rattle.bk_store.specs.Trail.{HasDigest, MapMatchesTrail}
use Rattle.bk_store.specs.Transitions.{TakeTransition}
use Rattle.bk_store.specs.declared.answer.Taken.{Taken}
use Rattle.bk_store.specs.declared.answer.Taken.TheVariants as takes
use Rattle.bk_store.specs.declared.answer.TakeFault.{TakeFault}
use Rattle.bk_store.specs.declared.mark.Receipt.{Receipt}
use Rattle.bk_bookie.specs.Guarded.{AreKeyed}
use Rattle.bk_bookie.specs.Calls.{GivesEntry, GivesBack, read_back_result_of}
use Rattle.bk_bookie.specs.Passes.{call_result_of}
use Rattle.bk_bookie.specs.Receipts.{Stands}

-- The map that a store represents is its logical contents.
abbrev pub MeaningLaw : Type 0
MeaningLaw = (files : Files) (index : Places) (cached : Cached) (dead : Ledgers) (map : Payloads)
    → Represents (file_of files) index cached dead map → (key : EntryKey)
    → finite.get map key ≡ (if set.contains dead key.ledger then None else option_or (cached key) (finite.get (scan_of files) key))

-- A take of a store answers as the abstract map does.
abbrev pub TakeLaw : {V : Type 0} → (V → List ℕ) → (V → Bool) → (V → Bool) → Type 0
TakeLaw {V = V} bytes honest sound = (s t : State) (p : AbstractState) (key : EntryKey) (answer : Result (Taken V) TakeFault) → SatisfiesInvariant s → IsTrue s.honest
    → StoreRefines s p → TakeTransition bytes honest sound s key answer t → AbstractTake bytes honest p key answer × StoreRefines t p

-- The map that a store represents. It has the entries that the trail reports.
pub record HasMap (s : State) : Type 0 where
  pub map : Payloads
  pub carries : Represents (file_of s.files) s.index (caches.write_cached_payload s.caches) s.ledgers.dead map
  pub replays : MapMatchesTrail map s.ledgers.trail
  pub follows : LedgersMatchTrail s.ledgers

pub map_of : (s : State) → SatisfiesInvariant s → IsTrue s.honest → HasMap s
map_of s kept truth =
    let reveal_invariant = kept.keeps.promises (subst (λ (x : State). IsTrue x.honest) (sym kept.seen) truth) in
    subst (λ (x : State). HasMap x) kept.seen
    (record { map = reveal_invariant.map.carried; carries = reveal_invariant.map.carries; replays = reveal_invariant.map.replays; follows = kept.keeps.fits.ledgers })

-- A payload in a write cache has the key that it is stored under.
held_key : (c : caches.CacheState) → AreKeyed c → (key : EntryKey) (payload : List ℕ) → caches.write_cached_payload c key ≡ Some payload → key_of payload ≡ Some key
held_key c keyed key payload is = (addable payload key (held_reads (finite.get c.active key) refl)).keyed where
  held_reads : (a : Option (List ℕ)) → finite.get c.active key ≡ a → read_added payload ≡ Ok key
  held_reads (Some x) at = keyed.active key payload (let e : option_or (Some x) (finite.get (caches.flush_of c) key) ≡ Some payload = rw at at is in at ∙ e)
  held_reads None at = keyed.flush key payload (rw at at is)

module _ (s : State) (kept : SatisfiesInvariant s) (truth : IsTrue s.honest) (keyed : AreKeyed s.caches) where
  abbrev pub has : HasMap s
  has = map_of s kept truth

  abbrev pub plain : AbstractState
  plain = record { map = has.map; ledgers = s.ledgers; active = s.caches.active; flush = s.caches.flush; fronts = s.fronts }

  -- A payload of the map has the key that it is stored under.
  mapped_key : (key : EntryKey) (payload : List ℕ) → finite.get has.map key ≡ Some payload → key_of payload ≡ Some key
  mapped_key key payload is = by_cache (caches.write_cached_payload s.caches key) refl where
    by_cache : (h : Option (List ℕ)) → caches.write_cached_payload s.caches key ≡ h → key_of payload ≡ Some key
    by_cache (Some cached) at =
        let same : cached ≡ payload = (let e : Some cached ≡ Some payload = sym (has.carries.cached_is key cached at) ∙ is in cc) in
        subst (λ (x : List ℕ). key_of x ≡ Some key) same (held_key s.caches keyed key cached at)
    by_cache None at = by_index (finite.get s.index key) refl (has.carries.covered key payload is at) where
      by_index : (i : Option _) → finite.get s.index key ≡ i → IsSome (finite.get s.index key) → key_of payload ≡ Some key
      by_index None none some = let wrong : false ≡ true = (rw none at some) in cc
      by_index (Some place) sent some =
          let indexed = has.carries.indexed key place sent in
          let same : indexed.payload ≡ payload = (let e : Some indexed.payload ≡ Some payload = sym indexed.mapped ∙ is in cc) in
          subst (λ (x : List ℕ). key_of x ≡ Some key) same indexed.stands.keyed

  pub matches : MeaningLaw → StoreRefines s plain
  matches meaning = record {
    meaning = λ key. meaning s.files s.index (caches.write_cached_payload s.caches) s.ledgers.dead has.map has.carries key;
    ledgers = refl;
    active = refl;
    flush = refl;
    fronts = refl;
  }

  module _ (meaning : MeaningLaw) {V : Type 0} (bytes : V → List ℕ) (honest sound : V → Bool) (law : TakeLaw bytes honest sound) where
    taken : (t : State) (key : EntryKey) (r : Result (Taken V) TakeFault) → TakeTransition bytes honest sound s key r t → AbstractTake bytes honest plain key r
    taken t key r turn = (law s t plain key r kept truth (matches meaning) turn).0

    pub take_gives : (t : State) (key : EntryKey) (r : Result (Taken V) TakeFault) → TakeTransition bytes honest sound s key r t
        → GivesEntry bytes honest key (call_result_of r)
    take_gives t key (Ok takes.Deleted) turn = tt
    take_gives t key (Ok (takes.Cached payload)) turn = mapped_key key payload.value.items (taken t key (Ok (takes.Cached payload)) turn).1
    take_gives t key (Ok takes.NotHeld) turn = tt
    take_gives t key (Ok (takes.Leased lease place)) turn =
        let told = (taken t key (Ok (takes.Leased lease place)) turn).1 in (told.0, told.2)
    take_gives t key (Err fault) turn = tt

    module _ (receipt : Receipt) (stands : Stands s.ledgers.trail receipt) where
      -- The map has the digest of the receipt if the ledger of its key is live.
      has_digest : set.contains s.ledgers.dead receipt.key.ledger ≡ false → HasDigest has.map receipt.key receipt.digest
      has_digest alive = has.replays.has receipt.number receipt.key receipt.digest stands
          (λ out. let wrong : true ≡ false = sym (has.follows.gone receipt.key.ledger out) ∙ alive in cc)

      -- A payload that the map has for the key of a receipt has the receipt's digest.
      digest_is : (payload : List ℕ) → set.contains s.ledgers.dead receipt.key.ledger ≡ false → finite.get has.map receipt.key ≡ Some payload
          → receipt.digest ≡ sha256 payload
      digest_is payload alive is =
          let found = has_digest alive in
          let same : found.0 ≡ payload = (let e : Some found.0 ≡ Some payload = sym found.1 ∙ is in cc) in
          subst (λ (x : List ℕ). receipt.digest ≡ sha256 x) same found.2

      pub read_back_gives : (t : State) (r : Result (Taken V) TakeFault) → TakeTransition bytes honest sound s receipt.key r t
          → GivesBack bytes honest receipt (read_back_result_of r)
      read_back_gives t (Ok takes.Deleted) turn = tt
      read_back_gives t (Ok (takes.Cached payload)) turn =
          let told = taken t receipt.key (Ok (takes.Cached payload)) turn in
          (mapped_key receipt.key payload.value.items told.1, digest_is payload.value.items told.0 told.1)
      read_back_gives t (Ok takes.NotHeld) turn =
          let told = taken t receipt.key (Ok takes.NotHeld) turn in
          let found = has_digest told.0 in
          let wrong : ◌≡◌ {A = Option (List ℕ)} (Some found.0) None = sym found.1 ∙ told.1 in cc
      read_back_gives t (Ok (takes.Leased lease place)) turn =
          let told = taken t receipt.key (Ok (takes.Leased lease place)) turn in
          (told.1.0, told.1.2, digest_is told.1.0 told.0 told.1.1)
      read_back_gives t (Err fault) turn = tt
