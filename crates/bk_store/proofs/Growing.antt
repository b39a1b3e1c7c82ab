-- The bytes of logs grow or are removed, and represent the same map.
use Rattle.std.proofs.Common.{◌≡◌, ◌≢◌, ◌⊎◌, inl, inr, ℕ, List, [], ◌++◌, Some, false, sym, ap, ◌∙◌, subst, arith}
use Rattle.std.specs.FinMap as finite
use Rattle.std.specs.FinSet as set
use Rattle.bk_record.specs.Key.{EntryKey}
use Rattle.bk_record.specs.Location.{Place}
use Rattle.bk_record.specs.Record.{key_of}
use Rattle.bk_record.specs.Files.{records_of, In}
use Rattle.bk_record.specs.Scan.{Payloads, Ledgers}
use Rattle.bk_record.proofs.Growth.{In-append_left, In-append_cases, records_of-short}
use Rattle.bk_record.specs.Keyed.{Places}
use Rattle.bk_store.specs.Entries.{Bytes, HasEntry}
use Rattle.bk_store.specs.Representation.{Cached, Represents}
use Rattle.bk_store.proofs.Cases.{same_or_apart}

-- each entry of the first bytes is in the second
abbrev pub EntriesStay : Bytes → Bytes → Type 0
EntriesStay bytes bytes' = (place : Place) (key : EntryKey) (payload : List ℕ) → HasEntry bytes place key payload → HasEntry bytes' place key payload

-- Each entry of the old bytes is in the new; each new entry of a live ledger has what the map has.
pub record Grows (dead : Ledgers) (map : Payloads) (bytes bytes' : Bytes) : Type 0 where
  pub stood : EntriesStay bytes bytes'
  pub fresh : (place : Place) (key : EntryKey) (payload : List ℕ) → HasEntry bytes' place key payload → set.contains dead key.ledger ≡ false
      → HasEntry bytes place key payload ⊎ (finite.get map key ≡ Some payload)

-- the bytes of the other logs are the same
abbrev pub OnlyIn : ℕ → Bytes → Bytes → Type 0
OnlyIn log bytes bytes' = (id : ℕ) → id ≢ log → bytes' id ≡ bytes id

-- an entry depends on the bytes of its log alone
pub entry_same : {bytes bytes' : Bytes} (place : Place) (key : EntryKey) (payload : List ℕ) → bytes place.log ≡ bytes' place.log
    → HasEntry bytes place key payload → HasEntry bytes' place key payload
entry_same place key payload same entry =
    record { stands = subst (λ (b : List ℕ). In (place.at, payload) (records_of b)) same entry.stands; keyed = entry.keyed }

-- ---- the bytes grow

module _ {bytes bytes' : Bytes} {index : Places} {cached : Cached} {dead : Ledgers} {map : Payloads} where
  pub carries_grown : Grows dead map bytes bytes' → Represents bytes index cached dead map → Represents bytes' index cached dead map
  carries_grown grows carries = record {
    lives = carries.lives;
    cached_is = carries.cached_is;
    covered = carries.covered;
    indexed = λ key place named.
        let old = carries.indexed key place named in
        record { payload = old.payload; stands = grows.stood place key old.payload old.stands; mapped = old.mapped };
    recorded = λ place key payload entry lives. elim (grows.fresh place key payload entry lives) [
      | inl old ↦ carries.recorded place key payload old lives
      | inr mapped ↦ inl mapped
    ];
  }

module _ {bytes bytes' : Bytes} (dead : Ledgers) (map : Payloads) where
  -- In one log others are after the old records, and those of them that have keys of live ledgers
  -- have what the map has.
  pub grows_behind : (log : ℕ) → OnlyIn log bytes bytes' → (others : List (ℕ × List ℕ)) → records_of (bytes' log) ≡ records_of (bytes log) ++ others
      → ((at : ℕ) (payload : List ℕ) (key : EntryKey) → In (at, payload) others → key_of payload ≡ Some key → set.contains dead key.ledger ≡ false
      → finite.get map key ≡ Some payload)
      → Grows dead map bytes bytes'
  grows_behind log only others are each = record {
    stood = λ place key payload entry. elim (same_or_apart place.log log) [
      | inr apart ↦ entry_same place key payload (sym (only place.log apart)) entry
      | inl here ↦ record {
        stands =
            let old = subst (λ id. In (place.at, payload) (records_of (bytes id))) here entry.stands in
            let there = subst (λ rs. In (place.at, payload) rs) (sym are) (In-append_left (place.at, payload) (records_of (bytes log)) others old) in
            subst (λ id. In (place.at, payload) (records_of (bytes' id))) (sym here) there;
        keyed = entry.keyed;
      }
    ];
    fresh = λ place key payload entry lives. elim (same_or_apart place.log log) [
      | inr apart ↦ inl (entry_same place key payload (only place.log apart) entry)
      | inl here ↦
          let there = subst (λ rs. In (place.at, payload) rs) are (subst (λ id. In (place.at, payload) (records_of (bytes' id))) here entry.stands) in
          elim (In-append_cases (place.at, payload) (records_of (bytes log)) others there) [
            | inl old ↦ inl (record { stands = subst (λ id. In (place.at, payload) (records_of (bytes id))) (sym here) old; keyed = entry.keyed })
            | inr new ↦ inr (each place.at payload key new entry.keyed lives)
          ]
    ];
  }

-- ---- the bytes of a log are removed

pub none_stands : {bytes : Bytes} (place : Place) (key : EntryKey) (payload : List ℕ) → bytes place.log ≡ [] → HasEntry bytes place key payload → ⊥
none_stands place key payload empty entry =
    subst (λ (rs : List (ℕ × List ℕ)). In (place.at, payload) rs) (ap records_of empty ∙ records_of-short [] (omega arith)) entry.stands

module _ {bytes bytes' : Bytes} {index : Places} {cached : Cached} {dead : Ledgers} {map : Payloads} where
  pub carries_removed : (log : ℕ) → OnlyIn log bytes bytes' → bytes' log ≡ []
      → ((key : EntryKey) (place : Place) → finite.get index key ≡ Some place → place.log ≢ log)
      → Represents bytes index cached dead map → Represents bytes' index cached dead map
  carries_removed log only gone unnamed carries = record {
    lives = carries.lives;
    cached_is = carries.cached_is;
    covered = carries.covered;
    indexed = λ key place named.
        let old = carries.indexed key place named in
        record {
          payload = old.payload;
          stands = entry_same place key old.payload (sym (only place.log (unnamed key place named))) old.stands;
          mapped = old.mapped;
        };
    recorded = λ place key payload entry lives. elim (same_or_apart place.log log) [
      | inl here ↦ absurd (none_stands place key payload (ap bytes' here ∙ gone) entry)
      | inr apart ↦ carries.recorded place key payload (entry_same place key payload (only place.log apart) entry) lives
    ];
  }
