-- Removed files do no harm still: the same moves as of the files that are, of their entries alone.
use Rattle.std.proofs.Common.{◌≡◌, ◌≢◌, ◌⊎◌, inl, inr, ℕ, List, Some, None, IsSome, Option, is_some, unwrap_or, [], sym, ap, ◌∙◌, subst}
use Rattle.std.specs.Ordering.{nat_cmp}
use Rattle.std.specs.FinMap as finite
use Rattle.std.specs.FinSet as set
use Rattle.std.proofs.lemmas.Option.{none-some}
use Rattle.bk_record.specs.Key.{EntryKey}
use Rattle.bk_record.specs.Location.{Place, Precedes}
use Rattle.bk_record.specs.Files.{Files, file_of}
use Rattle.bk_record.specs.Scan.{Payloads, Ledgers}
use Rattle.bk_record.specs.Keyed.{Places, without_ledger}
use Rattle.bk_record.proofs.Places.{precedes_trans}
use Rattle.bk_disk.specs.Durable.{DurableGrows}
use Rattle.bk_store.specs.Entries.{Bytes}
use Rattle.bk_store.specs.Representation.{Cached, Represents}
use Rattle.bk_store.specs.Crash.{RemovedFilesAreHarmless}
use Rattle.bk_store.proofs.Cases.{some_or_none, some_value}
use Rattle.bk_store.proofs.KeyMaps.{get-insert_other, same_key, inserted_here, left_same, still_lives}
use Rattle.bk_store.proofs.Growing.{entry_same, none_stands}
use Rattle.bk_store.proofs.IndexMoves.{IsForward}

module _ {gone : Bytes} {index : Places} {cached : Cached} {dead : Ledgers} {map : Payloads} (harmless : RemovedFilesAreHarmless gone index cached dead map) where
  -- a key is sent elsewhere, forward if it is not cached
  pub harmless_sent : (key : EntryKey) (place : Place) → ((was : Place) → cached key ≡ None → finite.get index key ≡ Some was → IsForward was place)
      → RemovedFilesAreHarmless gone (finite.insert index key place) cached dead map
  harmless_sent key place forward = record {
    recorded = λ at k payload entry lives. elim (harmless.recorded at k payload entry lives) [
      | inl mapped ↦ inl mapped
      | inr stale ↦ elim (same_key k key) [
        | inr apart ↦ inr (record {
          uncached = stale.uncached;
          behind = stale.behind;
          sent = get-insert_other index key place k apart ∙ stale.sent;
          later = stale.later;
        })
        | inl here ↦ inr (record {
          uncached = stale.uncached;
          behind = place;
          sent = inserted_here index key place k here;
          later = elim (forward stale.behind (ap cached (sym here) ∙ stale.uncached) (ap (λ x. finite.get index x) (sym here) ∙ stale.sent)) [
            | inl same ↦ subst (λ p. Precedes at p) same stale.later
            | inr before ↦ precedes_trans at stale.behind place stale.later before
          ];
        })
      ]
    ];
  }

  -- the index moves: no key is lost, and an uncached key goes forward only
  pub harmless_moved : (index' : Places) → ((key : EntryKey) → IsSome (finite.get index key) → IsSome (finite.get index' key))
      → ((key : EntryKey) (was place : Place) → cached key ≡ None → finite.get index key ≡ Some was → finite.get index' key ≡ Some place → IsForward was place)
      → RemovedFilesAreHarmless gone index' cached dead map
  harmless_moved index' kept forward = record {
    recorded = λ at k payload entry lives. elim (harmless.recorded at k payload entry lives) [
      | inl mapped ↦ inl mapped
      | inr stale ↦
          let now = some_value (finite.get index' k) (kept k (ap is_some stale.sent)) in
          inr (record {
            uncached = stale.uncached;
            behind = now.0;
            sent = now.1;
            later = elim (forward k stale.behind now.0 stale.uncached stale.sent now.1) [
              | inl same ↦ subst (λ p. Precedes at p) same stale.later
              | inr before ↦ precedes_trans at stale.behind now.0 stale.later before
            ];
          })
    ];
  }

  -- a key comes that was not held
  pub harmless_added : {bytes : Bytes} (cached' : Cached) (key : EntryKey) (payload : List ℕ) → Represents bytes index cached dead map
      → cached key ≡ None → finite.get index key ≡ None → ((other : EntryKey) → other ≢ key → cached' other ≡ cached other)
      → RemovedFilesAreHarmless gone index cached' dead (finite.insert map key payload)
  harmless_added cached' key payload carries none unnamed others = record {
    recorded = λ at k b entry lives. elim (same_key k key) [
      | inl same ↦ elim (harmless.recorded at k b entry lives) [
        | inl mapped ↦
            let named = carries.covered k b mapped (ap cached same ∙ none) in
            absurd (let missing = ap (λ x. finite.get index x) same ∙ unnamed in cc)
        | inr stale ↦ absurd (let missing = ap (λ x. finite.get index x) same ∙ unnamed in let sent = stale.sent in cc)
      ]
      | inr apart ↦ elim (harmless.recorded at k b entry lives) [
        | inl mapped ↦ inl (get-insert_other map key payload k apart ∙ mapped)
        | inr stale ↦ inr (record { uncached = others k apart ∙ stale.uncached; behind = stale.behind; sent = stale.sent; later = stale.later })
      ]
    ];
  }

  -- keys are dropped that are indexed
  pub harmless_let_go : (cached' : Cached) → ((key : EntryKey) → (cached' key ≡ cached key) ⊎ ((cached' key ≡ None) × IsSome (finite.get index key)))
      → RemovedFilesAreHarmless gone index cached' dead map
  harmless_let_go cached' fewer = record {
    recorded = λ at k b entry lives. elim (harmless.recorded at k b entry lives) [
      | inl mapped ↦ inl mapped
      | inr stale ↦ inr (record {
        uncached = elim (fewer k) [ inl same ↦ same ∙ stale.uncached | inr let_go ↦ let_go.0 ];
        behind = stale.behind;
        sent = stale.sent;
        later = stale.later;
      })
    ];
  }

  -- a ledger dies
  pub harmless_without_ledger : (cached' : Cached) (ledger : ℕ) → ((key : EntryKey) → key.ledger ≢ ledger → cached' key ≡ cached key)
      → RemovedFilesAreHarmless gone (without_ledger index ledger) cached' (set.insert dead ledger) (without_ledger map ledger)
  harmless_without_ledger cached' ledger others = record {
    recorded = λ at k b entry lives.
        let still = still_lives dead ledger k.ledger lives in
        elim (harmless.recorded at k b entry still.1) [
          | inl mapped ↦ inl (left_same map ledger k still.0 ∙ mapped)
          | inr stale ↦ inr (record {
            uncached = others k still.0 ∙ stale.uncached;
            behind = stale.behind;
            sent = left_same index ledger k still.0 ∙ stale.sent;
            later = stale.later;
          })
        ];
  }

-- fewer removed files may come back
pub harmless_fewer : (gone gone' : Files) {index : Places} {cached : Cached} {dead : Ledgers} {map : Payloads}
    → ((id : ℕ) (file : List ℕ) → finite.get gone' id ≡ Some file → finite.get gone id ≡ Some file)
    → RemovedFilesAreHarmless (file_of gone) index cached dead map → RemovedFilesAreHarmless (file_of gone') index cached dead map
harmless_fewer gone gone' back harmless = record {
  recorded = λ place key payload entry lives. elim (some_or_none (finite.get gone' place.log)) [
    | inl none ↦ absurd (none_stands place key payload (ap (λ (o : Option (List ℕ)). unwrap_or o []) none) entry)
    | inr there ↦
        let bytes = ap (λ (o : Option (List ℕ)). unwrap_or o []) (there.1 ∙ sym (back place.log there.0 there.1)) in
        harmless.recorded place key payload (entry_same place key payload bytes entry) lives
  ];
}

-- no removed file may be back
abbrev pub HasNone : Files → Type 0
HasNone gone = (id : ℕ) (file : List ℕ) → finite.get gone id ≡ Some file → ⊥

-- where none may come back, none does harm
pub harmless_none : (gone : Files) {index : Places} {cached : Cached} {dead : Ledgers} {map : Payloads}
    → HasNone gone → RemovedFilesAreHarmless (file_of gone) index cached dead map
harmless_none gone none = record {
  recorded = λ place key payload entry lives. elim (some_or_none (finite.get gone place.log)) [
    | inl nothing ↦ absurd (none_stands place key payload (ap (λ (o : Option (List ℕ)). unwrap_or o []) nothing) entry)
    | inr there ↦ absurd (none place.log there.0 there.1)
  ];
}

-- a log is removed: what its file had does no harm
pub harmless_let_go_of : (files gone gone' : Files) {index : Places} {cached : Cached} {dead : Ledgers} {map : Payloads} (id : ℕ)
    → ((other : ℕ) (file : List ℕ) → finite.get gone' other ≡ Some file
    → (finite.get gone other ≡ Some file) ⊎ ((other ≡ id) × (finite.get files other ≡ Some file)))
    → Represents (file_of files) index cached dead map → RemovedFilesAreHarmless (file_of gone) index cached dead map
    → RemovedFilesAreHarmless (file_of gone') index cached dead map
harmless_let_go_of files gone gone' id back carries harmless = record {
  recorded = λ place key payload entry lives.
      elim (some_or_none (finite.get gone' place.log)) [
        | inl none ↦ absurd (none_stands place key payload (ap (λ (o : Option (List ℕ)). unwrap_or o []) none) entry)
        | inr there ↦ elim (back place.log there.0 there.1) [
          | inl was ↦
              let bytes = ap (λ (o : Option (List ℕ)). unwrap_or o []) (there.1 ∙ sym was) in
              harmless.recorded place key payload (entry_same place key payload bytes entry) lives
          | inr stood ↦
              let bytes = ap (λ (o : Option (List ℕ)). unwrap_or o []) (there.1 ∙ sym stood.1) in
              carries.recorded place key payload (entry_same place key payload bytes entry) lives
        ]
      ];
}

-- no removed file may be back where none could be when the logs were listed
pub none_since : {kept gone kept' gone' : Files} → DurableGrows kept gone kept' gone' → gone ≡ finite.empty → HasNone gone'
none_since more none id file is =
    none-some file (sym (ap (λ (m : Files). finite.get m id) none ∙ finite.get-empty nat_cmp id) ∙ more.back id file is)
