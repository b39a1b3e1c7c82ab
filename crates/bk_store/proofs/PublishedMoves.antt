-- What logs show, as bytes, parts and index change.
use Rattle.std.proofs.Common.{◌≡◌, ◌≢◌, inl, inr, ℕ, List, [], Some, sym, ap, ◌∙◌, subst}
use Rattle.std.specs.FinMap as finite
use Rattle.bk_record.specs.Key.{EntryKey}
use Rattle.bk_record.specs.Location.{Place}
use Rattle.bk_record.specs.Keyed.{without_ledger, Places}
use Rattle.bk_store.specs.Entries.{Bytes, HasEntry}
use Rattle.bk_store.specs.Published.{IndexIsPublished}
use Rattle.bk_store.proofs.Cases.{same_or_apart}
use Rattle.bk_store.proofs.Growing.{EntriesStay, OnlyIn, entry_same, none_stands}
use Rattle.bk_store.proofs.KeyMaps.{inserted_cases, left_cases}

-- an entry of the key is published at the place
abbrev pub IsShown : Bytes → EntryKey → Place → Type 0
IsShown parts key place = (payload : List ℕ) × HasEntry parts place key payload

module _ {bytes parts : Bytes} {index : Places} (shows : IndexIsPublished bytes parts index) where
  pub shows_grown : (bytes' : Bytes) → EntriesStay bytes bytes' → IndexIsPublished bytes' parts index
  shows_grown bytes' stood = record {
    stands = λ place key payload entry. stood place key payload (shows.stands place key payload entry);
    shown = shows.shown;
  }

  -- ---- the index moves

  pub shows_moved : (index' : Places)
      → ((key : EntryKey) (place : Place) → finite.get index' key ≡ Some place → IsShown parts key place) → IndexIsPublished bytes parts index'
  shows_moved index' shown = record { stands = shows.stands; shown = shown }

  pub shows_sent : (key : EntryKey) (place : Place) → IsShown parts key place → IndexIsPublished bytes parts (finite.insert index key place)
  shows_sent key place new = shows_moved (finite.insert index key place) (λ k p named. elim (inserted_cases index key place k p named) [
    | inl here ↦ subst (λ x. IsShown parts k x) here.1 (subst (λ x. IsShown parts x place) (sym here.0) new)
    | inr old ↦ shows.shown k p old.1
  ])

  pub shows_without_ledger : (ledger : ℕ) → IndexIsPublished bytes parts (without_ledger index ledger)
  shows_without_ledger ledger = shows_moved (without_ledger index ledger) (λ key place named. shows.shown key place (left_cases index ledger key place named).1)

  -- ---- the parts grow

  pub shows_more : (parts' : Bytes) → EntriesStay parts parts' → EntriesStay parts' bytes → IndexIsPublished bytes parts' index
  shows_more parts' longer stands = record {
    stands = stands;
    shown = λ key place named. let old = shows.shown key place named in (old.0, longer place key old.0 old.1);
  }

  -- one log shows more, and nothing that does not are in it
  pub shows_more_of_one : (parts' : Bytes) (log : ℕ) → OnlyIn log parts parts'
      → ((place : Place) (key : EntryKey) (payload : List ℕ) → place.log ≡ log → HasEntry parts place key payload → HasEntry parts' place key payload)
      → ((place : Place) (key : EntryKey) (payload : List ℕ) → place.log ≡ log → HasEntry parts' place key payload → HasEntry bytes place key payload)
      → IndexIsPublished bytes parts' index
  shows_more_of_one parts' log only longer stands = shows_more parts'
      (λ place key payload entry. elim (same_or_apart place.log log) [
        | inl here ↦ longer place key payload here entry
        | inr apart ↦ entry_same place key payload (sym (only place.log apart)) entry
      ])
      (λ place key payload entry. elim (same_or_apart place.log log) [
        | inl here ↦ stands place key payload here entry
        | inr apart ↦ shows.stands place key payload (entry_same place key payload (only place.log apart) entry)
      ])

  -- one log shows all that is in it
  pub shows_all_of_one : (parts' : Bytes) (log : ℕ) → OnlyIn log parts parts' → parts' log ≡ bytes log → IndexIsPublished bytes parts' index
  shows_all_of_one parts' log only all = shows_more_of_one parts' log only
      (λ place key payload here entry.
      entry_same place key payload (ap bytes here ∙ sym all ∙ ap parts' (sym here)) (shows.stands place key payload entry))
      (λ place key payload here entry. entry_same place key payload (ap parts' here ∙ all ∙ ap bytes (sym here)) entry)

  -- ---- a log is hidden, and goes

  pub shows_hidden : (parts' : Bytes) (log : ℕ) → OnlyIn log parts parts' → parts' log ≡ []
      → ((key : EntryKey) (place : Place) → finite.get index key ≡ Some place → place.log ≢ log) → IndexIsPublished bytes parts' index
  shows_hidden parts' log only hidden unnamed = record {
    stands = λ place key payload entry. elim (same_or_apart place.log log) [
      | inl here ↦ absurd (none_stands place key payload (ap parts' here ∙ hidden) entry)
      | inr apart ↦ shows.stands place key payload (entry_same place key payload (only place.log apart) entry)
    ];
    shown = λ key place named.
        let old = shows.shown key place named in
        (old.0, entry_same place key old.0 (sym (only place.log (unnamed key place named))) old.1);
  }
