-- An opening after a crash finds what was published, and nothing that was not accepted.
use Rattle.std.proofs.Common.{◌≡◌, ◌⊎◌, inl, inr, List, ℕ, Some, None, false, refl, sym, ◌∙◌, subst}
use Rattle.std.specs.FinMap as finite
use Rattle.std.specs.FinSet as set
use Rattle.std.proofs.lemmas.Option.{same_Some}
use Rattle.bk_record.specs.Key.{EntryKey}
use Rattle.bk_record.specs.Location.{Place}
use Rattle.bk_record.specs.Scan.{Payloads, Ledgers}
use Rattle.bk_record.specs.Keyed.{Places}
use Rattle.bk_store.specs.Entries.{Bytes, HasEntry, IsIndexOf, IsLastEntry}
use Rattle.bk_store.specs.Representation.{Cached, Represents, IsStale}
use Rattle.bk_store.specs.Published.{IndexIsPublished}
use Rattle.bk_store.specs.Crash.{RemovedFilesAreHarmless, Survives, StayDead, IsBetween}
use Rattle.bk_store.proofs.Cases.{some_or_none, some_value}
use Rattle.bk_store.proofs.OneEntry.{one_payload}
use Rattle.bk_store.proofs.EntryIds.{entry_id}

module _ {bytes gone parts read : Bytes} {index index' : Places} {cached : Cached} {dead later : Ledgers} {map found : Payloads}
    (carries : Represents bytes index cached dead map) (shows : IndexIsPublished bytes parts index) (harmless : RemovedFilesAreHarmless gone index cached dead map)
    (survives : Survives bytes gone parts read) (stay : StayDead dead later)
    (made : IsIndexOf read later index') (opened : Represents read index' (λ _. None) later found) where
  -- an entry that is read has what the map has, or is stale
  read_entry : (place : Place) (key : EntryKey) (payload : List ℕ) → HasEntry read place key payload → set.contains later key.ledger ≡ false
      → (finite.get map key ≡ Some payload) ⊎ IsStale index cached key place
  read_entry place key payload entry lives =
      let alive = stay key.ledger (entry_id entry) lives in
      elim (survives.only place key payload entry) [
        | inl stood ↦ carries.recorded place key payload stood alive
        | inr back ↦ harmless.recorded place key payload back alive
      ]

  -- the last one is not stale: the index's place was published, so it is read too
  last_entry : (place : Place) (key : EntryKey) (payload : List ℕ) → IsLastEntry read place key payload → set.contains later key.ledger ≡ false
      → finite.get map key ≡ Some payload
  last_entry place key payload last lives = elim (read_entry place key payload last.here lives) [
    | inl mapped ↦ mapped
    | inr stale ↦
        let there = shows.shown key stale.behind stale.sent in
        absurd (last.last stale.behind there.0 (survives.kept stale.behind key there.0 there.1) stale.later)
  ]

  accepted : (key : EntryKey) (payload : List ℕ) → finite.get found key ≡ Some payload → finite.get map key ≡ Some payload
  accepted key payload is =
      let sent = some_value (finite.get index' key) (opened.covered key payload is refl) in
      let last = made.sent key sent.0 sent.1 in
      let indexed = opened.indexed key sent.0 sent.1 in
      let one : last.0 ≡ payload = one_payload last.1.here indexed.stands ∙ same_Some indexed.payload payload (sym indexed.mapped ∙ is) in
      subst (λ (p : List ℕ). finite.get map key ≡ Some p) one (last_entry sent.0 key last.0 last.1 (opened.lives key payload is))

  pub between : IsBetween index map later found
  between = record {
    published = λ key is lives.
        let named = some_value (finite.get index key) is in
        let there = shows.shown key named.0 named.1 in
        let entry = survives.kept named.0 key there.0 there.1 in
        elim (some_or_none (finite.get index' key)) [
          | inl missing ↦ absurd (made.missing key missing lives named.0 there.0 entry)
          | inr sent ↦
              let indexed = opened.indexed key sent.0 sent.1 in
              (indexed.payload, accepted key indexed.payload indexed.mapped, indexed.mapped)
        ];
    accepted = accepted;
  }
