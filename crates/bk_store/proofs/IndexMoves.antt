-- The index moves to other entries, and the map is represented as before.
use Rattle.std.proofs.Common.{◌≡◌, ◌⊎◌, inl, inr, Some, None, IsSome, is_some, sym, ap, ◌∙◌, subst}
use Rattle.std.specs.FinMap as finite
use Rattle.std.proofs.lemmas.Option.{same_Some}
use Rattle.bk_record.specs.Key.{EntryKey}
use Rattle.bk_record.specs.Location.{Place, Precedes}
use Rattle.bk_record.specs.Scan.{Payloads, Ledgers}
use Rattle.bk_record.specs.Keyed.{Places}
use Rattle.bk_record.proofs.Places.{precedes_trans}
use Rattle.bk_store.specs.Entries.{Bytes}
use Rattle.bk_store.specs.Representation.{Cached, IsIndexed, Represents}
use Rattle.bk_store.proofs.Cases.{some_value}
use Rattle.bk_store.proofs.KeyMaps.{get-insert_other, same_key, inserted_cases, inserted_here}

-- the second place is the first, or after it
abbrev pub IsForward : Place → Place → Type 0
IsForward was place = (was ≡ place) ⊎ Precedes was place

module _ {bytes : Bytes} {index : Places} {cached : Cached} {dead : Ledgers} {map : Payloads} (carries : Represents bytes index cached dead map) where
  -- Each new place has an entry of its key with what the map has, no key is lost, and an uncached
  -- key goes forward only.
  pub carries_moved : (index' : Places)
      → ((key : EntryKey) (place : Place) → finite.get index' key ≡ Some place → IsIndexed bytes map key place)
      → ((key : EntryKey) → IsSome (finite.get index key) → IsSome (finite.get index' key))
      → ((key : EntryKey) (was place : Place) → cached key ≡ None → finite.get index key ≡ Some was → finite.get index' key ≡ Some place → IsForward was place)
      → Represents bytes index' cached dead map
  carries_moved index' moved kept forward = record {
    lives = carries.lives;
    cached_is = carries.cached_is;
    covered = λ key payload mapped none. kept key (carries.covered key payload mapped none);
    indexed = moved;
    recorded = λ place key payload entry lives. elim (carries.recorded place key payload entry lives) [
      | inl mapped ↦ inl mapped
      | inr stale ↦
          let now = some_value (finite.get index' key) (kept key (ap is_some stale.sent)) in
          inr (record {
            uncached = stale.uncached;
            behind = now.0;
            sent = now.1;
            later = elim (forward key stale.behind now.0 stale.uncached stale.sent now.1) [
              | inl same ↦ subst (λ p. Precedes place p) same stale.later
              | inr before ↦ precedes_trans place stale.behind now.0 stale.later before
            ];
          })
    ];
  }

  -- One key points to an entry of it, forward if it is not cached.
  pub carries_sent : (key : EntryKey) (place : Place) → IsIndexed bytes map key place
      → ((was : Place) → cached key ≡ None → finite.get index key ≡ Some was → IsForward was place)
      → Represents bytes (finite.insert index key place) cached dead map
  carries_sent key place new forward = carries_moved (finite.insert index key place)
      (λ k p is. elim (inserted_cases index key place k p is) [
        | inl here ↦ subst (λ x. IsIndexed bytes map k x) here.1 (subst (λ x. IsIndexed bytes map x place) (sym here.0) new)
        | inr old ↦ carries.indexed k p old.1
      ])
      (λ k there. elim (same_key k key) [
        | inl here ↦ ap is_some (inserted_here index key place k here)
        | inr apart ↦ ap is_some (get-insert_other index key place k apart) ∙ there
      ])
      (λ k was p none before now. elim (inserted_cases index key place k p now) [
        | inl here ↦ subst (λ x. IsForward was x) here.1
            (forward was (ap cached (sym here.0) ∙ none) (ap (λ x. finite.get index x) (sym here.0) ∙ before))
        | inr old ↦ inl (same_Some was p (sym before ∙ old.1))
      ])
