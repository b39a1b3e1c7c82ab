-- An index rebuilt of the published parts of the logs represents the same map.
use Rattle.std.proofs.Common.{◌≡◌, inl, inr, Some, IsSome, is_some, ap}
use Rattle.std.specs.FinMap as finite
use Rattle.bk_record.specs.Key.{EntryKey}
use Rattle.bk_record.specs.Location.{Place}
use Rattle.bk_record.specs.Scan.{Payloads, Ledgers}
use Rattle.bk_record.specs.Keyed.{Places}
use Rattle.bk_record.proofs.Places.{precedes_cases}
use Rattle.bk_store.specs.Entries.{Bytes, IsIndexOf}
use Rattle.bk_store.specs.Representation.{Cached, IsIndexed, Represents}
use Rattle.bk_store.specs.Published.{IndexIsPublished}
use Rattle.bk_store.proofs.Cases.{some_or_none, some_value}
use Rattle.bk_store.proofs.IndexMoves.{IsForward, carries_moved}
use Rattle.bk_store.proofs.PublishedMoves.{shows_moved}

module _ {bytes parts : Bytes} {index index' : Places} {cached : Cached} {dead : Ledgers} {map : Payloads} (carries : Represents bytes index cached dead map)
    (shows : IndexIsPublished bytes parts index) (made : IsIndexOf parts dead index') where
  -- A key's last published entry has what the map has: were it stale, the index would point the key
  -- after it, to a published one.
  last_shown : (key : EntryKey) (place : Place) → finite.get index' key ≡ Some place → IsIndexed bytes map key place
  last_shown key place named =
      let last = made.sent key place named in
      let entry = shows.stands place key last.0 last.1.here in
      elim (carries.recorded place key last.0 entry (made.lives key place named)) [
        | inl mapped ↦ record { payload = last.0; stands = entry; mapped = mapped }
        | inr stale ↦
            let behind = shows.shown key stale.behind stale.sent in
            absurd (last.1.last stale.behind behind.0 behind.1 stale.later)
      ]

  pub still_named : (key : EntryKey) → IsSome (finite.get index key) → IsSome (finite.get index' key)
  still_named key is = elim (some_or_none (finite.get index' key)) [
    | inr there ↦ ap is_some there.1
    | inl none ↦
        let was = some_value (finite.get index key) is in
        let i = carries.indexed key was.0 was.1 in
        let entry = shows.shown key was.0 was.1 in
        absurd (made.missing key none (carries.lives key i.payload i.mapped) was.0 entry.0 entry.1)
  ]

  pub goes_forward : (key : EntryKey) (was place : Place) → finite.get index key ≡ Some was → finite.get index' key ≡ Some place → IsForward was place
  goes_forward key was place named now =
      let entry = shows.shown key was named in
      let last = made.sent key place now in
      elim (precedes_cases was place) [
        | inl before ↦ inr before
        | inr rest ↦ elim rest [
          | inl same ↦ inl same
          | inr behind ↦ absurd (last.1.last was entry.0 entry.1 behind)
        ]
      ]

  pub carries_rebuilt : Represents bytes index' cached dead map
  carries_rebuilt = carries_moved carries index' last_shown still_named (λ key was place none. goes_forward key was place)

  pub shows_rebuilt : IndexIsPublished bytes parts index'
  shows_rebuilt = shows_moved shows index' (λ key place named. let last = made.sent key place named in (last.0, last.1.here))
