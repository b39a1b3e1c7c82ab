-- A key has one last entry, and the scan gives its payload.
use Rattle.std.proofs.Common.{◌≡◌, inl, inr, ℕ, Some, None, List, ◌∷◌, refl, sym, ap, subst}
use Rattle.std.specs.FinMap as finite
use Rattle.bk_record.specs.Key.{EntryKey}
use Rattle.bk_record.specs.Location.{Place}
use Rattle.bk_record.specs.Files.{Files, In, all_records}
use Rattle.bk_record.specs.Scan.{scan_of}
use Rattle.bk_record.specs.Entry.{HasKeyedRecord, HasNoEntry, IsLastRecord}
use Rattle.bk_record.specs.Latest.{AreInOrder, ScanTakesLast}
use Rattle.bk_record.proofs.Growth.{In-append_right, In-append_cases}
use Rattle.bk_record.proofs.Orders.{all_records_in_order}
use Rattle.bk_record.proofs.Scans.{scan-some, scan-none, record-all, all-record}
use Rattle.bk_record.proofs.LastRecords.{LastIn, scan-last}
use Rattle.bk_record.proofs.Places.{precedes_one_way, before-precedes}
use Rattle.bk_record.proofs.StandingEntries.{one_entry}

module _ (files : Files) (key : EntryKey) where
  -- a key has one last entry
  pub one_last : (p q : Place) (a b : List ℕ) → IsLastRecord files p key a → IsLastRecord files q key b → (p ≡ q) × (a ≡ b)
  one_last p q a b first second =
      let place : p ≡ q = elim (second.last p a first.here) [
        | inl e ↦ e
        | inr before ↦ elim (first.last q b second.here) [ inl e ↦ sym e | inr behind ↦ absurd (precedes_one_way p q before behind) ]
      ] in
      (place, (one_entry files q key key a b (subst (λ (x : Place). HasKeyedRecord files x key a) place first.here) second.here).1)

  -- the last record of the key in the list of all records is its last entry
  last-entry : (l : LastIn key (all_records files)) → IsLastRecord files l.place key l.payload
  last-entry l =
      let order = subst AreInOrder l.records_are (all_records_in_order files) in
      let rest = (l.place, l.payload) ∷ l.behind in
      record {
        here = record {
          stands = all-record files l.place l.payload
              (subst (In (l.place, l.payload)) (sym l.records_are) (In-append_right (l.place, l.payload) l.before rest (inl refl)));
          keyed = l.keyed;
        };
        last = λ other held there.
            elim (In-append_cases (other, held) l.before rest (subst (In (other, held)) l.records_are (record-all files other held there.stands))) [
              | inl before ↦ inr (before-precedes l.before l.behind l.place l.payload order other held before)
              | inr later ↦ elim later [
                | inl e ↦ inl (sym (ap (λ (x : Place × List ℕ). x.0) e))
                | inr behind ↦ absurd (l.last other held behind there.keyed)
              ]
            ];
      }

  -- the scan gives the payload of the last entry
  pub scan-entry : (payload : List ℕ) → finite.get (scan_of files) key ≡ Some payload → (place : Place) × IsLastRecord files place key payload
  scan-entry payload is =
      let found = scan-last files key payload is in
      (found.0.place, subst (IsLastRecord files found.0.place key) found.1 (last-entry found.0))

  -- if the scan has no payload for the key, no entry has the key
  pub scan-no_entry : finite.get (scan_of files) key ≡ None → HasNoEntry files key
  scan-no_entry is place payload there = scan-none files key place payload is there.stands there.keyed

  pub no_entry-scan : HasNoEntry files key → finite.get (scan_of files) key ≡ None
  no_entry-scan none = elim (finite.get (scan_of files) key) as (λ o. finite.get (scan_of files) key ≡ o → o ≡ None) [
    | None ↦ λ _. refl
    | Some payload ↦ λ is. let found = scan-some files key payload is in absurd (none found.0 payload (record { stands = found.1.0; keyed = found.1.1 }))
  ] refl

  pub entry-scan : (place : Place) (payload : List ℕ) → IsLastRecord files place key payload → finite.get (scan_of files) key ≡ Some payload
  entry-scan place payload l = elim (finite.get (scan_of files) key) as (λ o. finite.get (scan_of files) key ≡ o → o ≡ Some payload) [
    | None ↦ λ is. absurd (scan-no_entry is place payload l.here)
    | Some other ↦ λ is. let found = scan-entry other is in ap Some (one_last found.0 place other payload found.1 l).1
  ] refl

pub scan_takes_last : (files : Files) → ScanTakesLast files
scan_takes_last files = record {
  in_order = all_records_in_order files;
  found = λ key payload. (scan-entry files key payload, λ last. entry-scan files key last.0 payload last.1);
  missing = λ key. (scan-no_entry files key, no_entry-scan files key);
}
