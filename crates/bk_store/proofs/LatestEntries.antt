-- The last entry of a key, and that the scan of the files gives it.
use Rattle.std.proofs.Common.{◌≡◌, inl, inr, ℕ, List, Some, ap, ◌∙◌, subst}
use Rattle.std.specs.FinMap as finite
use Rattle.bk_record.specs.Key.{EntryKey}
use Rattle.bk_record.specs.Location.{Place, Precedes}
use Rattle.bk_record.specs.Record.{key_of}
use Rattle.bk_record.specs.Files.{Files, file_of, HasRecord}
use Rattle.bk_record.specs.Scan.{scan_of}
use Rattle.bk_record.specs.Entry as record_entries
use Rattle.bk_record.proofs.LastEntries.{scan_takes_last}
use Rattle.bk_record.proofs.Scans.{scan-none}
use Rattle.bk_record.proofs.Places.{precedes_not_itself, precedes_one_way, precedes_cases}
use Rattle.bk_store.specs.Entries.{Bytes, HasEntry, IsLastEntry}
use Rattle.bk_store.proofs.Cases.{some_or_none}
use Rattle.bk_store.proofs.OneEntry.{one_payload}

-- an entry of the files is one of their records
pub entry_record : (files : Files) (place : Place) (key : EntryKey) (payload : List ℕ) → HasEntry (file_of files) place key payload
    → HasRecord files place payload
unfolding HasRecord
entry_record files place key payload entry = entry.stands

pub record_entry : (files : Files) (place : Place) (key : EntryKey) (payload : List ℕ) → HasRecord files place payload → key_of payload ≡ Some key
    → HasEntry (file_of files) place key payload
unfolding HasRecord
record_entry files place key payload there keyed = record { stands = there; keyed = keyed }

-- a key has one last place
pub one_last : {bytes : Bytes} {first second : Place} {key : EntryKey} {payload payload' : List ℕ}
    → IsLastEntry bytes first key payload → IsLastEntry bytes second key payload' → first ≡ second
one_last {first = first} {second = second} {payload = payload} {payload' = payload'} one two = elim (precedes_cases first second) [
  | inl before ↦ absurd (one.last second payload' two.here before)
  | inr rest ↦ elim rest [
    | inl same ↦ same
    | inr behind ↦ absurd (two.last first payload one.here behind)
  ]
]

-- the last entry of a key in files, reported of their bytes
last_entry : (files : Files) (place : Place) (key : EntryKey) (payload : List ℕ) → record_entries.IsLastRecord files place key payload
    → IsLastEntry (file_of files) place key payload
last_entry files place key payload l = record {
  here = record_entry files place key payload l.here.stands l.here.keyed;
  last = λ other held entry follows.
      elim (l.last other held (record { stands = entry_record files other key held entry; keyed = entry.keyed })) [
        | inl same ↦ precedes_not_itself place (subst (Precedes place) same follows)
        | inr before ↦ precedes_one_way place other follows before
      ];
}

-- what the scan gives a key is in its last entry
pub scan_entry : (files : Files) (key : EntryKey) (payload : List ℕ) → finite.get (scan_of files) key ≡ Some payload
    → (place : Place) × IsLastEntry (file_of files) place key payload
scan_entry files key payload is = let l = ((scan_takes_last files).found key payload).0 is in (l.0, last_entry files l.0 key payload l.1)

pub entry_scan : (files : Files) (place : Place) (key : EntryKey) (payload : List ℕ) → IsLastEntry (file_of files) place key payload
    → finite.get (scan_of files) key ≡ Some payload
entry_scan files place key payload e = elim (some_or_none (finite.get (scan_of files) key)) [
  | inl none ↦ absurd (scan-none files key place payload none (entry_record files place key payload e.here) e.here.keyed)
  | inr some ↦
      let found = scan_entry files key some.0 some.1 in
      let here = subst (λ p. HasEntry (file_of files) p key payload) (one_last e found.1) e.here in
      some.1 ∙ ap Some (one_payload found.1.here here)
]
