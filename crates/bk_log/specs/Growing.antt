-- Effect of writing a log on the files: other logs are unchanged, and records are added only after
-- those of the log. Read `Gains` first.
use Rattle.std.specs.Prelude.{◌≡◌, ◌≢◌, ℕ, ◌+◌, ℤ, List, [], ◌∷◌, ◌++◌, drop, not, IsSome, Result, Ok, Err, ◌⊎◌}
use Rattle.std.specs.List.{filter}
use Rattle.std.specs.FinMap as map
use Rattle.bk_record.specs.Location.{Place}
use Rattle.bk_record.specs.Record.{is_foreign}
use Rattle.bk_record.specs.Body.{IsBadAt}
use Rattle.bk_record.specs.Files.{Files, file_of, header_length, records_of}
use Rattle.bk_record.specs.Longer.{IsLonger}
use Rattle.bk_log.specs.declared.fault.LogFault.{LogFault}
use Rattle.bk_log.specs.declared.fault.LogFault.TheVariants.{Disk, Failed, Memory, Odd}
use Rattle.bk_log.specs.Places.{HasRecordAt}
use Rattle.bk_log.specs.Writing.{Writing}

-- the file has no record position with a length below 16
abbrev pub HasNoBadLength : List ℕ → Type 0
HasNoBadLength file = (at : ℕ) (value : ℤ) → ¬ (IsBadAt header_length (drop header_length file) at value)

-- The other logs are unchanged. The log still exists and grows after its header; its records keep
-- their places, and `others` follow them. If it had no bad length, it has none.
pub record Gains (files : Files) (log : ℕ) (others : List (ℕ × List ℕ)) (files' : Files) : Type 0 where
  pub only : (id : ℕ) → id ≢ log → map.get files' id ≡ map.get files id
  pub stands : IsSome (map.get files log) → IsSome (map.get files' log)
  pub records : records_of (file_of files' log) ≡ records_of (file_of files log) ++ others
  pub longer : IsLonger (file_of files log) (file_of files' log)
  pub spelled : HasNoBadLength (file_of files log) → HasNoBadLength (file_of files' log)
  pub stays : (at : ℕ) (payload : List ℕ) → HasRecordAt (file_of files log) at payload → HasRecordAt (file_of files' log) at payload

-- record of an appended payload, with its position
abbrev pub put_record : Writing → List ℕ → List (ℕ × List ℕ)
put_record w payload = (w.end + 4, payload) ∷ []

-- `put`: one record more, with its place; if the device failed, that or none; otherwise none
abbrev pub PutGains : Files → Writing → List ℕ → Result Place LogFault → Files → Type 0
PutGains files w payload (Ok place) files' = Gains files w.log (put_record w payload) files'
PutGains files w payload (Err Disk) files' = Gains files w.log (put_record w payload) files' ⊎ Gains files w.log [] files'
PutGains files w payload (Err Failed) files' = Gains files w.log [] files'
PutGains files w payload (Err Memory) files' = Gains files w.log [] files'
PutGains files w payload (Err Odd) files' = ⊥

-- `seal`, with any result: foreign records are added, possibly none
pub record SealGains (files : Files) (w : Writing) (files' : Files) : Type 0 where
  pub others : List (ℕ × List ℕ)
  pub foreign : filter (λ r. not (is_foreign r.1)) others ≡ []
  pub gains : Gains files w.log others files'
