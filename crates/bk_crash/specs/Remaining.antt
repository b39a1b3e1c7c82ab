-- What a crash may leave of logs with a manifest, if the device may leave any bytes after the synced
-- ones. Read `MayRemain` first.
use Rattle.std.specs.Prelude.{◌≡◌, ◌⊎◌, ℕ, ◌≤◌, List, length, take, Option, Some, None, unwrap_or}
use Rattle.std.specs.FinMap as map
use Rattle.bk_record.specs.Files.{Files, file_of}
use Rattle.bk_record.specs.Longer.{IsLonger}
use Rattle.bk_manifest.specs.Fact.{Fact}
use Rattle.bk_manifest.specs.declared.state.LogState.{LogState}
use Rattle.bk_manifest.specs.declared.state.LogState.TheVariants.{Made, Durable, Removed}
use Rattle.bk_manifest_disk.specs.Table.{recorded}
use Rattle.bk_manifest_disk.specs.Recording.{promise, promised}
use Rattle.bk_store.specs.Crash.{IsCut}
use Rattle.bk_crash.specs.Damage.{IsDamaged}
use Rattle.bk_crash.specs.Noting.{NotedLog}

-- A log that has its file: damaged after its synced part. Of a log whose removal was recorded, the
-- bytes that were durable then are intact.
abbrev pub IsDamagedBy : Option LogState → List ℕ → List ℕ → List ℕ → Type 0
IsDamagedBy None kept file left = IsDamaged kept file left
IsDamagedBy (Some Made) kept file left = IsDamaged kept file left
IsDamagedBy (Some (Durable n)) kept file left = IsDamaged kept file left
IsDamagedBy (Some (Removed n)) kept file left = IsCut file (take n left)

-- A removed file that is back: its durable bytes are intact, if its removal is the last record.
abbrev pub IsBackBy : Option LogState → List ℕ → List ℕ → Type 0
IsBackBy None file left = Unit {0}
IsBackBy (Some Made) file left = Unit {0}
IsBackBy (Some (Durable n)) file left = Unit {0}
IsBackBy (Some (Removed n)) file left = IsCut file (take n left)

-- What a crash may leave of the files of a disk, of which the manifest has these records: a log with
-- synced bytes and a record of them remains, with all of these. Any other log may remain or not, and
-- a removed one may be back.
pub record MayRemain (files gone kept : Files) (records : List Fact) (left : Files) : Type 0 where
  pub stands : (log n : ℕ) (file : List ℕ) → promise files records log ≡ Some n → map.get kept log ≡ Some file
      → (now : List ℕ) × (map.get left log ≡ Some now) × IsLonger file now × (n ≤ length now)
  pub each : (log : ℕ) (now : List ℕ) → map.get left log ≡ Some now
      → ((file : List ℕ) × (map.get files log ≡ Some file) × IsDamagedBy (recorded records log) (file_of kept log) file now)
      ⊎ ((file : List ℕ) × (map.get files log ≡ None) × (map.get gone log ≡ Some file) × IsBackBy (recorded records log) file now)

-- ---- by the record of a test disk

-- each log has the bytes that its last record has as durable
pub record AreWritten (files : Files) (records : List Fact) : Type 0 where
  pub each : (log n : ℕ) (file : List ℕ) → map.get files log ≡ Some file → promised (recorded records log) ≡ Some n → n ≤ length file

-- The durable bytes of a record are intact, if they were written.
abbrev pub HasDurableBytes : Option ℕ → List ℕ → List ℕ → Type 0
HasDurableBytes None bytes left = Unit {0}
HasDurableBytes (Some n) bytes left = IsCut bytes (take n left) × (n ≤ length bytes → n ≤ length left)

-- What remains of a log, by its last record: a file that is damaged after its synced part and after
-- the durable bytes of its record; or no file, if nothing was synced or the record has no durable
-- bytes.
abbrev pub RemainsOf : Option LogState → NotedLog → Option (List ℕ) → Type 0
RemainsOf state log None = (log.synced ≡ None) ⊎ (promised state ≡ None)
RemainsOf state log (Some left) = IsDamaged (take (unwrap_or log.synced 0) log.bytes) log.bytes left × HasDurableBytes (promised state) log.bytes left

-- What is back of a removed file, by its last record; or nothing.
abbrev pub IsBackOfBy : Option LogState → List ℕ → Option (List ℕ) → Type 0
IsBackOfBy state file None = Unit {0}
IsBackOfBy state file (Some left) = IsBackBy state file left
