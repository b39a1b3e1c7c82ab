-- What a loss of power may leave of a log, and of a removed file.
use Rattle.std.specs.Prelude.{◌≡◌, ◌⊎◌, ℕ, ◌≤◌, List, ◌++◌, take, length, Option, None, Some, Vec}
use Rattle.std.specs.Global.{Global}
use Rattle.std.specs.FinMap as finite
use Rattle.bk_record.specs.Files.{Files}
use Rattle.bk_record.specs.Longer.{IsLonger}
use Rattle.bk_disk.specs.Disk.{patched_file}
use Rattle.bk_disk.specs.Logs.{listed}
use Rattle.bk_store.specs.Crash.{IsCut}
use Rattle.bk_crash.specs.Noting.{NotedLog}

-- ---- what is left

-- what is left of the log has its synced part
abbrev pub HasSynced : Option ℕ → List ℕ → List ℕ → Type 0
HasSynced None bytes left = Unit {0}
HasSynced (Some synced) bytes left = IsLonger (take synced bytes) left

-- What is left of a log: a cut of its bytes with all synced ones, or no file if nothing was synced.
abbrev pub IsLeftOf : NotedLog → Option (List ℕ) → Type 0
IsLeftOf log None = log.synced ≡ None
IsLeftOf log (Some left) = IsCut log.bytes left × HasSynced log.synced log.bytes left

-- What is left of a removed file: a cut of it, or nothing.
abbrev pub IsBackOf : List ℕ → Option (List ℕ) → Type 0
IsBackOf file None = Unit {0}
IsBackOf file (Some left) = IsCut file left

-- The file, possibly with other bytes in the patched part of its header.
abbrev pub IsSpoiled : List ℕ → List ℕ → Type 0
IsSpoiled file now = (now ≡ file) ⊎ ((bytes : List ℕ) × (length bytes ≡ 12) × (now ≡ patched_file file bytes))

-- A prefix of a log of at least that many bytes, possibly with other bytes in its patched header.
abbrev pub IsBegun : NotedLog → ℕ → List ℕ → Type 0
IsBegun log least left = (count : ℕ) × (least ≤ count) × IsSpoiled (take count log.bytes) left

-- What is back of a removed file, by a relation. Nothing if there was no such file.
abbrev pub IsBack : (List ℕ → Option (List ℕ) → Type 0) → Option (List ℕ) → Option (List ℕ) → Type 0
IsBack IsOf None left = left ≡ None
IsBack IsOf (Some file) left = IsOf file left

-- A log that is left is unchanged. If there is no log, a removed file may be back.
abbrev pub IsPutBack : (List ℕ → Option (List ℕ) → Type 0) → Option NotedLog → Option (List ℕ) → Option (List ℕ) → Option (List ℕ) → Type 0
IsPutBack IsOf (Some log) removed before left = left ≡ before
IsPutBack IsOf None removed before left = before ≡ None → IsBack IsOf removed left

-- The files of a list, by id.
abbrev pub by_id : List (ℕ × Vec ℕ Global) → Files
by_id files = finite.from_entries (listed files)

-- ---- damage

-- A file that is at least this long, with any bytes from there or from a later position on; or the
-- file as it was.
abbrev pub IsDamagedFrom : ℕ → List ℕ → List ℕ → Type 0
IsDamagedFrom end file now = (now ≡ file)
    ⊎ ((end ≤ length file) × (n : ℕ) × (end ≤ n) × (more : List ℕ) × (now ≡ take n file ++ more))
