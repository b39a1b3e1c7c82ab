-- The record of a test disk (`Written`), and what a loss of power may leave of all its logs.
use Rattle.std.specs.Prelude.{◌≡◌, ℕ, List, map, take, Option, Some, Vec}
use Rattle.std.specs.Global.{Global}
use Rattle.std.specs.FinMap as finite
use Rattle.bk_record.specs.Files.{Files}
use Rattle.bk_record.specs.Longer.{IsLonger}
use Rattle.bk_crash.specs.Noting.{NotedLog, NotedLogs}
use Rattle.bk_crash.specs.Leaving.{IsPutBack, by_id}
use Rattle.bk_crash.specs.declared.written.Written.{Written}

-- The record of each log.
abbrev pub logs_of : Written → NotedLogs
logs_of written = finite.from_entries written.logs.entries

-- The bytes written to each log.
abbrev pub files_of : Written → Files
files_of written = finite.from_entries (map (λ e. (e.0, e.1.bytes)) written.logs.entries)

-- The removed files.
abbrev pub gone_of : Written → Files
gone_of written = finite.from_entries (map (λ e. (e.0, e.1.items)) written.gone.entries)

-- no log has more bytes in `kept` than were synced, after its header
pub record AreSynced (written : Written) (kept : Files) : Type 0 where
  pub each : (id : ℕ) (file : List ℕ) → finite.get kept id ≡ Some file
      → (log : NotedLog) × (synced : ℕ) × (finite.get (logs_of written) id ≡ Some log) × (log.synced ≡ Some synced)
      × IsLonger file (take synced log.bytes)

-- The files left, with removed files that are back: the relation holds of the file with this id and
-- what is back of it.
abbrev pub ArePutBack : (ℕ → List ℕ → Option (List ℕ) → Type 0) → Written → List (ℕ × Vec ℕ Global) → List (ℕ × Vec ℕ Global) → Type 0
ArePutBack IsOf written before left = (id : ℕ)
    → IsPutBack (IsOf id) (finite.get (logs_of written) id) (finite.get (gone_of written) id) (finite.get (by_id before) id) (finite.get (by_id left) id)
