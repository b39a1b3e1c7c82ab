-- A walk over logs: which log's turn comes next, and the entries that it takes in. Read `entries_in_logs`.
use Rattle.std.specs.Prelude.{◌≡◌, ℕ, ◌+◌, ◌≤◌, List, length, flat_map, slice_get, Option, Some, None}
use Rattle.bk_record.specs.Location.{Place}
use Rattle.bk_record.specs.Files.{placed}
use Rattle.bk_record.specs.Scan.{entries_of}

-- the entries of some logs, in order of the logs, then position, each with its place
abbrev pub entries_in_logs : List (ℕ × List ℕ) → List (Place × List ℕ)
entries_in_logs logs = flat_map (λ f. placed f.0 (entries_of f.1)) logs

-- the next one of some logs, of which so many had their turn; none if all had
abbrev pub TakesTurn : List ℕ → ℕ → Option ℕ → List ℕ → ℕ → Type 0
TakesTurn logs at (Some log) logs' at' = (slice_get logs at ≡ Some log) × ((logs' ≡ logs) × (at' ≡ at + 1))
TakesTurn logs at None logs' at' = (length logs ≤ at) × ((logs' ≡ logs) × (at' ≡ at))
