-- The files of entry logs, and the records in them. A `Place` is the value of a `Location`.
use Rattle.std.specs.Prelude.{◌≡◌, ℕ, ◌≤◌, List, [], ◌∷◌, map, length, drop, flat_map, unwrap_or, ◌⊎◌}
use Rattle.std.specs.Ordering.{nat_cmp}
use Rattle.std.specs.FinMap as files
use Rattle.bk_record.specs.Location.{Place}
use Rattle.bk_record.specs.Body.{Body, pieces, leftover}

-- bytes of each log, by log id
abbrev pub Files : Type 0
Files = files.FinMap nat_cmp (List ℕ)

-- bytes of a log, none if there is no such log
abbrev pub file_of : Files → ℕ → List ℕ
file_of fs log = unwrap_or (files.get fs log) []

-- length of a header: the position of the first record
abbrev pub header_length : ℕ
header_length = 1024

-- payloads of a log's records, each with its position; none in a file shorter than a header
unfoldable pub records_of : List ℕ → List (ℕ × List ℕ)
records_of file = pieces (length file) header_length (drop header_length file)

-- bytes after the last whole record
unfoldable pub rest_of : List ℕ → List ℕ
rest_of file = leftover (length file) (drop header_length file)

-- a header, then whole records and nothing else
pub record IsWhole (file : List ℕ) : Type 0 where
  pub headed : header_length ≤ length file
  pub records : List (ℕ × List ℕ)
  pub spelled : Body header_length (drop header_length file) records []

-- the list has the element
abbrev pub In : {X : Type 0} → X → List X → Type 0
In x [] = ⊥
In x (y ∷ ys) = (y ≡ x) ⊎ In x ys

-- at `place` there is a record of this payload
unfoldable pub HasRecord : Files → Place → List ℕ → Type 0
HasRecord fs place payload = In (place.at, payload) (records_of (file_of fs place.log))

-- records of a log, each with its place
abbrev pub placed : ℕ → List (ℕ × List ℕ) → List (Place × List ℕ)
placed log = map (λ r. (record { log = log; at = r.0 }, r.1))

-- all records of all files, in order of log, then position
unfoldable pub all_records : Files → List (Place × List ℕ)
all_records fs = flat_map (λ f. placed f.0 (records_of f.1)) (files.entries fs)
