-- A part of a log: its entries, number of foreign records, and rest.
use Rattle.std.specs.Prelude.{◌≡◌, ℕ, ℤ, ◌+◌, ◌-◌, List, [], ◌++◌, length, take, drop, not}
use Rattle.std.specs.List.{filter}
use Rattle.bk_record.specs.Record.{is_foreign}
use Rattle.bk_record.specs.Body.{Body, IsBadAt}
use Rattle.bk_record.specs.Spelling.{all_pieces, all_leftover}
use Rattle.bk_record.specs.Files.{header_length, rest_of}
use Rattle.bk_record.specs.Scan.{entries_of, foreign_of}

-- bytes of a log from one position to another
abbrev pub part : List ℕ → ℕ → ℕ → List ℕ
part file from end = take (end - from) (drop from file)

-- entries: the records without the foreign ones
unfoldable pub entries_in : ℕ → List ℕ → List (ℕ × List ℕ)
entries_in from bytes = filter (λ r. not (is_foreign r.1)) (all_pieces from bytes)

-- number of foreign records
unfoldable pub foreign_in : ℕ → List ℕ → ℕ
foreign_in from bytes = length (filter (λ r. is_foreign r.1) (all_pieces from bytes))

-- The bytes before position `at` are whole records, `given` entries and `foreign` others; `left`
-- are the bytes after.
pub record IsPassed (from : ℕ) (bytes : List ℕ) (at : ℕ) (left : List ℕ) (given foreign : ℕ) : Type 0 where
  pub front : List ℕ
  pub records : List (ℕ × List ℕ)
  pub split : bytes ≡ front ++ left
  pub place : at ≡ from + length front
  pub whole : Body from front records []
  pub entries : given ≡ length (filter (λ r. not (is_foreign r.1)) records)
  pub others : foreign ≡ length (filter (λ r. is_foreign r.1) records)

-- the part of a log after its header has the log's entries, foreign records and rest
pub record IsWholePart (file : List ℕ) : Type 0 where
  pub entries : entries_in header_length (drop header_length file) ≡ entries_of file
  pub foreign : foreign_in header_length (drop header_length file) ≡ foreign_of file
  pub rest : all_leftover (drop header_length file) ≡ rest_of file

-- A second scan of a part, from the position that a first scan has reached, to the same end. It
-- gives the entries that the first has not given yet, in order, and has the same end or bad length.
pub record GoesOn (file : List ℕ) (from end at given foreign : ℕ) : Type 0 where
  pub entries : entries_in at (part file at end) ≡ drop given (entries_in from (part file from end))
  pub others : foreign_in from (part file from end) ≡ foreign + foreign_in at (part file at end)
  pub rest : all_leftover (part file at end) ≡ all_leftover (part file from end)
  pub bad : (place : ℕ) (value : ℤ) → IsBadAt at (part file at end) place value → IsBadAt from (part file from end) place value
