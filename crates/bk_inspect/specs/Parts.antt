-- A scan of chosen entries of a log.
use Rattle.std.specs.Prelude.{◌≡◌, ◌==◌, ℕ, ◌++◌, Bool, true, ◌&&◌, List, length, drop, flat_map, Option, Some, None}
use Rattle.std.specs.Prelude.{nat_le}
use Rattle.std.specs.List.{filter}
use Rattle.bk_record.specs.Record.{ledger_field}
use Rattle.bk_record.specs.Files.{header_length, records_of, rest_of}
use Rattle.bk_record.specs.Scan.{entries_of, foreign_of, torn_of}
use Rattle.bk_record.specs.Body.{Body}
use Rattle.bk_inspect.specs.declared.command.ScanChoice.{ScanChoice}
use Rattle.bk_inspect.specs.Texts.{entry_line, counts_line}

-- any ledger, or this one
abbrev pub is_asked : Option ℕ → ℕ → Bool
is_asked None ledger = true
is_asked (Some asked) ledger = asked == ledger

-- the entry is at the position that is asked for or after it, and of the ledger that is asked for
abbrev pub is_taken : ScanChoice → ℕ → ℕ → Bool
is_taken choice at ledger = nat_le choice.from at && is_asked choice.ledger ledger

-- the chosen entries of a log, in order
abbrev pub taken_of : ScanChoice → List (ℕ × List ℕ) → List (ℕ × List ℕ)
taken_of choice = filter (λ e. is_taken choice e.0 (ledger_field e.1))

-- a row per chosen entry, then the number of these, of foreign records and of torn bytes
abbrev pub part_lines : ScanChoice → List ℕ → List ℕ
part_lines choice file = flat_map entry_line (taken_of choice (entries_of file))
    ++ counts_line (length (taken_of choice (entries_of file))) (foreign_of file) (torn_of file)

-- the records of a log are whole up to its end or a torn rest, and the text is the rows of the chosen entries
pub record IsPartText (choice : ScanChoice) (file text : List ℕ) : Type 0 where
  pub spelled : Body header_length (drop header_length file) (records_of file) (rest_of file)
  pub lines : text ≡ part_lines choice file
