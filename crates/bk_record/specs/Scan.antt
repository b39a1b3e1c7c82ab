-- Logical contents of a set of files: for each key the payload of its last record (`scan_of`).
use Rattle.std.specs.Prelude.{ℕ, List, length, map, reverse, not, Option, option_map}
use Rattle.std.specs.List.{filter, filter_map}
use Rattle.std.specs.Ordering.{nat_cmp}
use Rattle.std.specs.FinMap as entries
use Rattle.std.specs.FinSet as ledgers
use Rattle.bk_record.specs.Key.{EntryKey, key_cmp}
use Rattle.bk_record.specs.Record.{key_of, is_foreign}
use Rattle.bk_record.specs.Files.{Files, records_of, rest_of, all_records}

-- finite map from keys to payloads
abbrev pub Payloads : Type 0
Payloads = entries.FinMap key_cmp (List ℕ)

-- finite set of ledgers
abbrev pub Ledgers : Type 0
Ledgers = ledgers.FinSet nat_cmp

-- payload with its key, if it has one
unfoldable pub keyed : List ℕ → Option (EntryKey × List ℕ)
keyed payload = option_map (λ key. (key, payload)) (key_of payload)

-- entries of a log: its records without the foreign ones, each with its position
unfoldable pub entries_of : List ℕ → List (ℕ × List ℕ)
entries_of file = filter (λ r. not (is_foreign r.1)) (records_of file)

-- number of foreign records of a log, and number of torn bytes after its records
unfoldable pub foreign_of : List ℕ → ℕ
foreign_of file = length (filter (λ r. is_foreign r.1) (records_of file))

unfoldable pub torn_of : List ℕ → ℕ
torn_of file = length (rest_of file)

-- Last payload of each key in a list. A map made of a list takes the first one, so the list is
-- reversed.
abbrev pub latest : List (EntryKey × List ℕ) → Payloads
latest list = entries.from_entries (reverse list)

-- logical contents of the files: the last record of a key wins, by log, then position (project
-- rule)
unfoldable pub scan_of : Files → Payloads
scan_of files = latest (filter_map (λ r. keyed r.1) (all_records files))

-- entries of live ledgers
unfoldable pub live : Payloads → Ledgers → Payloads
live map dead = entries.retain_keys map (λ key. not (ledgers.contains dead key.ledger))
