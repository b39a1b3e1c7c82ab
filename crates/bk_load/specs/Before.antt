-- The ledgers of files before a load.
use Rattle.std.specs.Prelude.{ℕ, ◌<◌, List}
use Rattle.bk_record.specs.Key.{EntryKey}
use Rattle.bk_record.specs.Location.{Place}
use Rattle.bk_record.specs.Files.{Files, file_of}
use Rattle.bk_store.specs.Entries.{HasEntry}

-- the files have no entry of this ledger or of a later one
abbrev pub IsPastLedgers : Files → ℕ → Type 0
IsPastLedgers files first = (place : Place) (key : EntryKey) (payload : List ℕ) → HasEntry (file_of files) place key payload → key.ledger < first
