-- What an import makes of the contents of a store.
use Rattle.std.specs.Prelude.{◌≡◌, ℕ, Bool, false, List, find, Option, None, IfSome, Result, Ok, Err, IsOk, if◌then◌else◌}
use Rattle.std.specs.List.{All}
use Rattle.std.specs.Ordering.{eq_by_cmp}
use Rattle.std.specs.Option.{option_or}
use Rattle.std.specs.FinMap as finite
use Rattle.std.specs.FinSet as set
use Rattle.bk_record.specs.Key.{EntryKey, key_cmp}
use Rattle.bk_record.specs.Files.{Files}
use Rattle.bk_record.specs.Record.{read_added}
use Rattle.bk_record.specs.declared.fault.RecordFault.{RecordFault}
use Rattle.bk_record.specs.Scan.{scan_of}
use Rattle.bk_store.specs.State.{State}
use Rattle.bk_store.specs.Contents.{written_at}
use Rattle.bk_store.specs.Transitions.{valid_ledgers}
use Rattle.bk_import.specs.Records.{records}

-- the key that was read is this one
abbrev pub is_key : EntryKey → Result EntryKey RecordFault → Bool
is_key key (Ok found) = eq_by_cmp key_cmp key found
is_key key (Err fault) = false

-- the first of the payloads that is an entry's of this key
abbrev pub first_of : List (List ℕ) → EntryKey → Option (List ℕ)
first_of payloads key = find (λ payload. is_key key (read_added payload)) payloads

-- Each payload is an entry's. Of each key the contents have what they had before, else the first of
-- the payloads that has it; so an entry that was there stays, and no other entry is new.
pub record Gains (before after : EntryKey → Option (List ℕ)) (payloads : List (List ℕ)) : Type 0 where
  pub entries : All (λ payload. IsOk (read_added payload)) payloads
  pub contents : (key : EntryKey) → after key ≡ option_or (before key) (first_of payloads key)

-- the contents of files in which these ledgers are deleted
abbrev pub contents_of : Files → List ℕ → EntryKey → Option (List ℕ)
contents_of files dead key = if set.contains (valid_ledgers dead) key.ledger then None else finite.get (scan_of files) key

-- no write cache has an entry
abbrev pub IsFlushed : State → Type 0
IsFlushed s = (key : EntryKey) → written_at s key ≡ None

-- As far as its bytes are known, the input was the records of some payloads and nothing else. On an
-- honest disk the store gained these.
pub record Imports (honest : Type 0) (input : Option (List ℕ)) (had has : EntryKey → Option (List ℕ)) : Type 0 where
  pub payloads : List (List ℕ)
  pub read : IfSome input (λ bytes. bytes ≡ records payloads)
  pub gained : honest → Gains had has payloads
