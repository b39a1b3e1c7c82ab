-- The ledgers of entries that were read.
use Rattle.std.specs.Prelude.{◌≡◌, ℕ, List, Some, IsTrue, All}
use Rattle.std.specs.Ordering.{nat_cmp}
use Rattle.std.specs.BTreeSet.{contains}
use Rattle.bk_record.specs.Location.{Place}
use Rattle.bk_record.specs.Record.{key_of}
use Rattle.bk_record.specs.Key.{EntryKey}
use Rattle.bk_deleted.specs.declared.deleted.Present.{Present}

-- the ledger of each of these entries is present, and that of the last one
pub record HasLedgers (now : Present) (taken : List (Place × List ℕ)) : Type 0 where
  pub each : All (λ entry. (key : EntryKey) → key_of entry.1 ≡ Some key → IsTrue (contains nat_cmp now.ledgers key.ledger)) taken
  pub last : (ledger : ℕ) → now.last ≡ Some ledger → IsTrue (contains nat_cmp now.ledgers ledger)
