-- A survey of a directory: its logs so far, the log that is read, and the ledgers. Read `CountsEntry` and `EndsLog`.
use Rattle.std.specs.Prelude.{◌≡◌, ◌≢◌, ℕ, ◌+◌, Bool, [], ◌∷◌, ◌++◌, Option, Some, None}
use Rattle.std.specs.Ordering.{nat_cmp}
use Rattle.std.specs.BTreeMap.{BTreeMap, get}
use Rattle.std.specs.BTreeSet.{contains}
use Rattle.bk_report.specs.declared.report.LogRow.{LogRow}
use Rattle.bk_report.specs.declared.counting.LogEnd.{LogEnd}
use Rattle.bk_report.specs.declared.survey.LedgerCount.{LedgerCount}
use Rattle.bk_report.specs.declared.survey.Survey.{Survey}
use Rattle.bk_report.specs.Parts.{saturated}
use Rattle.bk_report.specs.Histogram.{CountsSize}
use Rattle.bk_report.specs.Counting.{AddsEntry, IsRowOf}

-- a number of what was counted of a ledger, 0 before its first entry
abbrev pub counted : (LedgerCount → ℕ) → Option LedgerCount → ℕ
counted amount None = 0
counted amount (Some count) = amount count

-- the count of a ledger has one more entry of this size
pub record HasOneMore (size : ℕ) (is_dead : Bool) (before : Option LedgerCount) (after : LedgerCount) : Type 0 where
  pub entries : after.entries ≡ saturated (counted (λ it. it.entries) before + 1)
  pub bytes : after.bytes ≡ saturated (counted (λ it. it.bytes) before + size)
  pub dead : after.is_dead ≡ is_dead

-- one ledger has one more entry, and the others are unchanged
pub record AddsToLedger (ledger size : ℕ) (is_dead : Bool) (old new : BTreeMap ℕ LedgerCount) : Type 0 where
  pub count : LedgerCount
  pub more : HasOneMore size is_dead (get nat_cmp old ledger) count
  pub stored : get nat_cmp new ledger ≡ Some count
  pub others : (other : ℕ) → other ≢ ledger → get nat_cmp new other ≡ get nat_cmp old other

-- An entry is counted once, in the log that is read, in its ledger, and by its size.
pub record CountsEntry (ledger size : ℕ) (old new : Survey) : Type 0 where
  pub logs : new.logs ≡ old.logs
  pub deleted : new.deleted ≡ old.deleted
  pub sizes : CountsSize size old.sizes new.sizes
  pub ledgers : AddsToLedger ledger size (contains nat_cmp old.deleted ledger) old.ledgers new.ledgers
  pub log : (is_first : Bool) × AddsEntry size (contains nat_cmp old.deleted ledger) is_first old.log new.log

-- the log that was read is the last row
abbrev pub EndsLog : LogEnd → Survey → Survey → Type 0
EndsLog end old new = (row : LogRow) × IsRowOf old.log end row × (new.logs.items ≡ old.logs.items ++ row ∷ [])
