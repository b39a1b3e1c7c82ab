-- True hints. Read `IsTrueHint` and `AreTrue` first.
use Rattle.std.specs.Prelude.{◌≡◌, ℕ, List, Option, Some, None, Result, Ok, Err, Vec}
use Rattle.std.specs.Global.{Global}
use Rattle.std.specs.FinMap as map
use Rattle.bk_record.specs.Files.{Files}
use Rattle.bk_hint.specs.declared.facts.LogFacts.{LogFacts}
use Rattle.bk_hint.specs.declared.listed.Listed.{Listed}
use Rattle.bk_hint.specs.Hint.{IsHint}
use Rattle.bk_hint_view.specs.Rows.{AreRecords}
use Rattle.bk_hint_disk.specs.declared.fault.HintStoreFault.{HintStoreFault}

-- The entries that the hint lists, if it is one, are records of the file.
abbrev pub IsTrueHint : List ℕ → List ℕ → Type 0
IsTrueHint file hint = (facts : LogFacts) (entries : List Listed) → IsHint hint facts entries → AreRecords file entries

-- The hint of each log that has a file is true of the file.
abbrev pub AreTrue : Files → Files → Type 0
AreTrue hints files = (log : ℕ) (hint file : List ℕ) → map.get hints log ≡ Some hint → map.get files log ≡ Some file → IsTrueHint file hint

-- the bytes are a hint of these entries, of a log of this id
pub record IsHintOf (hint : List ℕ) (log : ℕ) (entries : List Listed) : Type 0 where
  pub facts : LogFacts
  pub is : IsHint hint facts entries
  pub of_log : facts.log ≡ log

-- the store returned a hint of these entries
abbrev pub HasHint : Result (Option (Vec ℕ Global)) HintStoreFault → ℕ → List Listed → Type 0
HasHint (Ok (Some hint)) log entries = IsHintOf hint.items log entries
HasHint (Ok None) log entries = ⊥
HasHint (Err fault) log entries = ⊥
