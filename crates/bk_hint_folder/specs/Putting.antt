-- A put of a hint after its log was synced. Read `PutsHint`.
use Rattle.std.specs.Prelude.{◌≡◌, ◌⊎◌, ℕ, List, length, Result, Ok, Err}
use Rattle.std.specs.FinMap as map
use Rattle.bk_record.specs.Files.{Files}
use Rattle.bk_disk.specs.Durable.{IsAllDurable}
use Rattle.bk_hint_disk.specs.declared.fault.MakeFault.{MakeFault}
use Rattle.bk_hint_folder.specs.declared.making.Outcome.{Outcome}
use Rattle.bk_hint_folder.specs.declared.making.Outcome.TheVariants.{Made, Kept, Unsealed, Unfit, NoLog}
use Rattle.bk_hint_folder.specs.Hinting.{IsPutOrNot}

-- These bytes are the hint of the log, whose bytes are durable. An error leaves the old hint; or the log's bytes are
-- durable, and there is the old hint, this one or none.
abbrev pub PutsHint : Files → Files → Files → ℕ → List ℕ → Result Outcome MakeFault → Files → Type 0
PutsHint files kept old log hint (Ok (Made bytes)) new = IsAllDurable files log kept × (bytes ≡ length hint) × (new ≡ map.insert old log hint)
PutsHint files kept old log hint (Ok Kept) new = ⊥
PutsHint files kept old log hint (Ok Unsealed) new = ⊥
PutsHint files kept old log hint (Ok Unfit) new = ⊥
PutsHint files kept old log hint (Ok NoLog) new = ⊥
PutsHint files kept old log hint (Err fault) new = (new ≡ old) ⊎ (IsAllDurable files log kept × IsPutOrNot old log hint new)
