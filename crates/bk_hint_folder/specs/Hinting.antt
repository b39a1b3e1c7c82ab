-- What a call leaves of the hints of a store, and what the state of a hint means. Read `LeavesHints` first.
use Rattle.std.specs.Prelude.{◌≡◌, ◌⊎◌, ℕ, List, take, length, Some, IsNone, Option, Result, Ok, Err}
use Rattle.std.specs.FinMap as map
use Rattle.bk_record.specs.Files.{Files, header_length}
use Rattle.bk_disk.specs.Durable.{IsAllDurable}
use Rattle.bk_hint.specs.declared.listed.Listed.{Listed}
use Rattle.bk_hint_disk.specs.Truth.{IsTrueHint}
use Rattle.bk_hint_disk.specs.Usable.{IsUsable}
use Rattle.bk_hint_disk.specs.declared.fault.MakeFault.{MakeFault}
use Rattle.bk_hint_folder.specs.Sealed.{IsOpenLog, IsSealedLog}
use Rattle.bk_hint_folder.specs.declared.making.Outcome.{Outcome}
use Rattle.bk_hint_folder.specs.declared.making.Outcome.TheVariants.{Made, Kept, Unsealed, Unfit, NoLog}
use Rattle.bk_hint_folder.specs.declared.comparing.HintState.{HintState}
use Rattle.bk_hint_folder.specs.declared.comparing.HintState.TheVariants as states

-- the log has a file, of which this holds
abbrev pub OfFile : Files → ℕ → (List ℕ → Type 0) → Type 0
OfFile files log Is = (file : List ℕ) × (map.get files log ≡ Some file) × Is file

-- the store has a hint of the log that may be used for this file
abbrev pub HasUsable : Files → ℕ → List ℕ → Type 0
HasUsable hints log file = (hint : List ℕ) × ((entries : List Listed) × ((map.get hints log ≡ Some hint) × IsUsable (take header_length file) file hint log entries))

-- A hint that may be written: it is true of the file of the log, all of which is durable.
abbrev pub IsSafeHint : Files → Files → ℕ → List ℕ → Type 0
IsSafeHint files kept log hint = OfFile files log (λ file. IsTrueHint file hint) × IsAllDurable files log kept

-- a put of a hint that failed: there is the old one, this one or none
abbrev pub IsPutOrNot : Files → ℕ → List ℕ → Files → Type 0
IsPutOrNot old log hint new = (new ≡ old) ⊎ ((new ≡ map.insert old log hint) ⊎ (new ≡ map.remove old log))

-- Hints before and after `hint_log`, of logs with these files, of which `kept` is durable afterwards. No other log's
-- hint changes.
abbrev pub LeavesHints : Files → Files → Files → ℕ → Result Outcome MakeFault → Files → Type 0
LeavesHints files kept old log (Ok (Made bytes)) new = OfFile files log IsSealedLog
    × ((hint : List ℕ) × IsSafeHint files kept log hint × (bytes ≡ length hint) × (new ≡ map.insert old log hint))
LeavesHints files kept old log (Ok Kept) new = OfFile files log (λ file. IsSealedLog file × HasUsable old log file) × (new ≡ old)
LeavesHints files kept old log (Ok Unsealed) new = OfFile files log IsOpenLog × (new ≡ old)
LeavesHints files kept old log (Ok Unfit) new = OfFile files log IsSealedLog × (new ≡ old)
LeavesHints files kept old log (Ok NoLog) new = IsNone (map.get files log) × (new ≡ old)
LeavesHints files kept old log (Err fault) new = (new ≡ old) ⊎ ((hint : List ℕ) × IsSafeHint files kept log hint × IsPutOrNot old log hint new)

-- What a state says of a log and its hint. A right hint may be used, and is true of the log's file.
abbrev pub IsStateOf : Files → Files → ℕ → Result HintState MakeFault → Type 0
IsStateOf files hints log (Ok states.Right) = OfFile files log (λ file. HasUsable hints log file
    × ((hint : List ℕ) × (map.get hints log ≡ Some hint) × IsTrueHint file hint))
IsStateOf files hints log (Ok states.Missing) = OfFile files log IsSealedLog × IsNone (map.get hints log)
IsStateOf files hints log (Ok states.Unsealed) = OfFile files log IsOpenLog × IsNone (map.get hints log)
IsStateOf files hints log (Ok (states.Wrong wrong)) = OfFile files log (λ file. Unit {0})
IsStateOf files hints log (Ok states.NoLog) = IsNone (map.get files log)
IsStateOf files hints log (Err fault) = Unit {0}

-- The state of a hint that cannot be read: it is wrong, or there is no memory for it.
abbrev pub IsUnread : Result HintState MakeFault → Type 0
IsUnread (Ok (states.Wrong wrong)) = Unit {0}
IsUnread (Ok states.Right) = ⊥
IsUnread (Ok states.Missing) = ⊥
IsUnread (Ok states.Unsealed) = ⊥
IsUnread (Ok states.NoLog) = ⊥
IsUnread (Err fault) = Unit {0}
