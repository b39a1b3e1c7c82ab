-- What an opening shows of logs, by their manifest. Read `AreOpened` first.
use Rattle.std.specs.Prelude.{◌≡◌, ℕ, ◌-◌, ◌<◌, ◌≤◌, Bool, true, cond, nat_lt, min, List, [], ◌∷◌, length, map, flat_map, Option, None, Some, option_map, if◌then◌else◌}
use Rattle.std.specs.List.{list_any}
use Rattle.std.specs.Ordering.{nat_cmp, eq_by_cmp}
use Rattle.std.specs.BTreeMap.{get}
use Rattle.std.specs.FinMap as finite
use Rattle.bk_record.specs.Files.{Files, file_of}
use Rattle.bk_disk.specs.Durable.{IsDurable}
use Rattle.bk_manifest.specs.declared.state.State.{State}
use Rattle.bk_manifest.specs.declared.state.LogState.{LogState}
use Rattle.bk_manifest.specs.declared.state.LogState.TheVariants.{Made, Durable, Removed}
use Rattle.bk_manifest.specs.Fact.{Fact, durable_log}
use Rattle.bk_manifest.specs.State.{the_log, said, log_state, IsStateOf}
use Rattle.bk_manifest_disk.specs.declared.table.Finding.{Finding}
use Rattle.bk_manifest_disk.specs.declared.table.Finding.TheVariants.{Nothing, Whole, Longer, Shorter, Missing, Unpublished, Unknown, Back}
use Rattle.bk_manifest_disk.specs.declared.report.Report.{Report}
use Rattle.bk_manifest_disk.specs.declared.report.Cause.TheVariants as cause
use Rattle.bk_manifest_disk.specs.declared.looking.Found.{Found}
use Rattle.bk_manifest_disk.specs.Table.{recorded}
use Rattle.bk_manifest_disk.specs.declared.lack.Lack.{Lack}
use Rattle.bk_manifest_disk.specs.declared.lack.Lack.TheVariants as lack
use Rattle.bk_manifest_disk.specs.Limiting.{LogLimits, shown}
use Rattle.bk_manifest_disk.specs.Recording.{limit_of}

-- each log is shown up to the bytes that its last record has: all without a record, none if it was
-- only made
pub record AreOpened (files : Files) (records : List Fact) (now : Files) : Type 0 where
  pub each : (log : ℕ) → finite.get now log ≡ option_map (shown (limit_of (recorded records log))) (finite.get files log)

-- ---- one log

-- what the last record about a log has, by a state
abbrev pub known : State → ℕ → Option LogState
known state log = log_state (said state (the_log log))

-- row of a log that has a file of this length
abbrev pub finding_at : Option LogState → ℕ → Finding
finding_at None n = Unknown n
finding_at (Some Made) n = Unpublished n
finding_at (Some (Durable d)) n = if nat_lt n d then Shorter d n else if nat_lt d n then Longer d n else Whole n
finding_at (Some (Removed d)) n = Back d n

-- position from which on a log is hidden
abbrev pub hidden_from : Finding → Option ℕ
hidden_from Nothing = None
hidden_from (Whole n) = None
hidden_from (Longer d n) = Some d
hidden_from (Shorter d n) = None
hidden_from (Missing d) = None
hidden_from (Unpublished n) = Some 0
hidden_from (Unknown n) = None
hidden_from (Back d n) = Some (min d n)

-- durable length that an opening records: all of an unknown log, and what is shown of a removed one
abbrev pub adopted_length : Finding → Option ℕ
adopted_length Nothing = None
adopted_length (Whole n) = None
adopted_length (Longer d n) = None
adopted_length (Shorter d n) = None
adopted_length (Missing d) = None
adopted_length (Unpublished n) = None
adopted_length (Unknown n) = Some n
adopted_length (Back d n) = Some (min d n)

-- what an opening reports of a log
abbrev pub reported : ℕ → Finding → Option Report
reported log Nothing = None
reported log (Whole n) = None
reported log (Longer d n) = Some (record { log = log; from = d; bytes = n - d; cause = cause.NotDurable })
reported log (Shorter d n) = None
reported log (Missing d) = None
reported log (Unpublished n) = Some (record { log = log; from = 0; bytes = n; cause = cause.NeverDurable })
reported log (Unknown n) = None
reported log (Back d n) = Some (record { log = log; from = min d n; bytes = n - min d n; cause = cause.Back })

-- ---- all logs

abbrev pub listed : {X : Type 0} → Option X → List X
listed None = []
listed (Some x) = x ∷ []

-- row of a log of these files
abbrev pub row_of : State → Files → ℕ → Finding
row_of state files log = finding_at (known state log) (length (file_of files log))

-- reports on logs, in order
abbrev pub reports_of : State → Files → List ℕ → List Report
reports_of state files logs = flat_map (λ log. listed (reported log (row_of state files log))) logs

-- logs that an opening records, with their durable lengths
abbrev pub adopted_of : State → Files → List ℕ → List (ℕ × ℕ)
adopted_of state files logs = flat_map (λ log. listed (option_map (λ n. (log, n)) (adopted_length (row_of state files log)))) logs

abbrev pub has : List ℕ → ℕ → Bool
has logs log = list_any (eq_by_cmp nat_cmp log) logs

-- what was found of some logs
pub record HasFound (state : State) (files : Files) (logs : List ℕ) (found : Found) : Type 0 where
  pub lengths : (q : ℕ) → get nat_cmp found.lengths q ≡ cond (has logs q) (Some (length (file_of files q))) None
  pub limits : (q : ℕ) → get nat_cmp found.limits q ≡ cond (has logs q) (hidden_from (row_of state files q)) None
  pub adopted : found.adopted.items ≡ adopted_of state files logs
  pub reports : found.reports.items ≡ reports_of state files logs

-- all bytes of these logs are durable
abbrev pub AreSynced : Files → Files → List ℕ → Type 0
AreSynced files kept logs = (log : ℕ) (file : List ℕ) → has logs log ≡ true → finite.get files log ≡ Some file → IsDurable kept log file

-- records of durable lengths
abbrev pub as_records : List (ℕ × ℕ) → List Fact
as_records logs = map (λ e. durable_log e.0 e.1) logs

-- each durable byte of each log is in its file
abbrev pub HasDurableBytes : State → Files → Type 0
HasDurableBytes state files =
    (log n : ℕ) → known state log ≡ Some (Durable n) → (file : List ℕ) × (finite.get files log ≡ Some file) × (n ≤ length file)

-- logs of these files with limits, by a state: what is hidden, what is reported, and what is to be recorded
pub record AreLimited (state : State) (files : Files) (limits : LogLimits) (reports : List Report) (adopted : List (ℕ × ℕ)) : Type 0 where
  pub hidden : (q : ℕ) → finite.get limits q ≡ cond (has (finite.keys files) q) (hidden_from (row_of state files q)) None
  pub told : reports ≡ reports_of state files (finite.keys files)
  pub new : adopted ≡ adopted_of state files (finite.keys files)
  pub durable : (records : List Fact) → IsStateOf records state → HasDurableBytes state files

-- durable bytes of a log are missing: its file is shorter, or there is none
abbrev pub Lacks : State → Files → Lack → Type 0
Lacks state files (lack.Shorter log durable n) = (known state log ≡ Some (Durable durable)) × (length (file_of files log) ≡ n) × (n < durable)
Lacks state files (lack.Missing log durable) = (known state log ≡ Some (Durable durable)) × (finite.get files log ≡ None)

-- the same by records: a lack, and the reports on all logs of these files
abbrev pub LacksBy : List Fact → Files → Lack → Type 0
LacksBy records files (lack.Shorter log durable n) = (recorded records log ≡ Some (Durable durable)) × (length (file_of files log) ≡ n) × (n < durable)
LacksBy records files (lack.Missing log durable) = (recorded records log ≡ Some (Durable durable)) × (finite.get files log ≡ None)

abbrev pub reports_by : List Fact → Files → List Report
reports_by records files = flat_map (λ log. listed (reported log (finding_at (recorded records log) (length (file_of files log))))) (finite.keys files)
