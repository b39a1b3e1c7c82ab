-- The visible state of a store.
use Rattle.std.specs.Prelude.{◌≡◌, ℕ, zero, suc, Bool, List, Option}
use Rattle.std.proofs.Common.{refl}
use Rattle.std.specs.Coded.{Coded, code_by, coded×, coded_ℕ, coded_bool, coded_list, coded_option}
use Rattle.std.specs.FinMap as finite
use Rattle.bk_record.specs.Files.{Files}
use Rattle.bk_log.specs.Writing as writers
use Rattle.bk_record.specs.Keyed.{Places, places_code}
use Rattle.bk_cache.specs.Caches.{CacheState, cache_code}
use Rattle.bk_accounts.specs.Book.{Book, book_code}
use Rattle.bk_lease.specs.Values.{SlotTable}
use Rattle.bk_lease.specs.Codes.{slot_table_code}
use Rattle.bk_store.specs.Fronts.{fronts_code}
use Rattle.bk_store.specs.Jobs.{Job, job_code}
use Rattle.bk_store.specs.Ledgers.{KnownLedgers, known_ledgers_code}
use Rattle.bk_store.specs.Logs.{View, Log, Logs}
use Rattle.bk_store.specs.declared.fronts.Fronts.{Fronts}
use Rattle.bk_store.specs.declared.log.LogState.{LogState}
use Rattle.bk_store.specs.declared.log.LogState.TheVariants.{Writing, Filled, Copying, Readable, Retired, Closed}
use Rattle.bk_store.specs.declared.settings.Settings.{Settings}

-- The visible state: the settings; the files of the disk, whether it is honest, and its failure
-- count; the caches; the places of the running flush, by key; the index; the logs held; the table
-- of their slots; the id of the next log; the known ledgers; the fronts; the running compaction.
pub record State : Type 0 where
  pub settings : Settings
  pub files : Files
  pub honest : Bool
  pub failures : ℕ
  pub caches : CacheState
  pub places : Places
  pub index : Places
  pub logs : Logs
  pub keeper : SlotTable
  pub next : ℕ
  pub ledgers : KnownLedgers
  pub fronts : Fronts
  pub job : Option Job

-- The parts of a store: the visible state, and the internals. These are the accounts of the logs,
-- the Writing log, and a list with at least the logs that are Writing or Filled, which save a
-- search; and of the disk the synced part of each log, and the removed files that a crash may bring
-- back.
pub record StoreParts : Type 0 where
  pub state : State
  pub accounts : Book
  pub writing : Option ℕ
  pub filled : List ℕ
  pub synced : Files
  pub gone : Files

-- ---- representation in a model

abbrev state_number : LogState → ℕ
state_number Writing = 0
state_number Filled = 1
state_number Copying = 2
state_number Readable = 3
state_number Retired = 4
state_number Closed = 5

abbrev numbered_state : ℕ → LogState
numbered_state zero = Writing
numbered_state (suc zero) = Filled
numbered_state (suc (suc zero)) = Copying
numbered_state (suc (suc (suc zero))) = Readable
numbered_state (suc (suc (suc (suc zero)))) = Retired
numbered_state (suc (suc (suc (suc (suc n))))) = Closed

pub numbered_state-state_number : (s : LogState) → numbered_state (state_number s) ≡ s
numbered_state-state_number Writing = refl
numbered_state-state_number Filled = refl
numbered_state-state_number Copying = refl
numbered_state-state_number Readable = refl
numbered_state-state_number Retired = refl
numbered_state-state_number Closed = refl

abbrev pub log_state_code : Coded LogState
log_state_code = code_by ℕ coded_ℕ state_number numbered_state numbered_state-state_number

abbrev pub view_code : Coded View
view_code = code_by (List ℕ × (Bool × Bool)) (coded× (coded_list coded_ℕ) (coded× coded_bool coded_bool))
    (λ v. (v.bytes, (v.is_honest, v.is_sound))) (λ p. record { bytes = p.0; is_honest = p.1.0; is_sound = p.1.1 }) (λ _. refl)

abbrev pub log_code : Coded Log
log_code = code_by (LogState × (ℕ × (Option View × (ℕ × Option writers.Writing))))
    (coded× log_state_code (coded× coded_ℕ (coded× (coded_option view_code) (coded× coded_ℕ (coded_option writers.writing_code)))))
    (λ l. (l.state, (l.slot, (l.view, (l.acknowledged, l.writer)))))
    (λ p. record { state = p.0; slot = p.1.0; view = p.1.1.0; acknowledged = p.1.1.1.0; writer = p.1.1.1.1 }) (λ _. refl)

abbrev pub logs_code : Coded Logs
logs_code = finite.code coded_ℕ log_code

abbrev pub settings_code : Coded Settings
settings_code = code_by (ℕ × (ℕ × (ℕ × (ℕ × (ℕ × (ℕ × ℕ))))))
    (coded× coded_ℕ (coded× coded_ℕ (coded× coded_ℕ (coded× coded_ℕ (coded× coded_ℕ (coded× coded_ℕ coded_ℕ))))))
    (λ s. (s.log_limit, (s.cache_limit, (s.recent, (s.slots, (s.leases, (s.minor, s.major)))))))
    (λ p. record {
      log_limit = p.0;
      cache_limit = p.1.0;
      recent = p.1.1.0;
      slots = p.1.1.1.0;
      leases = p.1.1.1.1.0;
      minor = p.1.1.1.1.1.0;
      major = p.1.1.1.1.1.1;
    })
    (λ _. refl)

abbrev pub files_code : Coded Files
files_code = finite.code coded_ℕ (coded_list coded_ℕ)

-- a state is stored as the tuple of its fields
abbrev pub state_code : Coded State
state_code = code_by
    (Settings × (Files × (Bool × (ℕ × (CacheState × (Places × (Places × (Logs × (SlotTable × (ℕ × (KnownLedgers × (Fronts × Option Job))))))))))))
    (coded× settings_code (coded× files_code (coded× coded_bool (coded× coded_ℕ (coded× cache_code (coded× places_code
    (coded× places_code (coded× logs_code (coded× slot_table_code (coded× coded_ℕ (coded× known_ledgers_code (coded× fronts_code (coded_option job_code)))))))))))))
    (λ s. (s.settings, (s.files, (s.honest, (s.failures, (s.caches, (s.places, (s.index, (s.logs, (s.keeper, (s.next, (s.ledgers, (s.fronts, s.job)))))))))))))
    (λ p. record {
      settings = p.0;
      files = p.1.0;
      honest = p.1.1.0;
      failures = p.1.1.1.0;
      caches = p.1.1.1.1.0;
      places = p.1.1.1.1.1.0;
      index = p.1.1.1.1.1.1.0;
      logs = p.1.1.1.1.1.1.1.0;
      keeper = p.1.1.1.1.1.1.1.1.0;
      next = p.1.1.1.1.1.1.1.1.1.0;
      ledgers = p.1.1.1.1.1.1.1.1.1.1.0;
      fronts = p.1.1.1.1.1.1.1.1.1.1.1.0;
      job = p.1.1.1.1.1.1.1.1.1.1.1.1;
    })
    (λ _. refl)

-- so are the parts
abbrev pub parts_code : Coded StoreParts
parts_code = code_by (State × (Book × (Option ℕ × (List ℕ × (Files × Files)))))
    (coded× state_code (coded× book_code (coded× (coded_option coded_ℕ) (coded× (coded_list coded_ℕ) (coded× files_code files_code)))))
    (λ p. (p.state, (p.accounts, (p.writing, (p.filled, (p.synced, p.gone))))))
    (λ p. record { state = p.0; accounts = p.1.0; writing = p.1.1.0; filled = p.1.1.1.0; synced = p.1.1.1.1.0; gone = p.1.1.1.1.1 }) (λ _. refl)
