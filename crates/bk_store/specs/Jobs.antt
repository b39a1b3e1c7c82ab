-- The job of a running compaction.
use Rattle.std.specs.Prelude.{◌≡◌, ℕ, zero, suc, Bool, true, false, List, [], ◌∷◌, ◌++◌}
use Rattle.std.proofs.Common.{refl}
use Rattle.std.specs.Coded.{Coded, code_by, coded×, coded_ℕ, coded_bool, coded_list}
use Rattle.bk_record.specs.Key.{EntryKey}
use Rattle.bk_record.specs.Location.{Place}
use Rattle.bk_record.specs.Files.{header_length, In}
use Rattle.bk_record.specs.Keyed.{key_code, place_code}
use Rattle.bk_store.specs.declared.job.Phase.{Phase}
use Rattle.bk_store.specs.declared.job.Phase.TheVariants.{Copy, Switch}
use Rattle.bk_store.specs.declared.job.Move.{Move}

-- A job: the source log; the target log; the position in the source log up to which records were
-- examined; the phase; the pending relocations, in order; and whether the index was rebuilt since
-- the begin.
pub record Job : Type 0 where
  pub source : ℕ
  pub copy : ℕ
  pub at : ℕ
  pub phase : Phase
  pub moves : List Move
  pub rebuilt : Bool

-- a job that has examined nothing
abbrev pub new_job : ℕ → ℕ → Job
new_job source copy = record { source = source; copy = copy; at = header_length; phase = Copy; moves = []; rebuilt = false }

-- the job with one more relocation
abbrev pub with_move : Job → Move → Job
with_move job copied = record job { moves = job.moves ++ copied ∷ [] }

-- the relocation is the oldest pending one, and the second job is without it
abbrev pub waits_from : Job → Move → Job → Type 0
waits_from job first rest = (job.moves ≡ first ∷ rest.moves) × (rest ≡ record job { moves = rest.moves })

-- a relocation of the key from this place is pending
abbrev pub Waits : List Move → EntryKey → Place → Type 0
Waits moves key place = (waiting : Move) × In waiting moves × (waiting.key ≡ key) × (waiting.from ≡ place)

-- the job after a rebuild of the index
abbrev pub with_rebuild : Job → Job
with_rebuild job = record job { rebuilt = true }

-- ---- representation in a model

abbrev phase_number : Phase → ℕ
phase_number Copy = 0
phase_number Switch = 1

abbrev numbered_phase : ℕ → Phase
numbered_phase zero = Copy
numbered_phase (suc n) = Switch

pub numbered_phase-phase_number : (phase : Phase) → numbered_phase (phase_number phase) ≡ phase
numbered_phase-phase_number Copy = refl
numbered_phase-phase_number Switch = refl

abbrev phase_code : Coded Phase
phase_code = code_by ℕ coded_ℕ phase_number numbered_phase numbered_phase-phase_number

abbrev move_code : Coded Move
move_code = code_by (EntryKey × (Place × Place)) (coded× key_code (coded× place_code place_code))
    (λ m. (m.key, (m.from, m.to))) (λ p. record { key = p.0; from = p.1.0; to = p.1.1 }) (λ _. refl)

abbrev pub job_code : Coded Job
job_code = code_by (ℕ × (ℕ × (ℕ × (Phase × (List Move × Bool)))))
    (coded× coded_ℕ (coded× coded_ℕ (coded× coded_ℕ (coded× phase_code (coded× (coded_list move_code) coded_bool)))))
    (λ j. (j.source, (j.copy, (j.at, (j.phase, (j.moves, j.rebuilt))))))
    (λ p. record { source = p.0; copy = p.1.0; at = p.1.1.0; phase = p.1.1.1.0; moves = p.1.1.1.1.0; rebuilt = p.1.1.1.1.1 }) (λ _. refl)
