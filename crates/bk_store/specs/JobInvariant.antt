-- The invariant of a compaction job.
use Rattle.std.specs.Prelude.{◌≡◌, ◌⊎◌, ℕ, ◌<◌, ◌≤◌, Bool, false, IsTrue, List, [], Some}
use Rattle.std.specs.FinMap as finite
use Rattle.bk_record.specs.Key.{EntryKey}
use Rattle.bk_record.specs.Location.{Place}
use Rattle.bk_record.specs.Files.{Files, file_of, header_length, In}
use Rattle.bk_record.specs.Keyed.{Places}
use Rattle.bk_disk.specs.Disk.{view_end}
use Rattle.bk_log.specs.Ranges.{IsPassed, entries_in, part}
use Rattle.bk_log.specs.Writing as writers
use Rattle.bk_store.specs.Entries.{Bytes, HasEntry}
use Rattle.bk_store.specs.Jobs.{Job, Waits}
use Rattle.bk_store.specs.Logs.{Logs, HasOpenView, IsHeldIn, open_parts}
use Rattle.bk_store.specs.State.{State}
use Rattle.bk_store.specs.Primitives.{writer_of}
use Rattle.bk_store.specs.declared.job.Phase.{Phase}
use Rattle.bk_store.specs.declared.job.Phase.TheVariants.{Copy, Switch}
use Rattle.bk_store.specs.declared.job.Move.{Move}
use Rattle.bk_store.specs.declared.log.LogState.{LogState}
use Rattle.bk_store.specs.declared.log.LogState.TheVariants.{Copying, Readable}

-- up to the position a log has whole records after its header
pub record IsReadTo (bytes : List ℕ) (at : ℕ) : Type 0 where
  pub given : ℕ
  pub foreign : ℕ
  pub within : at ≤ view_end bytes
  pub passed : IsPassed header_length (part bytes header_length (view_end bytes)) at (part bytes at (view_end bytes)) given foreign

-- the entries of a log from a position on
abbrev pub entries_from : List ℕ → ℕ → List (ℕ × List ℕ)
entries_from bytes at = entries_in at (part bytes at (view_end bytes))

-- the state of the target log: it is written until it is sealed
abbrev pub copy_state : Phase → LogState
copy_state Copy = Copying
copy_state Switch = Readable

-- where the copies are: in the files and, once published, in the published parts
abbrev pub copied_in : Files → Logs → Phase → Bytes
copied_in files held Copy = file_of files
copied_in files held Switch = open_parts held

-- a relocation leads from the source log to the target log
pub record IsMoveOf (job : Job) (copied : Move) : Type 0 where
  pub from_source : copied.from.log ≡ job.source
  pub to_copy : copied.to.log ≡ job.copy

-- On an honest disk: the job is between two records of the published part of the source log. The
-- copy of each relocation is in the target log. Unless the index was rebuilt, it points in the
-- source log only to entries that are not examined yet and to those with pending relocations. In
-- the switch phase every entry was examined.
pub record IsCopied (files : Files) (index : Places) (held : Logs) (job : Job) : Type 0 where
  pub read : IsReadTo (open_parts held job.source) job.at
  pub copied : (m : Move) → In m job.moves → (payload : List ℕ) × HasEntry (copied_in files held job.phase) m.to m.key payload
  pub examined : job.rebuilt ≡ false → (key : EntryKey) (place : Place) → finite.get index key ≡ Some place → place.log ≡ job.source
      → (job.at < place.at) ⊎ Waits job.moves key place
  pub ended : job.phase ≡ Switch → entries_from (open_parts held job.source) job.at ≡ []

-- Facts about a job, over just what it needs: the source log is Readable and has a view; the target
-- log is newer, is written until it is sealed, and then has a view; the target log is no longer
-- than what was examined of the source log; and the relocations lead from one to the other.
pub record JobFacts (is_honest : Bool) (files : Files) (index : Places) (held : Logs) (job : Job) : Type 0 where
  pub source : IsHeldIn held job.source Readable
  pub shown : HasOpenView held job.source
  pub copy : IsHeldIn held job.copy (copy_state job.phase)
  pub copy_shown : job.phase ≡ Switch → HasOpenView held job.copy
  pub later : job.source < job.copy
  pub begun : header_length ≤ job.at
  pub room : (w : writers.Writing) → writer_of held job.copy ≡ Some w → w.end ≤ job.at
  pub moves : (m : Move) → In m job.moves → IsMoveOf job m
  pub honest : IsTrue is_honest → IsCopied files index held job

abbrev pub JobInvariant : State → Job → Type 0
JobInvariant s job = JobFacts s.honest s.files s.index s.logs job
