-- A compaction's primitives, and the removal of a log, do not change the logical contents.
use Rattle.std.proofs.Common.{◌≡◌, ℕ, IsTrue, List, take, Some, Result, Ok, Err, sym, subst}
use Rattle.std.specs.FinMap as finite
use Rattle.bk_record.specs.Key.{EntryKey}
use Rattle.bk_record.specs.Location.{Place}
use Rattle.bk_record.specs.Record.{record_of}
use Rattle.bk_record.specs.Files.{Files}
use Rattle.bk_disk.specs.Disk.{files_after_append}
use Rattle.bk_log.specs.declared.fault.LogFault.{LogFault}
use Rattle.bk_log.specs.declared.fault.LogFault.TheVariants as log_faults
use Rattle.bk_store.specs.State.{StoreParts}
use Rattle.bk_store.specs.Contents.{SameContents}
use Rattle.bk_store.specs.Invariant.{StoreInvariant}
use Rattle.bk_store.specs.Primitives.{IsIn, AppendRecordTransition}
use Rattle.bk_store.specs.CompactionPrimitives.{CanAppendCopied, RemoveLogTransition, without_log}
use Rattle.bk_store.specs.declared.log.LogState.TheVariants.{Closed}
use Rattle.bk_store.proofs.InvariantCopy.{named_mapped}
use Rattle.bk_store.proofs.SameContents.{put_means, part_means, same_files, same_map}
use Rattle.bk_store.proofs.InvariantSetState.{one_log}
use Rattle.bk_store.proofs.InvariantRemoveLog.{removed_carries}

-- ---- an entry is put in a target log

module _ (p : StoreParts) (keeps : StoreInvariant p) (id : ℕ) (key : EntryKey) (place : Place) (payload : List ℕ) (may : CanAppendCopied p.state id key place payload)
    (honest : IsTrue p.state.honest) (files : Files) where
  mapped : finite.get (keeps.promises honest).map.carried key ≡ Some payload
  mapped = named_mapped p (keeps.promises honest) id key place payload may honest

  copied_means : files ≡ files_after_append p.state.files id (record_of payload) → SameContents p.state (record p.state { files = files })
  copied_means = put_means p keeps id may.takes.log may.takes.writer.held may.takes.w may.takes.writer.writer key payload may.sized may.keyed honest mapped files

  uncopied_means : (n : ℕ) × (files ≡ files_after_append p.state.files id (take n (record_of payload))) → SameContents p.state (record p.state { files = files })
  uncopied_means = part_means p keeps id may.takes.log may.takes.writer.held may.takes.w may.takes.writer.writer key payload may.sized may.keyed honest mapped files

pub copy_means : (p q : StoreParts) (id : ℕ) (key : EntryKey) (place : Place) (payload : List ℕ) (result : Result Place LogFault) → StoreInvariant p
    → CanAppendCopied p.state id key place payload → AppendRecordTransition p.state id payload result q.state → IsTrue p.state.honest → SameContents p.state q.state
copy_means p q id key place payload (Ok at) keeps may turn honest =
    subst (SameContents p.state) (sym turn.1.4) (copied_means p keeps id key place payload may honest q.state.files (turn.1.3 honest))
copy_means p q id key place payload (Err log_faults.Memory) keeps may turn honest =
    subst (SameContents p.state) (sym turn.1) (same_files p.state q.state.files (turn.0 honest))
copy_means p q id key place payload (Err log_faults.Disk) keeps may turn honest =
    subst (SameContents p.state) (sym turn.3) (uncopied_means p keeps id key place payload may honest q.state.files (turn.2 honest))
copy_means p q id key place payload (Err log_faults.Odd) keeps may turn honest = absurd (let wrong = turn.0 in cc)
copy_means p q id key place payload (Err log_faults.Failed) keeps may never honest = absurd never

-- ---- a log is removed

pub remove_means : (p q : StoreParts) (id : ℕ) (result : Result (Unit {0}) LogFault) → StoreInvariant p → IsIn p.state id Closed → RemoveLogTransition p.state id result q.state
    → IsTrue p.state.honest → SameContents p.state q.state
remove_means p q id (Ok _) keeps known turn honest =
    subst (SameContents p.state) (sym turn.3)
    (same_map p.state (without_log (record p.state { files = q.state.files }) id turn.0) (keeps.promises honest).map.carried (keeps.promises honest).map.carries
    (removed_carries p keeps id turn.0 turn.1 (one_log p id turn.0 Closed turn.1 known) q.state.files q.synced q.gone (turn.2 honest) (keeps.promises honest)))
remove_means p q id (Err log_faults.Disk) keeps known turn honest =
    subst (SameContents p.state) (sym turn.1) (same_files p.state q.state.files (turn.0 honest))
remove_means p q id (Err log_faults.Memory) keeps known turn honest =
    subst (SameContents p.state) (sym turn.1) (same_files p.state q.state.files (turn.0 honest))
remove_means p q id (Err log_faults.Odd) keeps known turn honest = absurd (let wrong = turn.0 in cc)
remove_means p q id (Err log_faults.Failed) keeps known never honest = absurd never
