-- What the writer of a target log gives an entry that is put there.
use Rattle.std.proofs.Common.{◌≡◌, ℕ, Bool, IsTrue, List, Result, Ok, Err, sym, ap, subst, ◌∙◌}
use Rattle.std.specs.FinMap as finite
use Rattle.bk_record.specs.Key.{EntryKey}
use Rattle.bk_record.specs.Location.{Place}
use Rattle.bk_record.specs.Record.{record_of}
use Rattle.bk_record.specs.Files.{Files}
use Rattle.bk_disk.specs.Disk.{FailsExactlyIf, files_after_append}
use Rattle.bk_log.specs.Writing as writers
use Rattle.bk_log.specs.declared.fault.LogFault.{LogFault}
use Rattle.bk_log.specs.declared.fault.LogFault.TheVariants as log_faults
use Rattle.bk_store.specs.Logs.{Logs}
use Rattle.bk_store.specs.State.{State, StoreParts}
use Rattle.bk_store.specs.Invariant.{StoreInvariant}
use Rattle.bk_store.specs.Appending.{put_log, grown_log, next_place, IsPutAt}
use Rattle.bk_store.specs.Primitives.{AppendRecordTransition}
use Rattle.bk_store.specs.CompactionPrimitives.{CanAppendCopied}
use Rattle.bk_store.specs.declared.log.LogState.TheVariants.{Copying}
use Rattle.bk_store.proofs.PublishTransitions.{not_failed}
use Rattle.bk_store.proofs.Written.{IsRoomy, roomy, failed_inside}

-- what is known of a target log that an entry may be put in
pub copy_roomy : (p now : StoreParts) → p ≡ now → StoreInvariant now → (id : ℕ) (key : EntryKey) (payload : List ℕ) → (place : Place) × CanAppendCopied now.state id key place payload
    → IsRoomy p id payload
copy_roomy p now here keeps id key payload may =
    subst (λ (n : StoreParts). IsRoomy n id payload) (sym here) (roomy now keeps id Copying payload may.1.takes)

module _ (p now : StoreParts) (here : p ≡ now) (id : ℕ) (key : EntryKey) (payload : List ℕ) (is : IsRoomy p id payload) (files : Files)
    (honest : Bool) (failures : ℕ)
    (logs : Logs) (same_honest : honest ≡ p.state.honest) where
  abbrev later : State
  later = record p.state { files = files; honest = honest; failures = failures; logs = logs }

  pub copied_turn : (place : Place) → logs ≡ finite.insert p.state.logs id (grown_log is.log is.w payload) → place ≡ next_place is.w
      → FailsExactlyIf p.state.failures failures (Ok place ≡ Err log_faults.Disk)
      → (IsTrue p.state.honest → files ≡ files_after_append p.state.files is.w.log (record_of payload))
      → AppendRecordTransition now.state id payload (Ok place) later
  copied_turn place put at cause grew =
      subst (λ (n : StoreParts). AppendRecordTransition n.state id payload (Ok place) later) here (
        is.log,
        (
          is.w,
          record { held = is.held; writer = is.writer },
          at,
          (λ h. grew h ∙ ap (λ n. files_after_append p.state.files n (record_of payload)) is.own),
          (λ i. record p.state { files = files; honest = same_honest i; failures = not_failed cause (λ wrong. cc) i; logs = put i }),
        ),
      )

  pub uncopied_turn : (fault : LogFault) → logs ≡ finite.insert p.state.logs id (put_log is.log is.w payload (Err fault)) → IsPutAt is.w (Err fault)
      → FailsExactlyIf p.state.failures failures (◌≡◌ {A = Result Place LogFault} (Err fault) (Err log_faults.Disk))
      → (IsTrue p.state.honest → writers.WriterPutTransition p.state.files is.w payload (Err fault) files)
      → AppendRecordTransition now.state id payload (Err fault) later
  uncopied_turn fault put at cause turn =
      subst (λ (n : StoreParts). AppendRecordTransition n.state id payload (Err fault) later) here
      (failed_inside p now here id key payload is files honest failures logs same_honest fault put at cause turn)
