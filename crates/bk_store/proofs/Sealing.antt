-- What the writer of a log and the held logs give a log that is sealed.
use Rattle.std.proofs.Common.{◌≡◌, inl, inr, ℕ, ◌+◌, ◌↔◌, Bool, true, false, IsTrue, Some}
use Rattle.std.proofs.Common.{Result, Ok, Err, refl, sym, ap, subst, ◌∙◌, arith}
use Rattle.std.specs.FinMap as finite
use Rattle.std.proofs.lemmas.Bool.{false_from_ne_true}
use Rattle.bk_record.specs.Files.{Files}
use Rattle.bk_disk.specs.Disk.{FailsExactlyIf}
use Rattle.bk_log.specs.Writing as writers
use Rattle.bk_log.specs.declared.fault.LogFault.{LogFault}
use Rattle.bk_log.specs.declared.fault.LogFault.TheVariants as log_faults
use Rattle.bk_store.specs.Logs.{Log, Logs, is_written, unwritten_log}
use Rattle.bk_store.specs.State.{StoreParts}
use Rattle.bk_store.specs.Invariant.{StoreInvariant}
use Rattle.bk_store.specs.Primitives.{CanSealLog, SealLogTransition, IsWriter, IsSealed, failed_in}
use Rattle.bk_store.specs.declared.log.LogState.{LogState}
use Rattle.bk_store.specs.declared.log.LogState.TheVariants.{Writing, Filled, Copying, Readable, Retired, Closed}
use Rattle.bk_store.proofs.Cases.{some_value}
use Rattle.bk_store.proofs.PublishTransitions.{not_failed, failed_once}

-- a log that is held and written, with its writer
pub record IsWrittenLog (p : StoreParts) (id : ℕ) : Type 0 where
  pub log : Log
  pub w : writers.Writing
  pub writer : IsWriter p.state id log w
  pub going : w.failed ≡ false
  pub writes : IsTrue p.state.honest → writers.Writes p.state.files w

pub written_log : (p : StoreParts) → StoreInvariant p → (id : ℕ) (log : Log) → finite.get p.state.logs id ≡ Some log → is_written log.state ≡ true → IsWrittenLog p id
written_log p keeps id log held is =
    let old = keeps.fits.logs.each id log held in
    let found = some_value log.writer (old.written is) in
    record {
      log = log;
      w = found.0;
      writer = record { held = held; writer = found.1 };
      going = (old.by found.0 found.1).going;
      writes = λ honest. ((keeps.promises honest).logs.each id log held).writes found.0 found.1;
    }

pub sealable : (p : StoreParts) → StoreInvariant p → (id : ℕ) (state : LogState) → CanSealLog p.state id state → IsWrittenLog p id
sealable p keeps id Filled may = written_log p keeps id may.log may.held (ap is_written may.state_is)
sealable p keeps id Readable (inl copy) = written_log p keeps id copy.0.log copy.0.held (ap is_written copy.0.state_is)
sealable p keeps id Readable (inr idle) = written_log p keeps id idle.0.log idle.0.held (ap is_written idle.0.state_is)
sealable p keeps id Writing never = absurd never
sealable p keeps id Copying never = absurd never
sealable p keeps id Retired never = absurd never
sealable p keeps id Closed never = absurd never

-- the count of failures after a call that was with this result
counted : (before now : ℕ) (result : Result (Unit {0}) LogFault) → FailsExactlyIf before now (result ≡ Err log_faults.Disk) → now ≡ before + failed_in result
counted before now (Ok _) cause = let same = not_failed cause (λ wrong. cc) in omega (arith, same)
counted before now (Err log_faults.Disk) cause = failed_once cause refl
counted before now (Err log_faults.Failed) cause = let same = not_failed cause (λ wrong. cc) in omega (arith, same)
counted before now (Err log_faults.Memory) cause = let same = not_failed cause (λ wrong. cc) in omega (arith, same)
counted before now (Err log_faults.Odd) cause = let same = not_failed cause (λ wrong. cc) in omega (arith, same)

sealed_inside : (p : StoreParts) (id : ℕ) (state : LogState) (is : IsWrittenLog p id) (w : writers.Writing) (result : Result (Unit {0}) LogFault)
    (files : Files) (honest : Bool) (failures : ℕ) (logs : Logs) → w ≡ is.w → honest ≡ p.state.honest
    → FailsExactlyIf p.state.failures failures (result ≡ Err log_faults.Disk)
    → logs ≡ finite.insert p.state.logs id (unwritten_log state is.log)
    → ((result ≡ Err log_faults.Failed) ↔ (w.failed ≡ true))
    → (IsTrue p.state.honest → IsSealed p.state w result files)
    → SealLogTransition p.state id state result (record p.state { files = files; honest = honest; failures = failures; logs = logs })
sealed_inside p id state is w result files honest failures logs same same_honest cause closed failed sealed = record {
  log = is.log;
  w = is.w;
  writer = is.writer;
  sealed = subst (λ v. IsTrue p.state.honest → IsSealed p.state v result files) same sealed;
  never = λ wrong. let both : true ≡ false = sym (failed.0 wrong) ∙ ap (λ (v : writers.Writing). v.failed) same ∙ is.going in cc;
  odd = λ told. false_from_ne_true p.state.honest (λ h. subst (λ r. IsSealed p.state w r files → ⊥) (sym told) (λ s. s.sealed) (sealed h));
  left = λ i. record p.state { files = files; honest = same_honest i; failures = counted p.state.failures failures result cause i; logs = closed i };
}

pub seal_turn : (p now : StoreParts) → p ≡ now → (id : ℕ) (state : LogState) (is : IsWrittenLog p id) (w : writers.Writing) (result : Result (Unit {0}) LogFault)
    (files : Files) (honest : Bool) (failures : ℕ) (logs : Logs) → w ≡ is.w → honest ≡ p.state.honest
    → FailsExactlyIf p.state.failures failures (result ≡ Err log_faults.Disk)
    → logs ≡ finite.insert p.state.logs id (unwritten_log state is.log)
    → ((result ≡ Err log_faults.Failed) ↔ (w.failed ≡ true))
    → (IsTrue p.state.honest → IsSealed p.state w result files)
    → SealLogTransition now.state id state result (record p.state { files = files; honest = honest; failures = failures; logs = logs })
seal_turn p now here id state is w result files honest failures logs same same_honest cause closed failed sealed =
    subst (λ (n : StoreParts). SealLogTransition n.state id state result (record p.state { files = files; honest = honest; failures = failures; logs = logs })) here
    (sealed_inside p id state is w result files honest failures logs same same_honest cause closed failed sealed)
