-- How often the device fails in a step of a flush: the clause `cause` follows from the transition.
use Rattle.std.proofs.Common.{◌≡◌, inl, inr, ℕ, ◌+◌, List, Option, Some, None, Result, Ok, Err, refl, sym, ap, ◌∙◌, arith}
use Rattle.bk_record.specs.Key.{EntryKey}
use Rattle.bk_disk.proofs.Causes.{none_failed}
use Rattle.bk_log.specs.declared.fault.LogFault.{LogFault}
use Rattle.bk_log.specs.declared.fault.LogFault.TheVariants as log_faults
use Rattle.bk_store.specs.State.{State}
use Rattle.bk_store.specs.Primitives.{CreateLogTransition, AppendFlushedTransition, failed_in}
use Rattle.bk_store.specs.declared.answer.MakeFault.{MakeFault}
use Rattle.bk_store.specs.declared.answer.MakeFault.TheVariants as makes
use Rattle.bk_store.specs.declared.log.LogState.TheVariants.{Writing}
use Rattle.bk_store.specs.Faults.{ReportsDeviceFault, step_fault_of, step_fault_of_make}
use Rattle.bk_flush.specs.Flushing.{SealFilledTransition, IsRefused, RestartsOnDeviceFault, NoNewLog, ReadyLogTransition, WriteOneTransition, FailsShowing}
use Rattle.bk_flush.specs.Publishing.{ShowsLogs}
use Rattle.bk_flush.specs.declared.answer.WriteAnswer.{WriteAnswer}
use Rattle.bk_flush.specs.declared.answer.WriteAnswer.TheVariants as writes
use Rattle.bk_store.specs.declared.step_fault.StepFault.{StepFault}
use Rattle.bk_store.specs.declared.step_fault.StepFault.TheVariants as step_faults

-- how often the device fails in a call that ends with this fault
abbrev pub failed_of : StepFault → ℕ
failed_of step_faults.Disk = 1
failed_of (step_faults.Memory done) = 0
failed_of step_faults.LogsFull = 0
failed_of step_faults.NoMoreIds = 0
failed_of step_faults.Odd = 0

pub caused_ok : {T : Type 0} (s t : State) (x : T) → t.failures ≡ s.failures → ReportsDeviceFault s (Ok x) t
caused_ok s t x same = none_failed s.failures t.failures same (λ wrong. cc)

pub caused_err : {T : Type 0} (s t : State) (fault : StepFault) → t.failures ≡ s.failures + failed_of fault → ReportsDeviceFault {T = T} s (Err fault) t
caused_err s t step_faults.Disk more =
    record { later = omega (arith, more); once = omega (arith, more); failed = λ _. omega (arith, more); told = λ _. refl }
caused_err s t (step_faults.Memory done) more = none_failed s.failures t.failures (omega (arith, more)) (λ wrong. cc)
caused_err s t step_faults.LogsFull more = none_failed s.failures t.failures (omega (arith, more)) (λ wrong. cc)
caused_err s t step_faults.NoMoreIds more = none_failed s.failures t.failures (omega (arith, more)) (λ wrong. cc)
caused_err s t step_faults.Odd more = none_failed s.failures t.failures (omega (arith, more)) (λ wrong. cc)

same_failures : (s t : State) → t ≡ s → t.failures ≡ s.failures
same_failures s t same = ap (λ (x : State). x.failures) same

told_failed : (cause : LogFault) → failed_in {T = Unit {0}} (Err cause) ≡ failed_of (step_fault_of cause)
told_failed log_faults.Memory = refl
told_failed log_faults.Disk = refl
told_failed log_faults.Failed = refl
told_failed log_faults.Odd = refl

-- ---- the log that is made ready

filled_failures : (s mid : State) (filled : Option ℕ) (result : Result (Unit {0}) LogFault) → SealFilledTransition s filled result mid
    → mid.failures ≡ s.failures + failed_in result
filled_failures s mid None (Ok _) same = let is = same_failures s mid same in omega (arith, is)
filled_failures s mid None (Err fault) never = absurd never
filled_failures s mid (Some id) result seals = ap (λ (x : State). x.failures) seals.left

made_failures : (s t : State) (cause : MakeFault) → CreateLogTransition s Writing (Err cause) t → t.failures ≡ s.failures + failed_of (step_fault_of_make cause)
made_failures s t makes.LogsFull turn = let is = same_failures s t turn.1 in omega (arith, is)
made_failures s t makes.NoMoreIds turn = let is = same_failures s t turn.2 in omega (arith, is)
made_failures s t makes.Memory turn = elim turn.1 [
  | inl same ↦ let is = same_failures s t same in omega (arith, is)
  | inr unmade ↦ let is : t.failures ≡ s.failures = ap (λ (x : State). x.failures) unmade.left in omega (arith, is)
]
made_failures s t makes.Disk turn = ap (λ (x : State). x.failures) turn.1.left
made_failures s t makes.Odd turn = let is : t.failures ≡ s.failures = ap (λ (x : State). x.failures) turn.2.left in omega (arith, is)

left_failures : (fault : StepFault) (s t : State) → RestartsOnDeviceFault fault s t → t.failures ≡ s.failures
left_failures step_faults.Disk s t restarts = ap (λ (x : State). x.failures) restarts.left
left_failures (step_faults.Memory done) s t same = same_failures s t same
left_failures step_faults.LogsFull s t same = same_failures s t same
left_failures step_faults.NoMoreIds s t same = same_failures s t same
left_failures step_faults.Odd s t restarts = ap (λ (x : State). x.failures) restarts.left

pub ready_failures : (s mid : State) (payload : List ℕ) (id : ℕ) → ReadyLogTransition s payload (Ok id) mid → mid.failures ≡ s.failures
ready_failures s mid payload id (inl found) = same_failures s mid found.1
ready_failures s mid payload id (inr new) =
    let filled = filled_failures s new.mid new.filled (Ok tt) new.sealed in
    let made : mid.failures ≡ new.mid.failures = ap (λ (x : State). x.failures) new.made.2.left in
    omega (arith, filled, made)

refused_failures : (s after : State) (filled : Option ℕ) (fault : StepFault) → IsRefused s filled fault after → after.failures ≡ s.failures + failed_of fault
refused_failures s after filled fault (inl unsealed) =
    filled_failures s after filled (Err unsealed.0) unsealed.2 ∙ ap (λ n. s.failures + n) (told_failed unsealed.0 ∙ ap failed_of (sym unsealed.1))
refused_failures s after filled fault (inr unmade) =
    let sealed = filled_failures s unmade.0 filled (Ok tt) unmade.1 in
    let made = made_failures unmade.0 after unmade.2.0 unmade.2.2 in
    let same : failed_of fault ≡ failed_of (step_fault_of_make unmade.2.0) = ap failed_of unmade.2.1 in
    omega (arith, sealed, made, same)

not_ready_failures : (s t : State) (payload : List ℕ) (fault : StepFault) → NoNewLog s payload fault t → t.failures ≡ s.failures + failed_of fault
not_ready_failures s t payload fault is = left_failures fault is.mid t is.left ∙ refused_failures s is.mid is.filled fault is.refused

unready_failures : (s t : State) (payload : List ℕ) (fault : StepFault) → ReadyLogTransition s payload (Err fault) t → t.failures ≡ s.failures + failed_of fault
unready_failures s t payload step_faults.LogsFull turn = let is = same_failures s t turn.3 in omega (arith, is)
unready_failures s t payload step_faults.NoMoreIds turn = let is = same_failures s t turn.4 in omega (arith, is)
unready_failures s t payload step_faults.Disk turn = not_ready_failures s t payload step_faults.Disk turn
unready_failures s t payload (step_faults.Memory done) turn = not_ready_failures s t payload (step_faults.Memory done) turn
unready_failures s t payload step_faults.Odd turn = not_ready_failures s t payload step_faults.Odd turn

-- ---- the entry that is appended

unput_failures : (s t : State) (id : ℕ) (key : EntryKey) (payload : List ℕ) (cause : LogFault) → AppendFlushedTransition s id key payload (Err cause) t
    → t.failures ≡ s.failures + failed_of (step_fault_of cause)
unput_failures s t id key payload log_faults.Memory turn = let is : t.failures ≡ s.failures = ap (λ (x : State). x.failures) turn.1 in omega (arith, is)
unput_failures s t id key payload log_faults.Disk turn = ap (λ (x : State). x.failures) turn.3
unput_failures s t id key payload log_faults.Failed never = absurd never
unput_failures s t id key payload log_faults.Odd turn = let is : t.failures ≡ s.failures = ap (λ (x : State). x.failures) turn.1.2 in omega (arith, is)

-- ---- a log that could not be published

stopped_failures : (s t : State) (failed : ℕ) → FailsShowing s failed t → t.failures ≡ s.failures + failed
stopped_failures s t failed is = elim is.stays [
  | inl same ↦ same_failures is.mid t same ∙ is.stops.failures
  | inr lost ↦ ap (λ (x : State). x.failures) lost.1.left ∙ is.stops.failures
]

pub unshown_caused : {T : Type 0} (s t : State) (fault : StepFault) → ShowsLogs s (Err fault) t → ReportsDeviceFault {T = T} s (Err fault) t
unshown_caused s t step_faults.Disk turn = caused_err s t step_faults.Disk (stopped_failures s t 1 turn)
unshown_caused s t (step_faults.Memory done) turn = caused_err s t (step_faults.Memory done) turn.1.failures
unshown_caused s t step_faults.Odd turn = caused_err s t step_faults.Odd (stopped_failures s t 0 turn.1)
unshown_caused s t step_faults.LogsFull turn = absurd turn
unshown_caused s t step_faults.NoMoreIds turn = absurd turn

-- a step returns `Disk` exactly if the device failed in it
pub step_caused : (s t : State) (result : Result WriteAnswer StepFault) → WriteOneTransition s result t → ReportsDeviceFault s result t
step_caused s t (Ok writes.NoFlush) turn = caused_ok s t writes.NoFlush (same_failures s t turn.1)
step_caused s t (Ok writes.AllWritten) turn = caused_ok s t writes.AllWritten (same_failures s t turn.2)
step_caused s t (Ok (writes.Wrote place)) turn =
    let puts = turn.1.2 in
    caused_ok s t (writes.Wrote place)
    (ap (λ (x : State). x.failures) puts.put.1.4 ∙ ready_failures s puts.mid turn.1.0 puts.log puts.ready)
step_caused s t (Err fault) turn = caused_err s t fault (elim turn.1.2 [
  | inl unready ↦ unready_failures s t turn.1.0 fault unready
  | inr unput ↦
      let left = left_failures fault unput.refused t unput.left in
      let put = unput_failures unput.mid unput.refused unput.log turn.0 turn.1.0 unput.cause unput.put in
      let ready = ready_failures s unput.mid turn.1.0 unput.log unput.ready in
      let same : failed_of fault ≡ failed_of (step_fault_of unput.cause) = ap failed_of unput.told_so in
      omega (arith, left, put, ready, same)
])
