-- The filled log is sealed, and the next one is created.
use Rattle.std.proofs.Common.{◌≡◌, ◌⊎◌, inl, inr, ℕ, Bool, true, List, Option, Some}
use Rattle.std.proofs.Common.{None, Ok, Err, refl, sym, ap, subst, ◌∙◌, arith}
use Rattle.std.specs.FinMap as finite
use Rattle.bk_log.specs.declared.fault.LogFault.{LogFault}
use Rattle.bk_log.specs.declared.fault.LogFault.TheVariants as log_faults
use Rattle.bk_log.specs.Writing.{new_writing}
use Rattle.bk_store.specs.Logs.{Log, unwritten_log, made_log}
use Rattle.bk_store.specs.State.{State}
use Rattle.bk_store.specs.Primitives.{HasNoWriting, IsIn, IsWritingLog, WritesInto, NeedsLog, CreateLogTransition, CanCreateLog, CanCreateLogAnswer, SealLogTransition}
use Rattle.bk_store.specs.declared.answer.MakeFault.{MakeFault}
use Rattle.bk_store.specs.declared.answer.MakeFault.TheVariants as makes
use Rattle.bk_store.specs.declared.log.LogState.TheVariants.{Writing, Filled}
use Rattle.bk_store.proofs.LogMaps.{log-inserted, log-insert_cases}
use Rattle.bk_store.proofs.OneLog.{same_len}
use Rattle.bk_store.specs.Faults.{step_fault_of, step_fault_of_make}
use Rattle.bk_flush.specs.Flushing.{SealFilledTransition, RestartsOnDeviceFault, NewLog, NoNewLog, IsNewLog, ReadyLogTransition}
use Rattle.bk_store.specs.declared.step_fault.StepFault.{StepFault}
use Rattle.bk_store.specs.declared.step_fault.StepFault.TheVariants as step_faults

written_log : {s : State} {id : ℕ} {payload : List ℕ} {filled : Bool} → WritesInto s id payload filled → IsIn s id Writing
written_log into = record { log = into.log; held = into.writer.held; state_is = into.state_is }

-- the log to seal is the Writing log, if there is one
pub needs_this : (s : State) (payload : List ℕ) (filled writing : Option ℕ) → NeedsLog s payload filled → IsWritingLog s writing → NeedsLog s payload writing
needs_this s payload None None needs is = needs
needs_this s payload None (Some id) needs is = absurd (needs id is.0)
needs_this s payload (Some id) None needs is = absurd (is id (written_log needs))
needs_this s payload (Some id) (Some other) needs is = subst (λ n. WritesInto s n payload true) (is.1 id (written_log needs)) needs

-- no log is Writing after it was sealed
none_sealed : (s mid : State) (id : ℕ) → ((other : ℕ) → IsIn s other Writing → other ≡ id) → SealLogTransition s id Filled (Ok tt) mid → HasNoWriting mid
none_sealed s mid id only seals other is =
    let at : finite.get (finite.insert s.logs id (unwritten_log Filled seals.log)) other ≡ Some is.log =
    ap (λ (x : State). finite.get x.logs other) (sym seals.left) ∙ is.held in
    elim (log-insert_cases s.logs id (unwritten_log Filled seals.log) other is.log at) [
      | inl here ↦ let wrong : Filled ≡ Writing = ap (λ (l : Log). l.state) here.1 ∙ is.state_is in cc
      | inr else ↦ else.0 (only other (record { log = is.log; held = else.1; state_is = is.state_is }))
    ]

pub none_writing : (s mid : State) (filled : Option ℕ) → IsWritingLog s filled → SealFilledTransition s filled (Ok tt) mid → HasNoWriting mid
none_writing s mid None writing same = subst HasNoWriting (sym same) writing
none_writing s mid (Some id) writing seals = none_sealed s mid id writing.1 seals

-- a log can be created as before
pub still_may : (s mid : State) (filled : Option ℕ) → SealFilledTransition s filled (Ok tt) mid → CanCreateLog s → CanCreateLog mid
still_may s mid None same may = subst CanCreateLog (sym same) may
still_may s mid (Some id) seals may =
    let logs : finite.len mid.logs ≡ finite.len s.logs =
    ap (λ (x : State). finite.len x.logs) seals.left ∙ same_len s.logs id seals.log (unwritten_log Filled seals.log) seals.writer.held in
    let slots : mid.settings.slots ≡ s.settings.slots = ap (λ (x : State). x.settings.slots) seals.left in
    let next : mid.next ≡ s.next = ap (λ (x : State). x.next) seals.left in
    let room = may.room in
    let id = may.id in
    record { room = omega (arith, logs, slots, room); id = omega (arith, next, id) }

-- no log can be created
pub not_creatable : (s t : State) (payload : List ℕ) (filled : Option ℕ) → NeedsLog s payload filled → (fault : MakeFault)
    → CanCreateLogAnswer s (Err fault) → (cause : StepFault) → cause ≡ step_fault_of_make fault → RestartsOnDeviceFault cause s t
    → ReadyLogTransition s payload (Err cause) t
not_creatable s t payload filled needs fault answer cause is_told left =
    subst (λ c. ReadyLogTransition s payload (Err c) t) (sym is_told) (by_cause fault answer (subst (λ c. RestartsOnDeviceFault c s t) is_told left))
  where
    by_cause : (fault : MakeFault) → CanCreateLogAnswer s (Err fault) → RestartsOnDeviceFault (step_fault_of_make fault) s t
        → ReadyLogTransition s payload (Err (step_fault_of_make fault)) t
    by_cause makes.LogsFull full left = (filled, needs, full, left)
    by_cause makes.NoMoreIds past left = (filled, needs, past.0, past.1, left)
    by_cause makes.Memory never left = absurd never
    by_cause makes.Disk never left = absurd never
    by_cause makes.Odd never left = absurd never

-- a log that was just created is the one Writing log, and has no record
pub made_new : (mid t : State) (id : ℕ) → HasNoWriting mid → CreateLogTransition mid Writing (Ok id) t → IsNewLog t id
made_new mid t id none made =
    let log = made_log Writing mid.next made.2.slot in
    let logs : t.logs ≡ finite.insert mid.logs mid.next log = ap (λ (x : State). x.logs) made.2.left in
    record {
      log = log;
      w = new_writing mid.next;
      writer = record { held = ap (λ m. finite.get m id) logs ∙ log-inserted mid.logs mid.next log id made.1; writer = refl };
      state_is = refl;
      empty = refl;
      only = λ other is.
          elim (log-insert_cases mid.logs mid.next log other is.log (ap (λ m. finite.get m other) (sym logs) ∙ is.held)) [
            | inl here ↦ here.0 ∙ sym made.1
            | inr else ↦ absurd (none other (record { log = is.log; held = else.1; state_is = is.state_is }))
          ];
    }

module _ (s mid : State) (filled : Option ℕ) (may : CanCreateLog s) (payload : List ℕ) (needs : NeedsLog s payload filled) where
  -- the next log is ready
  pub ready_made : SealFilledTransition s filled (Ok tt) mid → (id : ℕ) (t : State) → CreateLogTransition mid Writing (Ok id) t → NewLog s payload id t
  ready_made sealed id t made =
      record { filled = filled; needs = needs; may = may; mid = mid; sealed = sealed; made = made }

  refused : (cause : StepFault) (after t : State)
      → ((fault : LogFault) × (cause ≡ step_fault_of fault) × SealFilledTransition s filled (Err fault) after)
      ⊎ ((mid : State) × SealFilledTransition s filled (Ok tt) mid × ((fault : MakeFault) × (cause ≡ step_fault_of_make fault) × CreateLogTransition mid Writing (Err fault) after))
      → RestartsOnDeviceFault cause after t → NoNewLog s payload cause t
  refused cause after t is_so left =
      record { filled = filled; needs = needs; may = may; mid = after; refused = is_so; left = left }

  -- it is not, because the filled log was not sealed
  pub not_sealed : (fault : LogFault) (cause : StepFault) (t : State) → SealFilledTransition s filled (Err fault) mid → cause ≡ step_fault_of fault → RestartsOnDeviceFault cause mid t
      → ReadyLogTransition s payload (Err cause) t
  not_sealed fault cause t sealed is_told left =
      subst (λ c. ReadyLogTransition s payload (Err c) t) (sym is_told) (by_cause fault sealed (subst (λ c. RestartsOnDeviceFault c mid t) is_told left))
    where
      by_cause : (fault : LogFault) → SealFilledTransition s filled (Err fault) mid → RestartsOnDeviceFault (step_fault_of fault) mid t
          → ReadyLogTransition s payload (Err (step_fault_of fault)) t
      by_cause log_faults.Memory sealed left = refused (step_faults.Memory 0) mid t (inl (log_faults.Memory, refl, sealed)) left
      by_cause log_faults.Disk sealed left = refused step_faults.Disk mid t (inl (log_faults.Disk, refl, sealed)) left
      by_cause log_faults.Failed sealed left = refused step_faults.Odd mid t (inl (log_faults.Failed, refl, sealed)) left
      by_cause log_faults.Odd sealed left = refused step_faults.Odd mid t (inl (log_faults.Odd, refl, sealed)) left

  -- it is not, because the next log was not created
  pub not_made : SealFilledTransition s filled (Ok tt) mid → (fault : MakeFault) (cause : StepFault) (after t : State) → CreateLogTransition mid Writing (Err fault) after
      → cause ≡ step_fault_of_make fault → RestartsOnDeviceFault cause after t → ReadyLogTransition s payload (Err cause) t
  not_made sealed fault cause after t made is_told left =
      subst (λ c. ReadyLogTransition s payload (Err c) t) (sym is_told) (by_cause fault made (subst (λ c. RestartsOnDeviceFault c after t) is_told left))
    where
      still : CanCreateLog mid
      still = still_may s mid filled sealed may

      by_cause : (fault : MakeFault) → CreateLogTransition mid Writing (Err fault) after → RestartsOnDeviceFault (step_fault_of_make fault) after t
          → ReadyLogTransition s payload (Err (step_fault_of_make fault)) t
      by_cause makes.LogsFull made left = let room = still.room in let full = made.0 in absurd (omega (arith, room, full))
      by_cause makes.NoMoreIds made left = let id = still.id in let past = made.1 in absurd (omega (arith, id, past))
      by_cause makes.Memory made left = refused (step_faults.Memory 0) after t (inr (mid, sealed, (makes.Memory, refl, made))) left
      by_cause makes.Disk made left = refused step_faults.Disk after t (inr (mid, sealed, (makes.Disk, refl, made))) left
      by_cause makes.Odd made left = refused step_faults.Odd after t (inr (mid, sealed, (makes.Odd, refl, made))) left
