-- How a step of the store alone (`Work`) changes the leases of the readers. Every step but a close
-- and a removal leaves taken slots unchanged. By `meet_reader`, no reader holds a lease on a closed
-- log. A removed log was closed before.
use Rattle.std.proofs.Common.{◌≡◌, ◌⊎◌, inl, inr, ℕ, List, Option, Result, Ok, refl, sym, ap, subst, ◌∙◌}
use Rattle.bk_lease.specs.Leases.{IsClosed}
use Rattle.bk_lease.specs.declared.slot.Slot.TheVariants.{Open}
use Rattle.bk_store.specs.State.{State}
use Rattle.bk_store.specs.Abstract.{SatisfiesInvariant}
use Rattle.bk_collect.specs.Collecting.{CloseTransition, RemoveTransition}
use Rattle.bk_collect.specs.declared.answer.CloseAnswer.{CloseAnswer}
use Rattle.bk_collect.specs.declared.answer.CloseAnswer.TheVariants as closes
use Rattle.bk_collect.specs.declared.answer.RemoveAnswer.{RemoveAnswer}
use Rattle.bk_collect.specs.declared.answer.RemoveAnswer.TheVariants as removes
use Rattle.bk_collect.specs.declared.answer.CollectFault.{CollectFault}
use Rattle.bk_drive.specs.Abstract.{HasAt}
use Rattle.bk_drive.specs.Machine.{ReaderLease, WorkTransition, Closes, RemovesLog, ClosesOrRemoves, HasNoReader}
use Rattle.bk_drive.specs.ReaderLeases.{AreOpenLeases, IsClosedOrRemoved}
use Rattle.bk_drive.specs.Frame.{SlotsFrame}
use Rattle.bk_store.specs.Frame.{CoreUnchanged, SlotsUnchanged}
use Rattle.bk_drive.specs.declared.step.Step.TheVariants as steps
use Rattle.bk_drive.specs.declared.step.Work.{Work}
use Rattle.bk_drive.specs.declared.step.Work.TheVariants as works
use Rattle.bk_drive.specs.declared.step.Answer.{Answer}
use Rattle.bk_drive.specs.declared.step.Answer.TheVariants as answers
use Rattle.bk_drive.proofs.Leases.{leases_stay, closed_stays, seats_kept, closing_table, closing_meets, closing_leaves}
use Rattle.bk_drive.proofs.Leases.{closing_closes, closing_stays, removed_leases, removed_unread, removed_gone, removed_shut}

-- The transition removed a log.
pub record IsRemoval (s t : State) : Type 0 where
  pub log : ℕ
  pub turn : RemoveTransition s log (Ok removes.Removed) t

removal_or_not : (s t : State) (log : ℕ) (r : Result RemoveAnswer CollectFault) → RemoveTransition s log r t → SlotsFrame s (answers.Remove r) t
    → IsRemoval s t ⊎ SlotsUnchanged s.keeper t.keeper
removal_or_not s t log (Ok removes.Removed) turn slots = inl (record { log = log; turn = turn })
removal_or_not s t log r turn slots = inr (slots (λ same. cc))

-- A step of the store alone that closed no log either removed one or left all taken slots
-- unchanged.
work_slots : (s t : State) (work : Work) (a : Answer) → WorkTransition s work a t → SlotsFrame s a t → ((log : ℕ) → ¬ (Closes (steps.Work work) a log))
    → IsRemoval s t ⊎ SlotsUnchanged s.keeper t.keeper
work_slots s t (works.Close log) a turn slots other =
    inr (subst (λ (x : Answer). SlotsFrame s x t) turn.1 slots (λ is. other log (refl, turn.1 ∙ ap answers.Close is)))
work_slots s t (works.Remove log) a turn slots other =
    removal_or_not s t log turn.0 turn.2 (subst (λ (x : Answer). SlotsFrame s x t) turn.1 slots)
work_slots s t work a turn slots other = inr (subst (λ (x : Answer). SlotsFrame s x t) turn.1 slots)

-- A step whose answer is Removed was a removal.
removal_of : (s t : State) (work : Work) (a : Answer) (log : ℕ) → WorkTransition s work a t → RemovesLog (steps.Work work) a log
    → RemoveTransition s log (Ok removes.Removed) t
removal_of s t work a log turn is =
    let asked = is.0 in
    let same : work ≡ works.Remove log = cc in
    let removal : WorkTransition s (works.Remove log) a t = subst (λ (w : Work). WorkTransition s w a t) same turn in
    let told = is.1 in
    let answered = removal.1 in
    let so : removal.0 ≡ Ok removes.Removed = cc in
    subst (λ (r : Result RemoveAnswer CollectFault). RemoveTransition s log r t) so removal.2

-- A step whose answer is Closed was a close.
close_of : (s t : State) (work : Work) (a : Answer) (log : ℕ) → WorkTransition s work a t → Closes (steps.Work work) a log → CloseTransition s log closes.Closed t
close_of s t work a log turn is =
    let asked = is.0 in
    let same : work ≡ works.Close log = cc in
    let close : WorkTransition s (works.Close log) a t = subst (λ (w : Work). WorkTransition s w a t) same turn in
    let told = is.1 in
    let answered = close.1 in
    let so : close.0 ≡ closes.Closed = cc in
    subst (λ (r : CloseAnswer). CloseTransition s log r t) so close.2

-- ---- a step that closed no log

module _ (s t : State) (work : Work) (a : Answer) (kept : SatisfiesInvariant s) (turn : WorkTransition s work a t) (stays : CoreUnchanged s t) (left : SlotsFrame s a t)
    (other : (log : ℕ) → ¬ (Closes (steps.Work work) a log)) (readers : List (Option ReaderLease)) (leases : AreOpenLeases s.keeper readers) where
  pub open_leases : AreOpenLeases t.keeper readers
  open_leases = elim (work_slots s t work a turn left other) [
    | inl removal ↦ removed_leases s t removal.log kept removal.turn readers leases
    | inr slots ↦ leases_stay s.keeper t.keeper slots readers leases
  ]

  pub open_shut : (log : ℕ) → IsClosedOrRemoved s log → IsClosedOrRemoved t log
  open_shut log shut = elim shut [
    | inl stands ↦ elim (work_slots s t work a turn left other) [
      | inl removal ↦ removed_shut s t removal.log kept removal.turn log stands
      | inr slots ↦ inl (closed_stays s.keeper t.keeper slots log stands)
    ]
    | inr gone ↦ inr (stays.gone log gone)
  ]

  pub open_unread : (log : ℕ) → ClosesOrRemoves (steps.Work work) a log → HasNoReader readers log
  open_unread log is = elim is [
    | inl closes ↦ absurd (other log closes)
    | inr removes ↦ removed_unread s t log kept (removal_of s t work a log turn removes) readers leases
  ]

  pub open_lets_go : (log : ℕ) → ClosesOrRemoves (steps.Work work) a log → IsClosedOrRemoved t log
  open_lets_go log is = elim is [
    | inl closes ↦ absurd (other log closes)
    | inr removes ↦ inr (removed_gone s t log kept (removal_of s t work a log turn removes))
  ]

-- ---- a step that closed a log

-- A close concerns one log and removes none.
one_closed : (work : Work) (a : Answer) (log other : ℕ) → Closes (steps.Work work) a log → ClosesOrRemoves (steps.Work work) a other → log ≡ other
one_closed work a log other is too = elim too [
  | inl closes ↦ let first = is.0 in let second = closes.0 in (let e : steps.Work (works.Close log) ≡ steps.Work (works.Close other) = sym first ∙ second in cc)
  | inr removes ↦ let first = is.1 in let second = removes.1 in absurd (let e = sym first ∙ second in cc)
]

module _ (s t : State) (work : Work) (a : Answer) (log : ℕ) (kept : SatisfiesInvariant s) (turn : WorkTransition s work a t) (stays : CoreUnchanged s t)
    (is : Closes (steps.Work work) a log) (readers : List (Option ReaderLease)) (leases : AreOpenLeases s.keeper readers) where
  closing : CloseTransition s log closes.Closed t
  closing = close_of s t work a log turn is

  pub met_table : (reader : ℕ) (hold : ReaderLease) → HasAt readers reader hold → hold.ticket.table ≡ t.keeper.table
  met_table reader hold has = (leases reader hold has).table ∙ sym (closing_table s t log (seats_kept s kept) closing)

  pub met_closed : (reader : ℕ) (hold : ReaderLease) → HasAt readers reader hold → hold.ticket.log ≡ log → IsClosed t.keeper.slots hold.ticket.slot
  met_closed reader hold has same =
      closing_meets s t log (seats_kept s kept) closing hold.ticket.slot ((leases reader hold has).opened ∙ ap Open same)

  pub left_leases : HasNoReader readers log → AreOpenLeases t.keeper readers
  left_leases unread = closing_leaves s t log (seats_kept s kept) closing readers leases unread

  pub left_shut : (other : ℕ) → IsClosedOrRemoved s other → IsClosedOrRemoved t other
  left_shut other shut = elim shut [
    | inl stands ↦ inl (closing_stays s t log (seats_kept s kept) closing other stands)
    | inr gone ↦ inr (stays.gone other gone)
  ]

  pub left_lets_go : (other : ℕ) → ClosesOrRemoves (steps.Work work) a other → IsClosedOrRemoved t other
  left_lets_go other too =
      subst (λ (n : ℕ). IsClosedOrRemoved t n) (one_closed work a log other is too) (inl (closing_closes s t log (seats_kept s kept) closing))

  pub left_unread : HasNoReader readers log → (other : ℕ) → ClosesOrRemoves (steps.Work work) a other → HasNoReader readers other
  left_unread unread other too = subst (λ (n : ℕ). HasNoReader readers n) (one_closed work a log other is too) unread
