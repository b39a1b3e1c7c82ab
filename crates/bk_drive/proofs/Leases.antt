-- Every step keeps the slots of the readers' leases open in the store's table (`AreOpenLeases`).
use Rattle.std.proofs.Common.{◌≡◌, ◌≢◌, ◌⊎◌, inl, inr, ℕ, ◌<◌, zero, suc, List, [], ◌∷◌, replicate, Option, Some}
use Rattle.std.proofs.Common.{None, Result, Ok, Err, refl, sym, ap, subst, ◌∙◌, slice_set}
use Rattle.std.specs.FinMap as finite
use Rattle.std.specs.FinMap.{nat_cmp-IsAntisymmetric}
use Rattle.std.proofs.lemmas.Cmp.{nat_cmp_total}
use Rattle.bk_record.specs.Key.{EntryKey}
use Rattle.bk_record.proofs.Maps.{get-remove_here}
use Rattle.bk_store.proofs.Cases.{same_or_apart}
use Rattle.bk_lease.specs.declared.slot.Slot.{Slot}
use Rattle.bk_lease.specs.declared.slot.Slot.TheVariants.{Free, Open, Closed}
use Rattle.bk_lease.specs.Leases.{state_at, IsClosed, log_of}
use Rattle.bk_lease.specs.Values.{SlotTable, Ticket, with_given, with_state}
use Rattle.bk_lease.proofs.Slots.{inside_slots, state_at-set_here, state_at-set_else}
use Rattle.bk_store.specs.Logs.{View, Log, Logs}
use Rattle.bk_store.specs.State.{State}
use Rattle.bk_store.specs.SlotAssignment.{AreSeated, slot_state}
use Rattle.bk_store.specs.Leasing.{IsLeaseOf}
use Rattle.bk_store.specs.Primitives.{IsIn}
use Rattle.bk_store.specs.Abstract.{SatisfiesInvariant}
use Rattle.bk_store.specs.declared.log.LogState.TheVariants as states
use Rattle.bk_store.specs.declared.answer.TakeFault.{TakeFault}
use Rattle.bk_store.specs.declared.answer.TakeFault.TheVariants as take_faults
use Rattle.bk_store.proofs.Seats.{slot_state-opened}
use Rattle.bk_collect.specs.Collecting.{CloseTransition, RemoveTransition}
use Rattle.bk_collect.specs.declared.answer.CloseAnswer.TheVariants as closes
use Rattle.bk_collect.specs.declared.answer.RemoveAnswer.TheVariants as removes
use Rattle.bk_drive.specs.Abstract.{HasAt}
use Rattle.bk_drive.specs.Machine.{MachineState, ReaderLease, reader_lease, ReaderTakeTransition, ReaderReleaseTransition, HasNoReader}
use Rattle.bk_drive.specs.declared.step.TakeAnswer.{TakeAnswer}
use Rattle.bk_drive.specs.declared.step.TakeAnswer.TheVariants as takes
use Rattle.bk_drive.specs.declared.step.ReleaseAnswer.{ReleaseAnswer}
use Rattle.bk_drive.specs.declared.step.ReleaseAnswer.TheVariants as releases
use Rattle.bk_drive.specs.Headline.{reader_count}
use Rattle.bk_drive.specs.ReaderLeases.{IsOpenLease, AreOpenLeases, IsClosedInTable, IsClosedOrRemoved}
use Rattle.bk_drive.proofs.Slots.{seat_of}
use Rattle.bk_store.specs.Frame.{IsRemovedLog, SlotsUnchanged}
use Rattle.bk_store.proofs.RemovedLogs.{GoneStays, gone_same}
use Rattle.bk_store.proofs.FrameLemmas.{slots_same}

-- The logs of a store have their slots in its table.
pub seats_kept : (s : State) → SatisfiesInvariant s → AreSeated s.keeper s.logs
seats_kept s kept = subst (λ (x : State). AreSeated x.keeper x.logs) kept.seen kept.keeps.fits.logs.seated.seats

-- ---- taken slots stay unchanged

open-free : (id : ℕ) → Open id ≢ Free
open-free id same = cc

closed-free : (id : ℕ) → Closed id ≢ Free
closed-free id same = cc

open-closed : (id other : ℕ) → Open id ≡ Closed other → ⊥
open-closed id other same = cc

module _ (old new : SlotTable) (stays : SlotsUnchanged old new) where
  pub leases_stay : (readers : List (Option ReaderLease)) → AreOpenLeases old readers → AreOpenLeases new readers
  leases_stay readers leases = λ reader hold has.
      let was = leases reader hold has in
      record {
        table = was.table ∙ sym stays.table;
        held = was.held;
        opened = stays.stay hold.ticket.slot (λ free. open-free hold.ticket.log (sym was.opened ∙ free)) ∙ was.opened;
      }

  pub closed_stays : (log : ℕ) → IsClosedInTable old log → IsClosedInTable new log
  closed_stays log (slot, is) = (slot, stays.stay slot (λ free. closed-free log (sym is ∙ free)) ∙ is)

module _ (old new : SlotTable) (same : new ≡ old) where
  pub leases_same : (readers : List (Option ReaderLease)) → AreOpenLeases old readers → AreOpenLeases new readers
  leases_same = leases_stay old new (slots_same old new same)

-- A log that is closed or removed stays so.
shut_stays : (s t : State) → SlotsUnchanged s.keeper t.keeper → GoneStays s t → (log : ℕ) → IsClosedOrRemoved s log → IsClosedOrRemoved t log
shut_stays s t slots gone log shut = elim shut [
  | inl closed ↦ inl (closed_stays s.keeper t.keeper slots log closed)
  | inr left ↦ inr (gone log left)
]

-- The logs, their table and the next id are unchanged.
pub record SameLogs (s t : State) : Type 0 where
  pub keeper : t.keeper ≡ s.keeper
  pub logs : t.logs ≡ s.logs
  pub next : t.next ≡ s.next

pub logs_same : (s t : State) → t ≡ s → SameLogs s t
logs_same s t same = record {
  keeper = ap (λ (x : State). x.keeper) same;
  logs = ap (λ (x : State). x.logs) same;
  next = ap (λ (x : State). x.next) same;
}

pub shut_same : {s t : State} → SameLogs s t → (log : ℕ) → IsClosedOrRemoved s log → IsClosedOrRemoved t log
shut_same {s = s} {t = t} same = shut_stays s t (slots_same s.keeper t.keeper same.keeper) (gone_same s t same.logs same.next)

-- ---- leases of the readers

pub none_at : (n reader : ℕ) (hold : ReaderLease) → HasAt (replicate n None) reader hold → ⊥
none_at zero reader hold has = cc
none_at (suc n) zero hold has = cc
none_at (suc n) (suc reader) hold has = none_at n reader hold has

set_at : (hs : List (Option ReaderLease)) (i : ℕ) (o : Option ReaderLease) (reader : ℕ) (hold : ReaderLease) → HasAt (slice_set hs i o) reader hold
    → (o ≡ Some hold) ⊎ HasAt hs reader hold
set_at [] i o reader hold has = inr has
set_at (h ∷ hs) zero o zero hold has = inl cc
set_at (h ∷ hs) zero o (suc reader) hold has = inr has
set_at (h ∷ hs) (suc i) o zero hold has = inr has
set_at (h ∷ hs) (suc i) o (suc reader) hold has = set_at hs i o reader hold has

pub leases_first : (keeper : SlotTable) (n : ℕ) → AreOpenLeases keeper (replicate n None)
leases_first keeper n = λ reader hold has. absurd (none_at n reader hold has)

pub leases_at : (keeper : SlotTable) (readers : List (Option ReaderLease)) → readers ≡ replicate reader_count None → AreOpenLeases keeper readers
leases_at keeper readers free = subst (AreOpenLeases keeper) (sym free) (leases_first keeper reader_count)

-- One lease less.
pub leases_less : (keeper : SlotTable) (hs : List (Option ReaderLease)) (i : ℕ) → AreOpenLeases keeper hs → AreOpenLeases keeper (slice_set hs i None)
leases_less keeper hs i leases = λ reader hold has. elim (set_at hs i None reader hold has) [
  | inl never ↦ absurd (let e = never in cc)
  | inr there ↦ leases reader hold there
]

-- One lease more.
pub leases_more : (keeper : SlotTable) (hs : List (Option ReaderLease)) (i : ℕ) (hold : ReaderLease) → AreOpenLeases keeper hs → IsOpenLease keeper hold
    → AreOpenLeases keeper (slice_set hs i (Some hold))
leases_more keeper hs i more leases is = λ reader hold has. elim (set_at hs i (Some more) reader hold has) [
  | inl here ↦ let same : more ≡ hold = cc in subst (IsOpenLease keeper) same is
  | inr there ↦ leases reader hold there
]

-- ---- a take

pub lease_open : (keeper : SlotTable) (logs : Logs) (hold : ReaderLease) (id : ℕ) → AreSeated keeper logs → IsLeaseOf keeper logs id hold.ticket hold.view
    → IsOpenLease (with_given keeper) hold
lease_open keeper logs hold id seats lease =
    let ticket = lease.ticket_is in
    record {
      table = ap (λ (t : Ticket). t.table) ticket;
      held = ap (λ (t : Ticket). t.is_held) ticket;
      opened = ap (λ (t : Ticket). state_at keeper.slots t.slot) ticket ∙ seats.stands id lease.log lease.held
          ∙ slot_state-opened id lease.log.state lease.opened ∙ ap (λ (t : Ticket). Open t.log) (sym ticket);
    }

-- ---- a log is closed

-- Two logs with one id are one log.
one_log : (logs : Logs) (id : ℕ) (a b : Log) → finite.get logs id ≡ Some a → finite.get logs id ≡ Some b → a ≡ b
one_log logs id a b first second = cc

module _ (s t : State) (id : ℕ) (seats : AreSeated s.keeper s.logs) (turn : CloseTransition s id closes.Closed t) where
  -- A slot that is open for the log is the log's slot.
  mine : (slot : ℕ) (log : Log) → state_at s.keeper.slots slot ≡ Open id → finite.get s.logs id ≡ Some log
      → (log.slot ≡ slot) × (slot_state id log.state ≡ Open id)
  mine slot log is held =
      let seat = seat_of s.keeper s.logs seats slot id (Open id) is refl refl in
      let same = one_log s.logs id seat.log log seat.held held in
      (ap (λ (l : Log). l.slot) (sym same) ∙ seat.slot_is, ap (λ (l : Log). slot_state id l.state) (sym same) ∙ sym seat.stands ∙ is)

  retired_open : (log : Log) → finite.get s.logs id ≡ Some log → IsIn s id states.Retired → state_at s.keeper.slots log.slot ≡ Open id
  retired_open log held retired =
      seats.stands id log held ∙ ap (slot_state id) (ap (λ (l : Log). l.state) (one_log s.logs id log retired.log held retired.held) ∙ retired.state_is)

  now_closed : (log : Log) → state_at s.keeper.slots log.slot ≡ Open id → t.keeper ≡ with_state s.keeper log.slot (Closed id)
      → state_at t.keeper.slots log.slot ≡ Closed id
  now_closed log is after =
      ap (λ (k : SlotTable). state_at k.slots log.slot) after
      ∙ state_at-set_here s.keeper.slots log.slot (Closed id) (inside_slots s.keeper.slots log.slot (Open id) is (open-free id))

  other_as : (log : Log) (slot : ℕ) → slot ≢ log.slot → t.keeper ≡ with_state s.keeper log.slot (Closed id)
      → state_at t.keeper.slots slot ≡ state_at s.keeper.slots slot
  other_as log slot apart after = ap (λ (k : SlotTable). state_at k.slots slot) after ∙ state_at-set_else s.keeper.slots log.slot slot (Closed id) apart

  pub closing_table : t.keeper.table ≡ s.keeper.table
  closing_table = elim turn [
    | inl was ↦ ap (λ (x : State). x.keeper.table) was.1
    | inr now ↦ ap (λ (x : State). x.keeper.table) now.1.1.2
  ]

  -- The slot of a lease on the log is closed now.
  pub closing_meets : (slot : ℕ) → state_at s.keeper.slots slot ≡ Open id → IsClosed t.keeper.slots slot
  closing_meets slot is = elim turn [
    | inl was ↦ absurd (open-closed id id (sym (mine slot was.0.log is was.0.held).1 ∙ ap (slot_state id) was.0.state_is))
    | inr now ↦
        let log : Log = now.1.1.0 in
        let here = mine slot log is now.1.1.1 in
        let closed = now_closed log (retired_open log now.1.1.1 now.0) (ap (λ (x : State). x.keeper) now.1.1.2) in
        let there : state_at t.keeper.slots slot ≡ Closed id = ap (state_at t.keeper.slots) (sym here.0) ∙ closed in
        there ∙ ap (λ (x : Slot). Closed (log_of x)) (sym there)
  ]

  -- Leases on other logs stay open.
  pub closing_leaves : (readers : List (Option ReaderLease)) → AreOpenLeases s.keeper readers → HasNoReader readers id → AreOpenLeases t.keeper readers
  closing_leaves readers leases unread = elim turn [
    | inl was ↦ subst (λ (x : State). AreOpenLeases x.keeper readers) (sym was.1) leases
    | inr now ↦ λ reader hold has.
        let log : Log = now.1.1.0 in
        let lease = leases reader hold has in
        let apart : hold.ticket.slot ≢ log.slot = λ same.
        let e : Open hold.ticket.log ≡ Open id = sym lease.opened ∙ ap (state_at s.keeper.slots) same ∙ retired_open log now.1.1.1 now.0 in
        unread reader hold has (ap log_of e) in
        record {
          table = lease.table ∙ sym closing_table;
          held = lease.held;
          opened = other_as log hold.ticket.slot apart (ap (λ (x : State). x.keeper) now.1.1.2) ∙ lease.opened;
        }
  ]

  pub closing_closes : IsClosedInTable t.keeper id
  closing_closes = elim turn [
    | inl was ↦ (
      was.0.log.slot,
      ap (λ (x : State). state_at x.keeper.slots was.0.log.slot) was.1 ∙ seats.stands id was.0.log was.0.held
          ∙ ap (slot_state id) was.0.state_is,
    )
    | inr now ↦ let log : Log = now.1.1.0 in (log.slot, now_closed log (retired_open log now.1.1.1 now.0) (ap (λ (x : State). x.keeper) now.1.1.2))
  ]

  pub closing_stays : (other : ℕ) → IsClosedInTable s.keeper other → IsClosedInTable t.keeper other
  closing_stays other (slot, is) = elim turn [
    | inl was ↦ (slot, ap (λ (x : State). state_at x.keeper.slots slot) was.1 ∙ is)
    | inr now ↦
        let log : Log = now.1.1.0 in
        let apart : slot ≢ log.slot = λ same.
        open-closed id other (sym (retired_open log now.1.1.1 now.0) ∙ ap (state_at s.keeper.slots) (sym same) ∙ is) in
        (slot, other_as log slot apart (ap (λ (x : State). x.keeper) now.1.1.2) ∙ is)
  ]

-- No reader holds a lease on a closed log.
pub closed_unread : (s : State) (readers : List (Option ReaderLease)) (log : ℕ) → SatisfiesInvariant s → AreOpenLeases s.keeper readers
    → IsClosedInTable s.keeper log → HasNoReader readers log
closed_unread s readers log kept leases (slot, is) = λ reader hold has same.
    let seats = seats_kept s kept in
    let lease = leases reader hold has in
    let opened : state_at s.keeper.slots hold.ticket.slot ≡ Open log = lease.opened ∙ ap Open same in
    let a = seat_of s.keeper s.logs seats hold.ticket.slot log (Open log) opened refl refl in
    let b = seat_of s.keeper s.logs seats slot log (Closed log) is refl refl in
    let one = one_log s.logs log a.log b.log a.held b.held in
    open-closed log log (sym opened ∙ a.stands ∙ ap (λ (l : Log). slot_state log l.state) one ∙ sym b.stands ∙ is)

-- No reader holds a lease on a closed or removed log.
pub shut_unread : (s : State) (readers : List (Option ReaderLease)) (log : ℕ) → SatisfiesInvariant s → AreOpenLeases s.keeper readers → IsClosedOrRemoved s log → HasNoReader readers log
shut_unread s readers log kept leases shut = elim shut [
  | inl closed ↦ closed_unread s readers log kept leases closed
  | inr gone ↦ λ reader hold has same.
      let opened : state_at s.keeper.slots hold.ticket.slot ≡ Open log = (leases reader hold has).opened ∙ ap Open same in
      let seat = seat_of s.keeper s.logs (seats_kept s kept) hold.ticket.slot log (Open log) opened refl refl in
      (let e : Some seat.log ≡ None = sym seat.held ∙ gone.0 in cc)
]

-- ---- a log is removed

module _ (s t : State) (id : ℕ) (kept : SatisfiesInvariant s) (turn : RemoveTransition s id (Ok removes.Removed) t) where
  -- Its slot was closed.
  removed_closed : state_at s.keeper.slots turn.1.0.slot ≡ Closed id
  removed_closed =
      let log : Log = turn.1.0 in
      let one = one_log s.logs id log turn.0.log turn.1.1 turn.0.held in
      (seats_kept s kept).stands id log turn.1.1 ∙ ap (λ (l : Log). slot_state id l.state) one ∙ ap (slot_state id) turn.0.state_is

  removed_else : (slot : ℕ) → slot ≢ turn.1.0.slot → state_at t.keeper.slots slot ≡ state_at s.keeper.slots slot
  removed_else slot apart =
      ap (λ (x : State). state_at x.keeper.slots slot) turn.1.3 ∙ state_at-set_else s.keeper.slots turn.1.0.slot slot Free apart

  -- No reader has a lease on it, and every lease stays open.
  pub removed_leases : (readers : List (Option ReaderLease)) → AreOpenLeases s.keeper readers → AreOpenLeases t.keeper readers
  removed_leases readers leases = λ reader hold has.
      let lease = leases reader hold has in
      let apart : hold.ticket.slot ≢ turn.1.0.slot = λ same.
      open-closed hold.ticket.log id (sym lease.opened ∙ ap (state_at s.keeper.slots) same ∙ removed_closed) in
      record {
        table = lease.table ∙ sym (ap (λ (x : State). x.keeper.table) turn.1.3);
        held = lease.held;
        opened = removed_else hold.ticket.slot apart ∙ lease.opened;
      }

  pub removed_unread : (readers : List (Option ReaderLease)) → AreOpenLeases s.keeper readers → HasNoReader readers id
  removed_unread readers leases = closed_unread s readers id kept leases (turn.1.0.slot, removed_closed)

  -- It is removed.
  pub removed_gone : IsRemovedLog t id
  removed_gone =
      let is = kept.seen in
      let held : finite.get kept.parts.state.logs id ≡ Some turn.1.0 = ap (λ (x : State). finite.get x.logs id) is ∙ turn.1.1 in
      let below = (kept.keeps.fits.logs.each id turn.1.0 held).below in (
        ap (λ (x : State). finite.get x.logs id) turn.1.3 ∙ get-remove_here nat_cmp_total nat_cmp-IsAntisymmetric s.logs id,
        subst (λ n. id < n) (ap (λ (x : State). x.next) is ∙ sym (ap (λ (x : State). x.next) turn.1.3)) below,
      )

  -- Another closed log stays closed.
  pub removed_shut : (other : ℕ) → IsClosedInTable s.keeper other → IsClosedOrRemoved t other
  removed_shut other (slot, is) = elim (same_or_apart slot turn.1.0.slot) [
    | inl same ↦
        let one : id ≡ other = ap log_of (sym removed_closed ∙ ap (state_at s.keeper.slots) (sym same) ∙ is) in
        inr (subst (IsRemovedLog t) one removed_gone)
    | inr apart ↦ inl (slot, removed_else slot apart ∙ is)
  ]

-- ---- a step of a reader

same_leases : (d e : MachineState) → e ≡ d → AreOpenLeases d.store.keeper d.readers → AreOpenLeases e.store.keeper e.readers
same_leases d e same leases = subst (λ (x : MachineState). AreOpenLeases x.store.keeper x.readers) (sym same) leases

pub take_leases : (d e : MachineState) (reader : ℕ) (key : EntryKey) (r : Result TakeAnswer TakeFault) → SatisfiesInvariant d.store → ReaderTakeTransition d reader key r e
    → AreOpenLeases d.store.keeper d.readers → AreOpenLeases e.store.keeper e.readers
take_leases d e reader key (Ok takes.NoReader) kept turn leases = same_leases d e turn.1 leases
take_leases d e reader key (Ok takes.ReaderBusy) kept turn leases = same_leases d e turn.1 leases
take_leases d e reader key (Ok takes.Deleted) kept turn leases = same_leases d e turn.2 leases
take_leases d e reader key (Ok (takes.Cached payload)) kept turn leases = same_leases d e turn.2 leases
take_leases d e reader key (Ok takes.NotHeld) kept turn leases = same_leases d e turn.3 leases
take_leases d e reader key (Ok (takes.Leased place)) kept turn leases =
    let ticket : Ticket = turn.1.0 in
    let view : View = turn.1.1.0 in
    let given : SlotTable = with_given d.store.keeper in
    let hold : ReaderLease = reader_lease ticket place key view in
    let stays : SlotsUnchanged d.store.keeper given = record { table = refl; stay = λ slot _. refl } in
    subst (λ (x : MachineState). AreOpenLeases x.store.keeper x.readers) (sym turn.1.1.2)
    (leases_more given d.readers reader hold (leases_stay d.store.keeper given stays d.readers leases)
    (lease_open d.store.keeper d.store.logs hold place.log (seats_kept d.store kept) turn.1.1.1))
take_leases d e reader key (Err take_faults.NoSeat) kept turn leases = same_leases d e turn.2 leases
take_leases d e reader key (Err take_faults.TooMany) kept turn leases = same_leases d e turn.3 leases
take_leases d e reader key (Err take_faults.Memory) kept turn leases = same_leases d e turn.2 leases

-- A log that is closed or removed stays so in a take.
pub take_shut : (d e : MachineState) (reader : ℕ) (key : EntryKey) (r : Result TakeAnswer TakeFault) → ReaderTakeTransition d reader key r e
    → (log : ℕ) → IsClosedOrRemoved d.store log → IsClosedOrRemoved e.store log
take_shut d e reader key (Ok takes.NoReader) turn log is = subst (λ (x : MachineState). IsClosedOrRemoved x.store log) (sym turn.1) is
take_shut d e reader key (Ok takes.ReaderBusy) turn log is = subst (λ (x : MachineState). IsClosedOrRemoved x.store log) (sym turn.1) is
take_shut d e reader key (Ok takes.Deleted) turn log is = subst (λ (x : MachineState). IsClosedOrRemoved x.store log) (sym turn.2) is
take_shut d e reader key (Ok (takes.Cached payload)) turn log is = subst (λ (x : MachineState). IsClosedOrRemoved x.store log) (sym turn.2) is
take_shut d e reader key (Ok takes.NotHeld) turn log is = subst (λ (x : MachineState). IsClosedOrRemoved x.store log) (sym turn.3) is
take_shut d e reader key (Ok (takes.Leased place)) turn log is =
    let given : State = record d.store { keeper = with_given d.store.keeper } in
    let now : IsClosedOrRemoved given log = elim is [ inl closed ↦ inl (closed.0, closed.1) | inr gone ↦ inr (gone.0, gone.1) ] in
    subst (λ (x : MachineState). IsClosedOrRemoved x.store log) (sym turn.1.1.2) now
take_shut d e reader key (Err take_faults.NoSeat) turn log is = subst (λ (x : MachineState). IsClosedOrRemoved x.store log) (sym turn.2) is
take_shut d e reader key (Err take_faults.TooMany) turn log is = subst (λ (x : MachineState). IsClosedOrRemoved x.store log) (sym turn.3) is
take_shut d e reader key (Err take_faults.Memory) turn log is = subst (λ (x : MachineState). IsClosedOrRemoved x.store log) (sym turn.2) is

pub release_leases : (keeper : SlotTable) (readers readers' : List (Option ReaderLease)) (reader : ℕ) (r : ReleaseAnswer) → ReaderReleaseTransition readers reader r readers'
    → AreOpenLeases keeper readers → AreOpenLeases keeper readers'
release_leases keeper readers readers' reader releases.NoReader turn leases = subst (AreOpenLeases keeper) (sym turn.1) leases
release_leases keeper readers readers' reader releases.NoLease turn leases = subst (AreOpenLeases keeper) (sym turn.1) leases
release_leases keeper readers readers' reader releases.Released turn leases =
    subst (AreOpenLeases keeper) (sym turn.1) (leases_less keeper readers reader leases)
