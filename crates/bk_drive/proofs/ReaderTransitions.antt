-- Steps of a reader refine those of the abstract machine: take, fetch and release.
use Rattle.std.proofs.Common.{◌≡◌, ℕ, List, Option, Some, None, Result, Ok, Err, IsTrue, refl, sym, subst, slice_set, arith}
use Rattle.bk_record.specs.Key.{EntryKey}
use Rattle.bk_log.specs.Places.{HasEntryAt}
use Rattle.bk_log.specs.declared.fault.FetchFault.{FetchFault}
use Rattle.bk_log.specs.declared.fault.FetchFault.TheVariants as fetch_faults
use Rattle.bk_log.proofs.OneRecord.{stands_once}
use Rattle.bk_store.specs.Logs.{View}
use Rattle.bk_store.specs.State.{State}
use Rattle.bk_store.specs.Transitions.{TakeTransition}
use Rattle.bk_store.specs.Leasing.{IsLeaseOf}
use Rattle.bk_store.specs.Abstract.{AbstractState, AbstractTake, SatisfiesInvariant}
use Rattle.bk_store.specs.Abstract as plain
use Rattle.bk_lease.specs.Values.{LeasedView, Ticket, with_given}
use Rattle.bk_store.specs.declared.answer.Taken.{Taken}
use Rattle.bk_store.specs.declared.answer.Taken.TheVariants as taken
use Rattle.bk_store.specs.declared.answer.TakeFault.{TakeFault}
use Rattle.bk_store.specs.declared.answer.TakeFault.TheVariants as take_faults
use Rattle.bk_store.proofs.Refinement.{plain_take}
use Rattle.bk_drive.specs.Abstract.{AbstractLease, AbstractMachine, IsIdleReader, IsBusy, AbstractReaderTake, AbstractReaderFetch, AbstractReaderRelease}
use Rattle.bk_drive.specs.Machine.{MachineState, ReaderLease, reader_lease, ShowsBytes, ReaderTakeTransition, ReaderFetchAnswer, ReaderReleaseTransition}
use Rattle.bk_drive.specs.ReaderLeases.{AreOpenLeases}
use Rattle.bk_drive.specs.Headline.{LeaseRefines, LeasesRefine, MachineRefines}
use Rattle.bk_drive.specs.declared.step.TakeAnswer.{TakeAnswer}
use Rattle.bk_drive.specs.declared.step.TakeAnswer.TheVariants as takes
use Rattle.bk_drive.specs.declared.step.FetchAnswer.{FetchAnswer}
use Rattle.bk_drive.specs.declared.step.FetchAnswer.TheVariants as fetches
use Rattle.bk_drive.specs.declared.step.ReleaseAnswer.{ReleaseAnswer}
use Rattle.bk_drive.specs.declared.step.ReleaseAnswer.TheVariants as releases
use Rattle.bk_drive.proofs.FetchedEntries.{stands_here}
use Rattle.bk_drive.proofs.LeaseRefinement.{length_owed, free_owed, busy_owed, set_owed, owed_at, unset_owed}

-- A take of the store answers as the abstract map does and keeps `StoreRefines`, if each lease
-- shows the view that the store has.
abbrev Takes : State → EntryKey → Result (Taken View) TakeFault → State → Type 0
Takes s key r t = TakeTransition (λ v. v.bytes) (λ v. v.is_honest) (λ v. v.is_sound) s key r t

abbrev Owes : AbstractState → EntryKey → Result (Taken View) TakeFault → Type 0
Owes p key r = AbstractTake (λ v. v.bytes) (λ v. v.is_honest) p key r

seen_take : (s t : State) (p : AbstractState) (key : EntryKey) (r : Result (Taken View) TakeFault) → SatisfiesInvariant s → IsTrue s.honest
    → plain.StoreRefines s p → Takes s key r t
    → Owes p key r × plain.StoreRefines t p
seen_take s t p key r kept honest agrees turn =
    plain_take kept.parts kept.keeps (kept.keeps.promises (subst (λ (x : State). IsTrue x.honest) (sym kept.seen) honest)) p
    (subst (λ (x : State). plain.StoreRefines x p) (sym kept.seen) agrees) (λ v. v.bytes) (λ v. v.is_honest) (λ v. v.is_sound) key r t
    (subst (λ (x : State). Takes x key r t) (sym kept.seen) turn)

-- The lease with this ticket and this view.
abbrev lease_of : Ticket → View → LeasedView View
lease_of ticket view = record { ticket = ticket; view = view }

-- A key has one payload at a place.
one_entry : (h : ReaderLease) (o : AbstractLease) (payload : List ℕ) → ShowsBytes h.view → LeaseRefines h o → HasEntryAt h.view.bytes h.place.at h.key payload → payload ≡ o.payload
one_entry h o payload shows owed found =
    (stands_once h.view.bytes h.place.at).one payload o.payload found.here
    (stands_here h.view.bytes h.place h.key o.payload (shows owed.honest) owed.shown).here

module _ (d : MachineState) (p : AbstractMachine) (agrees : MachineRefines d p) (reader : ℕ) where
  stays : (e : MachineState) → e ≡ d → MachineRefines e p
  stays e is = subst (λ (x : MachineState). MachineRefines x p) (sym is) agrees

  free : IsIdleReader d.readers reader → IsIdleReader p.readers reader
  free is = free_owed d.readers p.readers reader agrees.readers is

  busy : IsBusy d.readers reader → IsBusy p.readers reader
  busy is = busy_owed d.readers p.readers reader agrees.readers is

  module _ (kept : SatisfiesInvariant d.store) (honest : IsTrue d.store.honest) (key : EntryKey) where
    reads : (r : Result (Taken View) TakeFault) (t : State) → Takes d.store key r t → Owes p.store key r × plain.StoreRefines t p.store
    reads r t turn = seen_take d.store t p.store key r kept honest agrees.store turn

    pub owed_take : (r : Result TakeAnswer TakeFault) (e : MachineState) → ReaderTakeTransition d reader key r e → AreOpenLeases e.store.keeper e.readers
        → (q : AbstractMachine) × AbstractReaderTake p reader key r q × MachineRefines e q
    owed_take (Ok takes.NoReader) e turn leases = (p, (omega (arith, turn.0, length_owed d.readers p.readers agrees.readers), refl), stays e turn.1)
    owed_take (Ok takes.ReaderBusy) e turn leases = (p, (busy turn.0, refl), stays e turn.1)
    owed_take (Ok takes.Deleted) e turn leases = (p, (free turn.0, (reads (Ok taken.Deleted) d.store (turn.1, refl)).0, refl), stays e turn.2)
    owed_take (Ok (takes.Cached payload)) e turn leases =
        let is = (reads (Ok (taken.Cached payload)) d.store (turn.0.lives, turn.1, refl)).0 in
        (p, (free turn.0.free, is.0, is.1, refl), stays e turn.2)
    owed_take (Ok takes.NotHeld) e turn leases =
        let is = (reads (Ok taken.NotHeld) d.store (turn.0.lives, turn.1, turn.2, refl)).0 in
        (p, (free turn.0.free, is.0, is.1, refl), stays e turn.3)
    owed_take (Ok (takes.Leased place)) e turn leases =
        let ticket : Ticket = turn.1.0 in
        let view : View = turn.1.1.0 in
        let given : State = record d.store { keeper = with_given d.store.keeper } in
        let lease : IsLeaseOf d.store.keeper d.store.logs place.log ticket view = turn.1.1.1 in
        let done = reads (Ok (taken.Leased (lease_of ticket view) place)) given (turn.0.there, lease, refl) in
        let is = done.0 in
        let owed : AbstractLease = record { log = place.log; payload = is.1.0 } in
        let q : AbstractMachine = record p { readers = slice_set p.readers reader (Some owed) } in
        let holds : LeaseRefines (reader_lease ticket place key view) owed =
        record { log = is.1.2.log; place = refl; honest = is.1.2.honest_is; shown = is.1.2.shown } in (
          q,
          (free turn.0.free, is.0, (is.1.0, is.1.1, refl)),
          record {
            store = subst (λ (x : MachineState). plain.StoreRefines x.store p.store) (sym turn.1.1.2) done.1;
            readers = subst (λ (x : MachineState). LeasesRefine x.readers q.readers) (sym turn.1.1.2) (set_owed d.readers p.readers reader _ owed agrees.readers holds);
            leases = leases;
          },
        )
    owed_take (Err take_faults.NoSeat) e turn leases =
        let is = (reads (Err take_faults.NoSeat) d.store (turn.0, turn.1.there, refl)).0 in
        (p, (free turn.1.free, is.0, is.1, refl), stays e turn.2)
    owed_take (Err take_faults.TooMany) e turn leases =
        let is = (reads (Err take_faults.TooMany) d.store (turn.0, turn.1.there, turn.2, refl)).0 in
        (p, (free turn.1.free, is.0, is.1, refl), stays e turn.3)
    owed_take (Err take_faults.Memory) e turn leases =
        let is = (reads (Err take_faults.Memory) d.store (turn.0.lives, turn.1, refl)).0 in
        (p, (free turn.0.free, is.0, is.1, refl), stays e turn.2)

  pub owed_fetch : (r : Result FetchAnswer FetchFault) → ReaderFetchAnswer d.readers reader r → AbstractReaderFetch p.readers reader r
  owed_fetch (Ok fetches.NoReader) turn = omega (arith, turn, length_owed d.readers p.readers agrees.readers)
  owed_fetch (Ok fetches.NoLease) turn = free turn
  owed_fetch (Ok (fetches.Bytes payload)) (h, is, shows, found) =
      let owed = owed_at d.readers p.readers reader h agrees.readers is in
      (owed.0, owed.1.0, one_entry h owed.0 payload.items shows owed.1.1 (found owed.1.1.honest))
  owed_fetch (Err fetch_faults.Disk) (h, is, shows, fails, unsound) = busy (h, is)
  owed_fetch (Err fetch_faults.Memory) (h, is, shows, fails, unsound) = busy (h, is)
  owed_fetch (Err fetch_faults.NotThere) (h, is, shows, fails, unsound) =
      let owed = owed_at d.readers p.readers reader h agrees.readers is in
      absurd (fails owed.1.1.honest owed.0.payload (stands_here h.view.bytes h.place h.key owed.0.payload (shows owed.1.1.honest) owed.1.1.shown))
  owed_fetch (Err fetch_faults.Odd) (h, is, shows, fails, unsound) =
      absurd (fails (owed_at d.readers p.readers reader h agrees.readers is).1.1.honest)

  pub owed_release : (r : ReleaseAnswer) (readers : List (Option ReaderLease)) → ReaderReleaseTransition d.readers reader r readers
      → (rs : List (Option AbstractLease)) × AbstractReaderRelease p.readers reader r rs × LeasesRefine readers rs
  owed_release releases.NoReader readers turn = (
    p.readers,
    (omega (arith, turn.0, length_owed d.readers p.readers agrees.readers), refl),
    subst (λ (hs : List (Option ReaderLease)). LeasesRefine hs p.readers) (sym turn.1) agrees.readers,
  )
  owed_release releases.NoLease readers turn =
      (p.readers, (free turn.0, refl), subst (λ (hs : List (Option ReaderLease)). LeasesRefine hs p.readers) (sym turn.1) agrees.readers)
  owed_release releases.Released readers turn = (
    slice_set p.readers reader None,
    (busy turn.0, refl),
    subst (λ (hs : List (Option ReaderLease)). LeasesRefine hs (slice_set p.readers reader None)) (sym turn.1) (unset_owed d.readers p.readers reader agrees.readers),
  )
