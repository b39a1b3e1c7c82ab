-- Simulation: each `MachineTransition` from states that refine each other has an
-- `AbstractTransition` with the same answer, and the states after it refine each other again.
use Rattle.std.proofs.Common.{◌≡◌, ℕ, List, length, Option, unwrap_or, IsTrue, Result, Vec, sym, subst, ◌∙◌}
use Rattle.std.specs.declared.alloc.Global.{Global}
use Rattle.std.specs.FinMap as finite
use Rattle.bk_record.specs.Key.{EntryKey}
use Rattle.bk_cache.specs.Caches.{used_of}
use Rattle.bk_log.specs.declared.fault.FetchFault.{FetchFault}
use Rattle.bk_store.specs.State.{State}
use Rattle.bk_store.specs.Transitions.{AddTransition, DeleteTransition, FenceTransition}
use Rattle.bk_store.specs.Abstract.{AbstractState, SatisfiesInvariant}
use Rattle.bk_store.specs.Abstract as plain
use Rattle.bk_store.specs.declared.adding.AddKind.TheVariants.{Ordinary, Recovery}
use Rattle.bk_store.specs.declared.answer.Added.{Added}
use Rattle.bk_store.specs.declared.answer.AddFault.{AddFault}
use Rattle.bk_store.specs.declared.answer.TakeFault.{TakeFault}
use Rattle.bk_store.specs.declared.answer.DeleteFault.{DeleteFault}
use Rattle.bk_store.specs.declared.answer.Fence.{Fence}
use Rattle.bk_store.specs.declared.answer.FenceFault.{FenceFault}
use Rattle.bk_drive.specs.Abstract.{AbstractMachine, abstract_after_work}
use Rattle.bk_drive.specs.Machine.{ReaderLease, WorkTransition, ClosesOrRemoves, HasNoReader, MachineTransition, ReaderTakeTransition, ReaderFetchAnswer, ReaderReleaseTransition, AbstractTransition}
use Rattle.bk_drive.specs.Machine.MachineTransition.{worked}
use Rattle.bk_drive.specs.Machine.AbstractTransition.{worked as plain_worked, added, recovered, deleted, fenced, taken, fetched, released, asked, counted}
use Rattle.bk_drive.specs.ReaderLeases.{AreOpenLeases}
use Rattle.bk_drive.specs.Headline.{LeasesRefine, MachineRefines}
use Rattle.bk_drive.specs.declared.step.Step.{Step}
use Rattle.bk_drive.specs.declared.step.Step.TheVariants as steps
use Rattle.bk_drive.specs.declared.step.Work.{Work}
use Rattle.bk_drive.specs.declared.step.Answer.{Answer}
use Rattle.bk_drive.specs.declared.step.Answer.TheVariants as answers
use Rattle.bk_drive.specs.declared.step.TakeAnswer.{TakeAnswer}
use Rattle.bk_drive.specs.declared.step.FetchAnswer.{FetchAnswer}
use Rattle.bk_drive.specs.declared.step.ReleaseAnswer.{ReleaseAnswer}
use Rattle.bk_drive.specs.LedgerReads.{LedgerReadOf}
use Rattle.bk_drive.specs.Counting.{counts_of, abstract_counts}
use Rattle.bk_drive.specs.declared.counts.Counts.{Counts}
use Rattle.bk_drive.specs.declared.ledger_reads.LedgerRead.{LedgerRead}
use Rattle.bk_drive.specs.declared.ledger_reads.LedgerReadAnswer.{LedgerReadAnswer}
use Rattle.bk_drive.proofs.LedgerReadRefinement.{reads_plain}
use Rattle.bk_drive.proofs.Runs.{added_plain, deleted_plain, fenced_plain}
use Rattle.bk_drive.proofs.ReaderTransitions.{owed_take, owed_fetch, owed_release}

-- One transition of the machine with its simulating transition, for every abstract machine that it
-- refines.
abbrev pub GoesOn : State → List (Option ReaderLease) → Step → Answer → State → List (Option ReaderLease) → Type 0
GoesOn store readers x a store' readers' = (p : AbstractMachine) → MachineRefines (record { store = store; readers = readers }) p
    → (q : AbstractMachine) × AbstractTransition store.settings.cache_limit p x a q × MachineRefines (record { store = store'; readers = readers' }) q

module _ (s t : State) (readers readers' : List (Option ReaderLease)) (work : Work) (a : Answer) (same : readers' ≡ readers) (turn : WorkTransition s work a t) where
  pub turn_worked : ((log : ℕ) → ClosesOrRemoves (steps.Work work) a log → HasNoReader readers log)
      → MachineTransition (record { store = s; readers = readers }) (steps.Work work) a (record { store = t; readers = readers' })
  turn_worked unread = subst (λ (rs : List (Option ReaderLease)). MachineTransition (record { store = s; readers = readers }) (steps.Work work) a
      (record { store = t; readers = rs }))
      (sym same) (worked turn unread)

  pub goes_worked : ((p : AbstractState) → plain.StoreRefines s p → plain.StoreRefines t (abstract_after_work a p)) → AreOpenLeases t.keeper readers'
      → GoesOn s readers (steps.Work work) a t readers'
  goes_worked agreeing leases = λ p agrees. (
    record p { store = abstract_after_work a p.store },
    plain_worked,
    record {
      store = agreeing p.store agrees.store;
      readers = subst (λ (rs : List (Option ReaderLease)). LeasesRefine rs p.readers) (sym same) agrees.readers;
      leases = leases;
    },
  )

module _ (s t : State) (kept : SatisfiesInvariant s) (honest : IsTrue s.honest) (readers : List (Option ReaderLease)) (leases : AreOpenLeases t.keeper readers) where
  pub goes_added : (payload : Vec ℕ Global) (r : Result Added AddFault) → AddTransition s Ordinary payload.items r t
      → GoesOn s readers (steps.Add payload) (answers.Add r) t readers
  goes_added payload r turn = λ p agrees.
      let done = added_plain s t p.store kept honest agrees.store Ordinary payload.items r turn in
      (record p { store = done.0 }, added done.1, record { store = done.2; readers = agrees.readers; leases = leases })

  pub goes_recovered : (payload : Vec ℕ Global) (r : Result Added AddFault) → AddTransition s Recovery payload.items r t
      → GoesOn s readers (steps.AddRecovery payload) (answers.Add r) t readers
  goes_recovered payload r turn = λ p agrees.
      let done = added_plain s t p.store kept honest agrees.store Recovery payload.items r turn in
      (record p { store = done.0 }, recovered done.1, record { store = done.2; readers = agrees.readers; leases = leases })

  pub goes_deleted : (ledger : ℕ) (r : Result ℕ DeleteFault) → DeleteTransition s ledger r t
      → GoesOn s readers (steps.Delete ledger) (answers.Delete r) t readers
  goes_deleted ledger r turn = λ p agrees.
      let done = deleted_plain s t p.store kept honest agrees.store ledger r turn in
      (record p { store = done.0 }, deleted done.1, record { store = done.2; readers = agrees.readers; leases = leases })

  pub goes_fenced : (ledger : ℕ) (r : Result Fence FenceFault) → FenceTransition s ledger r t
      → GoesOn s readers (steps.Fence ledger) (answers.Fence r) t readers
  goes_fenced ledger r turn = λ p agrees.
      let done = fenced_plain s t p.store kept honest agrees.store ledger r turn in
      (record p { store = done.0 }, fenced done.1, record { store = done.2; readers = agrees.readers; leases = leases })

pub goes_taken : (s t : State) (readers readers' : List (Option ReaderLease)) (reader : ℕ) (key : EntryKey) (r : Result TakeAnswer TakeFault)
    → SatisfiesInvariant s → IsTrue s.honest
    → ReaderTakeTransition (record { store = s; readers = readers }) reader key r (record { store = t; readers = readers' }) → AreOpenLeases t.keeper readers'
    → GoesOn s readers (steps.Take reader key) (answers.Take r) t readers'
goes_taken s t readers readers' reader key r kept honest turn leases = λ p agrees.
    let done = owed_take _ p agrees reader kept honest key r _ turn leases in
    (done.0, taken done.1, done.2)

pub goes_fetched : (s : State) (readers : List (Option ReaderLease)) (reader : ℕ) (r : Result FetchAnswer FetchFault) → ReaderFetchAnswer readers reader r
    → GoesOn s readers (steps.Fetch reader) (answers.Fetch r) s readers
goes_fetched s readers reader r turn = λ p agrees. (p, fetched (owed_fetch _ p agrees reader r turn), agrees)

pub goes_released : (s : State) (readers readers' : List (Option ReaderLease)) (reader : ℕ) (r : ReleaseAnswer) → ReaderReleaseTransition readers reader r readers'
    → AreOpenLeases s.keeper readers' → GoesOn s readers (steps.Release reader) (answers.Release r) s readers'
goes_released s readers readers' reader r turn leases = λ p agrees.
    let done = owed_release _ p agrees reader r readers' turn in
    (record p { readers = done.0 }, released done.1, record { store = agrees.store; readers = done.2; leases = leases })

pub goes_asked : (s : State) (readers : List (Option ReaderLease)) (kept : SatisfiesInvariant s) (honest : IsTrue s.honest) (read : LedgerRead)
    (r : LedgerReadAnswer) → LedgerReadOf s read r → GoesOn s readers (steps.Read read) (answers.Read r) s readers
goes_asked s readers kept honest read r turn = λ p agrees. (p, asked (reads_plain s p.store kept honest agrees.store read r turn), agrees)

pub goes_counted : (s : State) (readers : List (Option ReaderLease)) (counts : Counts) → counts ≡ counts_of s
    → GoesOn s readers steps.Stats (answers.Stats counts) s readers
goes_counted s readers counts turn = λ p agrees. (p, counted (turn ∙ same_counts s p.store agrees.store), agrees)
  where
    same_counts : (s : State) (p : AbstractState) → plain.StoreRefines s p → counts_of s ≡ abstract_counts p
    same_counts s p agrees = λ i. record {
      cached = used_of (agrees.active i);
      flushing = used_of (unwrap_or (agrees.flush i) finite.empty);
      front = length (agrees.ledgers i).trail;
      durable = (agrees.fronts i).durable;
    }
