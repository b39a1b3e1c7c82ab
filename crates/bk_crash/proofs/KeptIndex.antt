-- No step of the store alone takes a key out of the index.
use Rattle.std.proofs.Common.{◌≡◌, inl, inr, ℕ, List, [], ◌∷◌, Bool, true, false, Option, Some, None, IsSome, is_some, IsTrue, Result, Ok, Err, refl, sym, ap, subst}
use Rattle.std.specs.Option.{option_or}
use Rattle.std.specs.FinMap as finite
use Rattle.std.specs.FinMap.{find}
use Rattle.bk_record.specs.Key.{EntryKey, key_cmp}
use Rattle.bk_record.specs.Keyed.{Places}
use Rattle.bk_record.specs.Location.{Place}
use Rattle.bk_log.specs.declared.found.Found.{Found}
use Rattle.bk_log.specs.declared.fault.LogFault.{LogFault}
use Rattle.bk_log.specs.declared.fault.LogFault.TheVariants as log_faults
use Rattle.bk_cache.specs.declared.swap.Swap.{Swap}
use Rattle.bk_cache.specs.declared.swap.Swap.TheVariants.{Running, Nothing, Swapped}
use Rattle.bk_store.specs.State.{State}
use Rattle.bk_store.specs.Jobs.{Job}
use Rattle.bk_store.specs.Abstract.{SatisfiesInvariant}
use Rattle.bk_store.specs.Transitions.{SwapTransition}
use Rattle.bk_store.specs.CompactionPrimitives.{RelocateTransition}
use Rattle.bk_store.specs.Primitives.{CreateLogTransition, AppendRecordTransition, AppendFlushedTransition, SetLogStateTransition, PublishLogTransition, RestartFlushTransition, CanReplaceIndex, state_with_place}
use Rattle.bk_store.specs.declared.job.Move.{Move}
use Rattle.bk_store.specs.declared.job.Phase.{Phase}
use Rattle.bk_store.specs.declared.job.Phase.TheVariants.{Copy, Switch}
use Rattle.bk_store.specs.declared.log.LogState.{LogState}
use Rattle.bk_store.specs.declared.log.LogState.TheVariants.{Writing, Copying, Readable}
use Rattle.bk_store.specs.declared.answer.MakeFault.{MakeFault}
use Rattle.bk_store.specs.declared.answer.MakeFault.TheVariants as makes
use Rattle.bk_store.specs.declared.step_fault.StepFault.{StepFault}
use Rattle.bk_store.specs.declared.step_fault.StepFault.TheVariants as step_faults
use Rattle.bk_store.proofs.KeyMaps.{same_key, inserted_here, get-insert_other}
use Rattle.bk_store.proofs.Rebuilding.{still_named}
use Rattle.bk_flush.specs.Flushing.{RestartsOnDeviceFault, SealFilledTransition, NoNewLog, IsRefused, ReadyLogTransition, WriteOneTransition, NamesFirst, StopsShowing, FailsShowing, Publishes}
use Rattle.bk_flush.specs.Flushing.{PublishTransition, RollTransition, first_places}
use Rattle.bk_flush.specs.declared.answer.WriteAnswer.{WriteAnswer}
use Rattle.bk_flush.specs.declared.answer.WriteAnswer.TheVariants as writes
use Rattle.bk_flush.specs.declared.answer.PublishAnswer.{PublishAnswer}
use Rattle.bk_flush.specs.declared.answer.PublishAnswer.TheVariants as publishes
use Rattle.bk_flush.specs.declared.answer.RollAnswer.{RollAnswer}
use Rattle.bk_flush.specs.declared.answer.RollAnswer.TheVariants as rolls
use Rattle.bk_collect.specs.Collecting.{RetireTransition, RebuildTransition, CloseTransition, RemoveTransition}
use Rattle.bk_collect.specs.declared.answer.RetireAnswer.{RetireAnswer}
use Rattle.bk_collect.specs.declared.answer.RetireAnswer.TheVariants as retires
use Rattle.bk_collect.specs.declared.answer.CloseAnswer.{CloseAnswer}
use Rattle.bk_collect.specs.declared.answer.CloseAnswer.TheVariants as closes
use Rattle.bk_collect.specs.declared.answer.RemoveAnswer.{RemoveAnswer}
use Rattle.bk_collect.specs.declared.answer.RemoveAnswer.TheVariants as removes
use Rattle.bk_collect.specs.declared.answer.CollectFault.{CollectFault}
use Rattle.bk_collect.specs.declared.answer.CollectFault.TheVariants as faults
use Rattle.bk_compact.specs.Compacting.{BeginTransition, CopyTransition, EndCopyTransition, SwitchTransition, FinishTransition, GiveUpTransition, GivesUp}
use Rattle.bk_compact.specs.Compacting.{AbortsCopying, Examines, ExaminesAll, Steps, ShowsCopy, TakesMoves, with_job}
use Rattle.bk_compact.specs.declared.answer.Kind.{Kind}
use Rattle.bk_compact.specs.declared.answer.BeginAnswer.{BeginAnswer}
use Rattle.bk_compact.specs.declared.answer.BeginAnswer.TheVariants as begins
use Rattle.bk_compact.specs.declared.answer.CopyAnswer.{CopyAnswer}
use Rattle.bk_compact.specs.declared.answer.CopyAnswer.TheVariants as copies
use Rattle.bk_compact.specs.declared.answer.EndAnswer.{EndAnswer}
use Rattle.bk_compact.specs.declared.answer.EndAnswer.TheVariants as ends
use Rattle.bk_compact.specs.declared.answer.SwitchAnswer.{SwitchAnswer}
use Rattle.bk_compact.specs.declared.answer.SwitchAnswer.TheVariants as switches
use Rattle.bk_compact.specs.declared.answer.FinishAnswer.{FinishAnswer}
use Rattle.bk_compact.specs.declared.answer.FinishAnswer.TheVariants as finishes
use Rattle.bk_compact.specs.declared.answer.GiveUpAnswer.{GiveUpAnswer}
use Rattle.bk_compact.specs.declared.answer.GiveUpAnswer.TheVariants as give_ups
use Rattle.bk_drive.specs.Machine.{WorkTransition}
use Rattle.bk_drive.specs.declared.step.Answer.{Answer}
use Rattle.bk_drive.specs.declared.step.Work.{Work}
use Rattle.bk_drive.specs.declared.step.Work.TheVariants as works

-- Each key of the index is still in it.
abbrev pub KeepsKeys : State → State → Type 0
KeepsKeys s t = (key : EntryKey) → IsSome (finite.get s.index key) → IsSome (finite.get t.index key)

-- The index of equal states.
index_of : {t u : State} → t ≡ u → t.index ≡ u.index
index_of is = ap (λ (x : State). x.index) is

keeps : (s t : State) → t.index ≡ s.index → KeepsKeys s t
keeps s t is = λ key there. subst (λ (i : Places). IsSome (finite.get i key)) (sym is) there

then : (s t u : State) → KeepsKeys s t → KeepsKeys t u → KeepsKeys s u
then s t u first second = λ key there. second key (first key there)

-- ---- primitives

make_keeps : (s t : State) (state : LogState) (r : Result ℕ MakeFault) → CreateLogTransition s state r t → KeepsKeys s t
make_keeps s t state (Err makes.LogsFull) turn = keeps s t (index_of turn.1)
make_keeps s t state (Err makes.NoMoreIds) turn = keeps s t (index_of turn.2)
make_keeps s t state (Err makes.Memory) turn = elim turn.1 [ inl is ↦ keeps s t (index_of is) | inr unmade ↦ keeps s t (index_of unmade.left) ]
make_keeps s t state (Err makes.Disk) turn = keeps s t (index_of turn.1.left)
make_keeps s t state (Err makes.Odd) turn = keeps s t (index_of turn.2.left)
make_keeps s t state (Ok id) turn = keeps s t (index_of turn.2.left)

put_keeps : (s t : State) (id : ℕ) (payload : List ℕ) (r : Result Place LogFault) → AppendRecordTransition s id payload r t → KeepsKeys s t
put_keeps s t id payload (Ok place) turn = keeps s t (index_of turn.1.4)
put_keeps s t id payload (Err log_faults.Memory) turn = keeps s t (index_of turn.1)
put_keeps s t id payload (Err log_faults.Disk) turn = keeps s t (index_of turn.3)
put_keeps s t id payload (Err log_faults.Odd) turn = keeps s t (index_of turn.1.2)
put_keeps s t id payload (Err log_faults.Failed) turn = absurd turn

write_keeps : (s t : State) (id : ℕ) (key : EntryKey) (payload : List ℕ) (r : Result Place LogFault) → AppendFlushedTransition s id key payload r t → KeepsKeys s t
write_keeps s t id key payload (Ok place) turn = put_keeps (state_with_place s key place) t id payload (Ok place) turn
write_keeps s t id key payload (Err fault) turn = put_keeps s t id payload (Err fault) turn

show_keeps : (s t : State) (id : ℕ) (r : Result (Unit {0}) LogFault) → PublishLogTransition s id r t → KeepsKeys s t
show_keeps s t id (Ok _) turn = keeps s t (index_of turn.2.3)
show_keeps s t id (Err log_faults.Disk) turn = keeps s t (index_of turn.1)
show_keeps s t id (Err log_faults.Memory) turn = keeps s t (index_of turn.1)
show_keeps s t id (Err log_faults.Odd) turn = keeps s t (index_of turn.1)
show_keeps s t id (Err log_faults.Failed) turn = absurd turn

set_keeps : (s t : State) (id : ℕ) (state : LogState) → SetLogStateTransition s id state t → KeepsKeys s t
set_keeps s t id state turn = keeps s t (index_of turn.2)

restart_keeps : (s t : State) → RestartFlushTransition s t → KeepsKeys s t
restart_keeps s t restarts = keeps s t (index_of restarts.left)

-- A key that is sent elsewhere is still in the index.
rename_keeps : (s t : State) (key : EntryKey) (from_place to_place : Place) (is_moved : Bool) → RelocateTransition s key from_place to_place is_moved t → KeepsKeys s t
rename_keeps s t key from_place to_place true turn = λ q there.
    subst (λ (i : Places). IsSome (finite.get i q)) (sym (index_of turn.1)) (elim (same_key q key) [
      | inl here ↦ ap is_some (inserted_here s.index key to_place q here)
      | inr apart ↦ subst (λ (o : Option Place). IsSome o) (sym (get-insert_other s.index key to_place q apart)) there
    ])
rename_keeps s t key from_place to_place false turn = keeps s t (index_of turn.1)

-- ---- a flush

left_keeps : (fault : StepFault) (s t : State) → RestartsOnDeviceFault fault s t → KeepsKeys s t
left_keeps step_faults.Disk s t left = restart_keeps s t left
left_keeps (step_faults.Memory done) s t left = keeps s t (index_of left)
left_keeps step_faults.LogsFull s t left = keeps s t (index_of left)
left_keeps step_faults.NoMoreIds s t left = keeps s t (index_of left)
left_keeps step_faults.Odd s t left = restart_keeps s t left

fill_keeps : (s t : State) (filled : Option ℕ) (r : Result (Unit {0}) LogFault) → SealFilledTransition s filled r t → KeepsKeys s t
fill_keeps s t None (Ok _) turn = keeps s t (index_of turn)
fill_keeps s t None (Err fault) turn = absurd turn
fill_keeps s t (Some id) r turn = keeps s t (index_of turn.left)

refused_keeps : (s t : State) (filled : Option ℕ) (fault : StepFault) → IsRefused s filled fault t → KeepsKeys s t
refused_keeps s t filled fault refused = elim refused [
  | inl fill ↦ fill_keeps s t filled (Err fill.0) fill.2
  | inr make ↦ then s make.0 t (fill_keeps s make.0 filled (Ok tt) make.1) (make_keeps make.0 t Writing (Err make.2.0) make.2.2)
]

unready_keeps : (s t : State) (payload : List ℕ) (fault : StepFault) → NoNewLog s payload fault t → KeepsKeys s t
unready_keeps s t payload fault unready =
    then s unready.mid t (refused_keeps s unready.mid unready.filled fault unready.refused) (left_keeps fault unready.mid t unready.left)

ready_keeps : (s t : State) (payload : List ℕ) (r : Result ℕ StepFault) → ReadyLogTransition s payload r t → KeepsKeys s t
ready_keeps s t payload (Ok id) turn = elim turn [
  | inl has ↦ keeps s t (index_of has.1)
  | inr new ↦ then s new.mid t (fill_keeps s new.mid new.filled (Ok tt) new.sealed) (make_keeps new.mid t Writing (Ok id) new.made)
]
ready_keeps s t payload (Err step_faults.LogsFull) turn = keeps s t (index_of turn.3)
ready_keeps s t payload (Err step_faults.NoMoreIds) turn = keeps s t (index_of turn.4)
ready_keeps s t payload (Err step_faults.Disk) turn = unready_keeps s t payload step_faults.Disk turn
ready_keeps s t payload (Err (step_faults.Memory done)) turn = unready_keeps s t payload (step_faults.Memory done) turn
ready_keeps s t payload (Err step_faults.Odd) turn = unready_keeps s t payload step_faults.Odd turn

written_keeps : (s t : State) (r : Result WriteAnswer StepFault) → WriteOneTransition s r t → KeepsKeys s t
written_keeps s t (Ok writes.NoFlush) turn = keeps s t (index_of turn.1)
written_keeps s t (Ok writes.AllWritten) turn = keeps s t (index_of turn.2)
written_keeps s t (Ok (writes.Wrote place)) turn =
    let puts = turn.1.2 in
    then s puts.mid t (ready_keeps s puts.mid turn.1.0 (Ok puts.log) puts.ready)
    (write_keeps puts.mid t puts.log turn.0 turn.1.0 (Ok place) puts.put)
written_keeps s t (Err fault) turn = elim turn.1.2 [
  | inl unready ↦ ready_keeps s t turn.1.0 (Err fault) unready
  | inr unput ↦ then s unput.mid t (ready_keeps s unput.mid turn.1.0 (Ok unput.log) unput.ready)
      (then unput.mid unput.refused t (write_keeps unput.mid unput.refused unput.log turn.0 turn.1.0 (Err unput.cause) unput.put)
      (left_keeps fault unput.refused t unput.left))
]

stops_keeps : {failed : ℕ} (s t : State) → StopsShowing s failed t → KeepsKeys s t
stops_keeps s t stops = keeps s t (index_of stops.before.left)

fails_keeps : {failed : ℕ} (s t : State) → FailsShowing s failed t → KeepsKeys s t
fails_keeps s t stopped = then s stopped.mid t (stops_keeps s stopped.mid stopped.stops) (elim stopped.stays [
  | inl is ↦ keeps stopped.mid t (index_of is)
  | inr lost ↦ restart_keeps stopped.mid t lost.1
])

or_later : {X : Type 0} (first second : Option X) → IsSome second → IsSome (option_or first second)
or_later None second there = there
or_later (Some x) second there = refl

named_keeps : (done : ℕ) (s t : State) → NamesFirst done s t → KeepsKeys s t
named_keeps done s t names = λ key there. subst (λ (o : Option Place). IsSome o) (sym (names.index key))
    (or_later (find key_cmp key (first_places done s)) (finite.get s.index key) there)

publishes_keeps : (done : ℕ) (s t : State) → Publishes s done t → KeepsKeys s t
publishes_keeps done s t publish =
    then s publish.mid t (keeps s publish.mid (index_of publish.shown.all.left)) (named_keeps done publish.mid t publish.named)

published_keeps : (s t : State) (r : Result PublishAnswer StepFault) → PublishTransition s r t → KeepsKeys s t
published_keeps s t (Ok publishes.NoFlush) turn = keeps s t (index_of turn.1)
published_keeps s t (Ok publishes.NotAllWritten) turn = keeps s t (index_of turn.1.2)
published_keeps s t (Ok (publishes.Published n)) turn =
    then s turn.2.0 t (publishes_keeps n s turn.2.0 turn.2.1) (keeps turn.2.0 t (index_of turn.2.2.left))
published_keeps s t (Err step_faults.Disk) turn = fails_keeps s t turn.1
published_keeps s t (Err (step_faults.Memory done)) turn = elim turn.1 [
  | inl unshown ↦ stops_keeps s t unshown.1
  | inr unnamed ↦ publishes_keeps done s t unnamed.1
]
published_keeps s t (Err step_faults.Odd) turn = fails_keeps s t turn.2
published_keeps s t (Err step_faults.LogsFull) turn = absurd turn
published_keeps s t (Err step_faults.NoMoreIds) turn = absurd turn

rolled_keeps : (s t : State) (r : Result RollAnswer StepFault) → RollTransition s r t → KeepsKeys s t
rolled_keeps s t (Ok rolls.FlushRunning) turn = keeps s t (index_of turn.1)
rolled_keeps s t (Ok rolls.NothingOpen) turn = keeps s t (index_of turn.2)
rolled_keeps s t (Ok (rolls.Sealed id)) turn = keeps s t (index_of turn.2.left)
rolled_keeps s t (Err fault) turn = keeps s t (index_of turn.1.1.3.left)

swapped_keeps : (s t : State) (r : Swap) → SwapTransition s r t → KeepsKeys s t
swapped_keeps s t Running turn = keeps s t (index_of turn.1)
swapped_keeps s t Nothing turn = keeps s t (index_of turn.2)
swapped_keeps s t (Swapped n) turn = keeps s t (index_of turn.3)

-- ---- a collection

retired_keeps : (s t : State) (id : ℕ) (r : RetireAnswer) → RetireTransition s id r t → KeepsKeys s t
retired_keeps s t id retires.NoLog turn = keeps s t (index_of turn.1)
retired_keeps s t id retires.InUse turn = keeps s t (index_of turn.1)
retired_keeps s t id (retires.StillNamed n) turn = keeps s t (index_of turn.3)
retired_keeps s t id (retires.Retired log) turn = elim turn.1 [ inl past ↦ keeps s t (index_of past.1) | inr set ↦ keeps s t (index_of set.2.2) ]

-- The index has each key of a live ledger that has a published entry, and each of the old index has
-- one.
rebuilt_keeps : (s t : State) (r : Result ℕ CollectFault) → SatisfiesInvariant s → IsTrue s.honest → RebuildTransition s r t → KeepsKeys s t
rebuilt_keeps s t (Ok n) kept honest turn = λ key there.
    let parts = kept.parts in
    let promises = kept.keeps.promises (subst (λ (x : State). IsTrue x.honest) (sym kept.seen) honest) in
    let made = subst (λ (x : State). CanReplaceIndex x turn.0) (sym kept.seen) turn.1 in
    let was = subst (λ (x : State). IsSome (finite.get x.index key)) (sym kept.seen) there in
    subst (λ (i : Places). IsSome (finite.get i key)) (sym (index_of turn.3))
    (still_named promises.map.carries promises.shows (made.made (subst (λ (x : State). IsTrue x.honest) (sym kept.seen) honest)) key was)
rebuilt_keeps s t (Err fault) kept honest turn = keeps s t (index_of turn.1)

closed_keeps : (s t : State) (id : ℕ) (r : CloseAnswer) → CloseTransition s id r t → KeepsKeys s t
closed_keeps s t id closes.NoLog turn = keeps s t (index_of turn.1)
closed_keeps s t id closes.NotRetired turn = keeps s t (index_of turn.1)
closed_keeps s t id (closes.Leased n) turn = keeps s t (index_of turn.2)
closed_keeps s t id closes.Closed turn = elim turn [ inl was ↦ keeps s t (index_of was.1) | inr now ↦ keeps s t (index_of now.1.1.2) ]

removed_keeps : (s t : State) (id : ℕ) (r : Result RemoveAnswer CollectFault) → RemoveTransition s id r t → KeepsKeys s t
removed_keeps s t id (Ok removes.NoLog) turn = keeps s t (index_of turn.1)
removed_keeps s t id (Ok removes.NotClosed) turn = keeps s t (index_of turn.1)
removed_keeps s t id (Ok removes.Removed) turn = keeps s t (index_of turn.1.3)
removed_keeps s t id (Err faults.Disk) turn = keeps s t (index_of turn.1.1)
removed_keeps s t id (Err faults.Memory) turn = keeps s t (index_of turn.1.1)
removed_keeps s t id (Err (faults.Log log cause)) turn = absurd turn
removed_keeps s t id (Err faults.Odd) turn = keeps s t (index_of turn.1.1)

-- ---- a compaction

begun_keeps : (s t : State) (kind : Kind) (r : Result BeginAnswer StepFault) → BeginTransition s kind r t → KeepsKeys s t
begun_keeps s t kind (Ok begins.JobRunning) turn = keeps s t (index_of turn.1)
begun_keeps s t kind (Ok begins.NothingToDo) turn = keeps s t (index_of turn.2)
begun_keeps s t kind (Ok (begins.Chosen log)) turn =
    then s turn.1.1.0 t (make_keeps s turn.1.1.0 Copying (Ok turn.1.0) turn.1.1.1) (keeps turn.1.1.0 t (index_of turn.1.1.2))
begun_keeps s t kind (Err fault) turn = make_keeps s t Copying (Err turn.1.0) turn.1.2

examine_keeps : (s t : State) (job after : Job) (found : Found) (is_copied : Bool) → Examines s job found is_copied t after → KeepsKeys s t
examine_keeps s t job after found true turn = put_keeps s t job.copy turn.0 (Ok turn.1.0) turn.1.1.put
examine_keeps s t job after found false turn = keeps s t (index_of turn.1)

examines_keeps : (s t : State) (job after : Job) (founds : List Found) (copied : ℕ) → ExaminesAll s job founds copied t after → KeepsKeys s t
examines_keeps s t job after [] copied turn = keeps s t (index_of turn.1)
examines_keeps s t job after (found ∷ later) copied turn =
    then s turn.1.0 t (examine_keeps s turn.1.0 job turn.1.1.0 found turn.0 turn.1.1.1)
    (examines_keeps turn.1.0 t turn.1.1.0 after later turn.1.1.2.0 turn.1.1.2.2)

steps_keeps : (s t : State) (job after : Job) (most copied : ℕ) → Steps s job most copied t after → KeepsKeys s t
steps_keeps s t job after most copied steps = examines_keeps (with_job s None) t job after steps.founds copied steps.examined

aborts_keeps : (s t : State) (job : Job) (n : ℕ) (fault : StepFault) → AbortsCopying s job n fault t → KeepsKeys s t
aborts_keeps s t job n (step_faults.Memory done) turn =
    then s turn.0 t (steps_keeps s turn.0 job turn.1.0 n done turn.1.1) (keeps turn.0 t (index_of turn.1.2.left))
aborts_keeps s t job n step_faults.Disk turn =
    then s turn.1.0 t (steps_keeps s turn.1.0 job turn.1.1.0 n turn.0 turn.1.1.1) (elim turn.1.1.2 [
      | inl unread ↦ keeps turn.1.0 t (index_of unread.1)
      | inr unput ↦ put_keeps turn.1.0 t turn.1.1.0.copy unput.1.0 (Err log_faults.Disk) unput.1.1.put
    ])
aborts_keeps s t job n step_faults.Odd turn =
    then s turn.1.1.0 t (steps_keeps s turn.1.1.0 job turn.1.1.1.0 n turn.1.0 turn.1.1.1.1) (elim turn.1.1.1.2 [
      | inl set ↦ set_keeps turn.1.1.0 t job.copy Readable set
      | inr unput ↦ put_keeps turn.1.1.0 t turn.1.1.1.0.copy unput.1.0 (Err log_faults.Odd) unput.1.1.put
    ])
aborts_keeps s t job n step_faults.LogsFull turn = absurd turn
aborts_keeps s t job n step_faults.NoMoreIds turn = absurd turn

copied_keeps : (s t : State) (n : ℕ) (r : Result CopyAnswer StepFault) → CopyTransition s n r t → KeepsKeys s t
copied_keeps s t n (Ok copies.NoJob) turn = keeps s t (index_of turn.1)
copied_keeps s t n (Ok copies.NotNow) turn = keeps s t (index_of turn.1)
copied_keeps s t n (Ok copies.AtEnd) turn = keeps s t (index_of turn.3)
copied_keeps s t n (Ok (copies.Copied k)) turn =
    then s turn.2.0 t (steps_keeps s turn.2.0 turn.0 turn.2.1.0 n k turn.2.1.1.0) (keeps turn.2.0 t (index_of turn.2.1.3))
copied_keeps s t n (Err fault) turn = aborts_keeps s t turn.0 n fault turn.2

shown_keeps : (s t : State) (job : Job) (r : Result (Unit {0}) LogFault) → ShowsCopy s job r t → KeepsKeys s t
shown_keeps s t job r shows = then s shows.0 t (keeps s shows.0 (index_of shows.1.sealed.left)) (show_keeps shows.0 t job.copy r shows.2)

ended_keeps : (s t : State) (r : Result EndAnswer StepFault) → EndCopyTransition s r t → KeepsKeys s t
ended_keeps s t (Ok ends.NoJob) turn = keeps s t (index_of turn.1)
ended_keeps s t (Ok ends.NotNow) turn = keeps s t (index_of turn.1)
ended_keeps s t (Ok ends.NotAtEnd) turn = keeps s t (index_of turn.3)
ended_keeps s t (Ok (ends.Ended k)) turn =
    then s turn.3.0 t (shown_keeps s turn.3.0 turn.0 (Ok tt) turn.3.1) (keeps turn.3.0 t (index_of turn.3.2))
ended_keeps s t (Err fault) turn = elim turn.2 [
  | inl unread ↦ set_keeps (with_job s None) t turn.0.copy Readable unread.1
  | inr refused ↦ elim refused.2 [
    | inl unsealed ↦ keeps s t (index_of unsealed.sealed.left)
    | inr unshown ↦ shown_keeps s t turn.0 (Err refused.0) unshown
  ]
]

moves_keep : (s t : State) (moves : List Move) (moved : ℕ) → TakesMoves s moves moved t → KeepsKeys s t
moves_keep s t [] moved turn = keeps s t (index_of turn.1)
moves_keep s t (first ∷ later) moved turn =
    then s turn.1.0 t (rename_keeps s turn.1.0 first.key first.from first.to turn.0 turn.1.1)
    (moves_keep turn.1.0 t later turn.1.2.0 turn.1.2.2)

switched_keeps : (s t : State) (n : ℕ) (r : SwitchAnswer) → SwitchTransition s n r t → KeepsKeys s t
switched_keeps s t n switches.NoJob turn = keeps s t (index_of turn.1)
switched_keeps s t n switches.NotNow turn = keeps s t (index_of turn.1)
switched_keeps s t n (switches.Moved moved left) turn =
    then s turn.3.0 t (moves_keep (with_job s None) turn.3.0 _ moved turn.3.1) (keeps turn.3.0 t (index_of turn.3.2))

finished_keeps : (s t : State) (r : FinishAnswer) → FinishTransition s r t → KeepsKeys s t
finished_keeps s t finishes.NoJob turn = keeps s t (index_of turn.1)
finished_keeps s t finishes.NotNow turn = keeps s t (index_of turn.1)
finished_keeps s t (finishes.Left left) turn = keeps s t (index_of turn.4)
finished_keeps s t (finishes.StillNamed n) turn = keeps s t (index_of turn.4)
finished_keeps s t (finishes.Retired log) turn = keeps s t (index_of turn.4.2)

gives_up_keeps : (s t : State) (job : Job) (phase : Phase) → GivesUp s job phase t → KeepsKeys s t
gives_up_keeps s t job Copy turn = keeps s t (index_of turn.2)
gives_up_keeps s t job Switch turn = keeps s t (index_of turn)

given_up_keeps : (s t : State) (r : GiveUpAnswer) → GiveUpTransition s r t → KeepsKeys s t
given_up_keeps s t give_ups.NoJob turn = keeps s t (index_of turn.1)
given_up_keeps s t give_ups.GivenUp turn = gives_up_keeps s t turn.0 turn.0.phase turn.2

-- ---- each step

pub work_keeps : (s t : State) (work : Work) (a : Answer) → SatisfiesInvariant s → IsTrue s.honest → WorkTransition s work a t → KeepsKeys s t
work_keeps s t works.Swap a kept honest turn = swapped_keeps s t turn.0 turn.2
work_keeps s t works.WriteOne a kept honest turn = written_keeps s t turn.0 turn.2
work_keeps s t works.Publish a kept honest turn = published_keeps s t turn.0 turn.2
work_keeps s t works.Roll a kept honest turn = rolled_keeps s t turn.0 turn.2
work_keeps s t (works.Retire log) a kept honest turn = retired_keeps s t log turn.0 turn.2
work_keeps s t works.Rebuild a kept honest turn = rebuilt_keeps s t turn.0 kept honest turn.2
work_keeps s t (works.Close log) a kept honest turn = closed_keeps s t log turn.0 turn.2
work_keeps s t (works.Remove log) a kept honest turn = removed_keeps s t log turn.0 turn.2
work_keeps s t (works.Begin kind) a kept honest turn = begun_keeps s t kind turn.0 turn.2
work_keeps s t (works.Copy n) a kept honest turn = copied_keeps s t n turn.0 turn.2
work_keeps s t works.EndCopy a kept honest turn = ended_keeps s t turn.0 turn.2
work_keeps s t (works.Switch n) a kept honest turn = switched_keeps s t n turn.0 turn.2
work_keeps s t works.Finish a kept honest turn = finished_keeps s t turn.0 turn.2
work_keeps s t works.GiveUp a kept honest turn = given_up_keeps s t turn.0 turn.2
