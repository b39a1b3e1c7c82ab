-- Frame conditions of a write, a roll and a publish.
use Rattle.std.proofs.Common.{◌≡◌, ◌<◌, inl, inr, ℕ, List, Option, Some, None, Result, Ok, Err, refl, sym, ap, subst, ◌∙◌}
use Rattle.std.specs.FinMap as finite
use Rattle.bk_log.specs.declared.fault.LogFault.{LogFault}
use Rattle.bk_store.specs.Logs.{state_after_flush}
use Rattle.bk_store.specs.State.{State}
use Rattle.bk_store.specs.Primitives.{EndFlushTransition}
use Rattle.bk_store.specs.declared.log.LogState.TheVariants.{Writing}
use Rattle.bk_store.specs.Frame.{CoreUnchanged, SlotsUnchanged, FrameUnchanged}
use Rattle.bk_store.specs.Fronts.{fronts_after_flush}
use Rattle.bk_store.proofs.RemovedLogs.{gone_ruled}
use Rattle.bk_store.proofs.FrameLemmas.{still_as, still_same, then, stays_then, slots_then, slots_same}
use Rattle.bk_store.proofs.PrimitiveFrames.{make_still, write_still, seals_still, restarts_still}
use Rattle.bk_flush.specs.Flushing.{RestartsOnDeviceFault, SealFilledTransition, NoNewLog, IsRefused, ReadyLogTransition, WriteOneTransition, ShowsThose, StopsShowing, FailsShowing, Publishes}
use Rattle.bk_flush.specs.Flushing.{PublishCachesFrame, PublishTransition}
use Rattle.bk_flush.specs.Publishing.{ShowsLogs}
use Rattle.bk_flush.specs.declared.answer.WriteAnswer.{WriteAnswer}
use Rattle.bk_flush.specs.declared.answer.WriteAnswer.TheVariants as writes
use Rattle.bk_flush.specs.declared.answer.PublishAnswer.{PublishAnswer}
use Rattle.bk_flush.specs.declared.answer.PublishAnswer.TheVariants as publishes
use Rattle.bk_store.specs.declared.step_fault.StepFault.{StepFault}
use Rattle.bk_store.specs.declared.step_fault.StepFault.TheVariants as step_faults

-- ---- the beginning

-- ---- writing

left_still : (fault : StepFault) {s t : State} → RestartsOnDeviceFault fault s t → FrameUnchanged s t
left_still step_faults.Disk left = restarts_still left
left_still (step_faults.Memory done) {s = s} {t = t} left = still_same s t left
left_still step_faults.LogsFull {s = s} {t = t} left = still_same s t left
left_still step_faults.NoMoreIds {s = s} {t = t} left = still_same s t left
left_still step_faults.Odd left = restarts_still left

fill_still : (s t : State) (filled : Option ℕ) (r : Result (Unit {0}) LogFault) → SealFilledTransition s filled r t → FrameUnchanged s t
fill_still s t None (Ok _) turn = still_same s t turn
fill_still s t None (Err fault) turn = absurd turn
fill_still s t (Some id) r turn = seals_still turn

refused_still : (s t : State) (filled : Option ℕ) (fault : StepFault) → IsRefused s filled fault t → FrameUnchanged s t
refused_still s t filled fault refused = elim refused [
  | inl fill ↦ fill_still s t filled (Err fill.0) fill.2
  | inr make ↦ then (fill_still s make.0 filled (Ok tt) make.1) (make_still make.0 t Writing (Err make.2.0) make.2.2)
]

unready_still : (s t : State) (payload : List ℕ) (fault : StepFault) → NoNewLog s payload fault t → FrameUnchanged s t
unready_still s t payload fault unready = then (refused_still s unready.mid unready.filled fault unready.refused) (left_still fault unready.left)

pub ready_still : (s t : State) (payload : List ℕ) (r : Result ℕ StepFault) → ReadyLogTransition s payload r t → FrameUnchanged s t
ready_still s t payload (Ok id) turn = elim turn [
  | inl has ↦ still_same s t has.1
  | inr new ↦ then (fill_still s new.mid new.filled (Ok tt) new.sealed) (make_still new.mid t Writing (Ok id) new.made)
]
ready_still s t payload (Err step_faults.LogsFull) turn = still_same s t turn.3
ready_still s t payload (Err step_faults.NoMoreIds) turn = still_same s t turn.4
ready_still s t payload (Err step_faults.Disk) turn = unready_still s t payload step_faults.Disk turn
ready_still s t payload (Err (step_faults.Memory done)) turn = unready_still s t payload (step_faults.Memory done) turn
ready_still s t payload (Err step_faults.Odd) turn = unready_still s t payload step_faults.Odd turn

pub step_still : (s t : State) (r : Result WriteAnswer StepFault) → WriteOneTransition s r t → FrameUnchanged s t
step_still s t (Ok writes.NoFlush) turn = still_same s t turn.1
step_still s t (Ok writes.AllWritten) turn = still_same s t turn.2
step_still s t (Ok (writes.Wrote place)) turn =
    let puts = turn.1.2 in
    then (ready_still s puts.mid turn.1.0 (Ok puts.log) puts.ready) (write_still puts.mid t puts.log turn.0 turn.1.0 (Ok place) puts.put)
step_still s t (Err fault) turn = elim turn.1.2 [
  | inl unready ↦ ready_still s t turn.1.0 (Err fault) unready
  | inr unput ↦ then (ready_still s unput.mid turn.1.0 (Ok unput.log) unput.ready)
      (then (write_still unput.mid unput.refused unput.log turn.0 turn.1.0 (Err unput.cause) unput.put) (left_still fault unput.left))
]

-- ---- rolling

-- ---- publishing

shown_still : (Those : ℕ → Type 0) (s t : State) → ShowsThose Those s t → FrameUnchanged s t
shown_still Those s t shows = (
  record {
    settings = ap (λ (x : State). x.settings) shows.left;
    ledgers = ap (λ (x : State). x.ledgers) shows.left;
    gone = λ log is.
        let other : ¬ (Those log) = λ those.
        let shown = shows.shown log those in
        (let e : Some shown.log ≡ None = sym shown.held ∙ is.0 in cc) in
        (shows.others log other ∙ is.0, subst (λ n. log < n) (sym (ap (λ (x : State). x.next) shows.left)) is.1);
  },
  record { active = ap (λ (x : State). x.caches.active) shows.left; flush = ap (λ (x : State). x.caches.flush) shows.left; fronts = ap (λ (x : State). x.fronts) shows.left },
  slots_same _ _ (ap (λ (x : State). x.keeper) shows.left),
)

pub stops_still : {s t : State} {failed : ℕ} → StopsShowing s failed t → FrameUnchanged s t
stops_still {s = s} {t = t} stops = shown_still _ s t stops.before

fails_showing_still : {s t : State} {failed : ℕ} → FailsShowing s failed t → FrameUnchanged s t
fails_showing_still {t = t} stopped = then (stops_still stopped.stops) (elim stopped.stays [
  | inl same ↦ still_same stopped.mid t same
  | inr lost ↦ restarts_still lost.1
])

pub publishes_still : {s t : State} {done : ℕ} → Publishes s done t → FrameUnchanged s t
publishes_still {s = s} {t = t} done =
    then (shown_still _ s done.mid done.shown.all) (still_as (named_still done.mid t) t done.named.left)
  where
    named_still : (mid t : State) → FrameUnchanged mid (record mid { index = t.index; caches = record mid.caches { recent = t.caches.recent } })
    named_still mid t = (
      record { settings = refl; ledgers = refl; gone = λ log is. is },
      record { active = refl; flush = refl; fronts = refl },
      slots_same _ _ refl,
    )

-- the end of a flush empties its cache and raises the durable front
abbrev EndStays : State → State → Type 0
EndStays s t = CoreUnchanged s t × ((t.caches.active ≡ s.caches.active) × (t.caches.flush ≡ None) × (t.fronts ≡ fronts_after_flush s.fronts))
    × SlotsUnchanged s.keeper t.keeper

ends_stays : (s t : State) → EndFlushTransition s t → EndStays s t
ends_stays s t ends =
    let after : State = record s {
      logs = t.logs;
      places = finite.empty;
      caches = record s.caches { flush = None };
      fronts = fronts_after_flush s.fronts;
    } in
    subst (EndStays s) (sym ends.left) (
      record { settings = refl; ledgers = refl; gone = gone_ruled s after state_after_flush ends.logs refl },
      (refl, refl, refl),
      slots_same s.keeper after.keeper refl,
    )

-- the frame condition of a publish, by its result
abbrev pub PublishStays : State → Result PublishAnswer StepFault → State → Type 0
PublishStays s r t = CoreUnchanged s t × PublishCachesFrame s r t × SlotsUnchanged s.keeper t.keeper

-- a log could not be published
pub unshown_stays : (s t : State) (fault : StepFault) → ShowsLogs s (Err fault) t → PublishStays s (Err fault) t
unshown_stays s t step_faults.Disk turn = fails_showing_still turn
unshown_stays s t (step_faults.Memory done) turn = stops_still turn.1
unshown_stays s t step_faults.Odd turn = fails_showing_still turn.1
unshown_stays s t step_faults.LogsFull turn = absurd turn
unshown_stays s t step_faults.NoMoreIds turn = absurd turn

pub publish_stays : (s t : State) (r : Result PublishAnswer StepFault) → PublishTransition s r t → PublishStays s r t
publish_stays s t (Ok publishes.NoFlush) turn = still_same s t turn.1
publish_stays s t (Ok publishes.NotAllWritten) turn = still_same s t turn.1.2
publish_stays s t (Ok (publishes.Published n)) turn =
    let still = publishes_still turn.2.1 in
    let ended = ends_stays turn.2.0 t turn.2.2 in (
      stays_then still.0 ended.0,
      (ended.1.0 ∙ still.1.active, ended.1.1, ended.1.2 ∙ ap fronts_after_flush still.1.fronts),
      slots_then still.2 ended.2,
    )
publish_stays s t (Err step_faults.Disk) turn = fails_showing_still turn.1
publish_stays s t (Err (step_faults.Memory done)) turn = elim turn.1 [
  | inl unshown ↦ stops_still unshown.1
  | inr unnamed ↦ publishes_still unnamed.1
]
publish_stays s t (Err step_faults.Odd) turn = fails_showing_still turn.2
publish_stays s t (Err step_faults.LogsFull) turn = absurd turn
publish_stays s t (Err step_faults.NoMoreIds) turn = absurd turn
