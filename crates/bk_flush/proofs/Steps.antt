-- One write of a flush: the next entry is appended, if need be to a new log.
use Rattle.std.proofs.Common.{◌≡◌, inl, inr, ℕ, ◌+◌, nat_lt, ◌&&◌, true, false, IsTrue, List, length, is_some, Option, Some, None, Result, Ok, Err}
use Rattle.std.proofs.Common.{Less, Equal, Greater, refl, sym, ap, subst, ◌∙◌}
use Rattle.std.specs.Ordering.{ordering_reverse}
use Rattle.std.specs.FinMap as finite
use Rattle.bk_record.specs.Key.{EntryKey, key_cmp}
use Rattle.bk_record.specs.Location.{Place}
use Rattle.bk_record.specs.Keyed.{Places}
use Rattle.bk_record.proofs.Keys.{key_cmp_total, key_cmp_antisymmetric}
use Rattle.bk_log.specs.Writing as writers
use Rattle.bk_log.specs.declared.fault.LogFault.{LogFault}
use Rattle.bk_log.specs.declared.fault.LogFault.TheVariants as log_faults
use Rattle.bk_cache.specs.Caches.{CacheState, flush_of}
use Rattle.bk_store.specs.Logs.{Log}
use Rattle.bk_store.specs.State.{State}
use Rattle.bk_store.specs.Primitives.{IsFirstUnplaced, AllPlaced, NeedsLog, NextNeedsLog, AppendFlushedTransition, AppendsNext, AppendNextTransition, is_filled}
use Rattle.bk_store.specs.Contents.{SameContents, PreservesContents}
use Rattle.bk_store.specs.declared.answer.Appended.{Appended}
use Rattle.bk_store.specs.declared.answer.Appended.TheVariants as appends
use Rattle.bk_flush.specs.Flushing.{AppendTransition, IsNewLog, ReadyLogTransition, WriteOneTransition}
use Rattle.bk_flush.specs.declared.answer.WriteAnswer.TheVariants as writes
use Rattle.bk_store.specs.declared.step_fault.StepFault.{StepFault}

written_honest : (s t : State) (id : ℕ) (key : EntryKey) (payload : List ℕ) (result : Result Place LogFault) → AppendFlushedTransition s id key payload result t
    → t.honest ≡ s.honest
written_honest s t id key payload (Ok place) turn = ap (λ (x : State). x.honest) turn.1.4
written_honest s t id key payload (Err log_faults.Memory) turn = ap (λ (x : State). x.honest) turn.1
written_honest s t id key payload (Err log_faults.Disk) turn = ap (λ (x : State). x.honest) turn.3
written_honest s t id key payload (Err log_faults.Failed) never = absurd never
written_honest s t id key payload (Err log_faults.Odd) turn = ap (λ (x : State). x.honest) turn.1.2

pub append_stays : (s t : State) (result : Result Appended LogFault) → AppendNextTransition s result t → (IsTrue s.honest → SameContents s t)
    → PreservesContents s t
append_stays s t result turn meaning = record { honest = by_result result turn; meaning = meaning }
  where
    by_result : (result : Result Appended LogFault) → AppendNextTransition s result t → t.honest ≡ s.honest
    by_result (Ok appends.AllPlaced) turn = ap (λ (x : State). x.honest) turn.1
    by_result (Ok appends.NeedsLog) turn = ap (λ (x : State). x.honest) turn.1
    by_result (Ok (appends.At place)) is = written_honest s t is.log is.key is.payload (Ok place) is.put
    by_result (Err fault) is = written_honest s t is.log is.key is.payload (Err fault) is.put

-- the next entry is still the same after a log was made ready
pub next_still : (s mid : State) (key : EntryKey) (payload : List ℕ) → IsFirstUnplaced s key payload → mid.caches ≡ s.caches → mid.places ≡ s.places
    → IsFirstUnplaced mid key payload
next_still s mid key payload next caches places = record {
  flushing = ap (λ (c : CacheState). finite.get (flush_of c) key) caches ∙ next.flushing;
  unplaced = ap (λ (m : Places). finite.get m key) places ∙ next.unplaced;
  first = λ earlier less there.
      ap (λ (m : Places). is_some (finite.get m earlier)) places
      ∙ next.first earlier less (ap (λ (c : CacheState). is_some (finite.get (flush_of c) earlier)) (sym caches) ∙ there);
}

-- the next entry of a flush is one
pub next_same : (s : State) (key other : EntryKey) (payload bytes : List ℕ) → IsFirstUnplaced s key payload → IsFirstUnplaced s other bytes
    → (key ≡ other) × (payload ≡ bytes)
next_same s key other payload bytes next after = elim (key_cmp key other) as (λ o. key_cmp key other ≡ o → (key ≡ other) × (payload ≡ bytes)) [
  | Less ↦ λ less. absurd (let there = after.first key less (ap is_some next.flushing) in let none = next.unplaced in cc)
  | Equal ↦ λ tied.
      let same = key_cmp_antisymmetric key other tied in
      let both : Some payload ≡ Some bytes = sym next.flushing ∙ ap (finite.get (flush_of s.caches)) same ∙ after.flushing in
      (same, cc)
  | Greater ↦ λ more.
      let less : key_cmp other key ≡ Less = key_cmp_total.antisymm other key ∙ ap ordering_reverse more in
      absurd (let there = next.first other less (ap is_some after.flushing) in let none = after.unplaced in cc)
] refl

-- ---- the Writing log takes the entry

pub wrote_step : (s t : State) (place : Place) → AppendsNext s (Ok place) t → WriteOneTransition s (Ok (writes.Wrote place)) t
wrote_step s t place is = (
  is.key,
  (is.payload, is.next, record { log = is.log; mid = s; ready = inl (is.into, refl); put = is.put }),
)

pub failed_step : (s t : State) (fault : StepFault) → AppendTransition s (Err fault) t → WriteOneTransition s (Err fault) t
failed_step s t fault turn =
    let is = turn.2.1 in (
      is.key,
      (
        is.payload,
        is.next,
        inr (record {
          log = is.log;
          mid = s;
          ready = inl (is.into, refl);
          cause = turn.0;
          told_so = turn.1;
          refused = turn.2.0;
          put = is.put;
          left = turn.2.2;
        }),
      ),
    )

-- ---- it needs a new log

-- no new log was made
pub unready_step : (s t : State) (needs : NextNeedsLog s) (fault : StepFault) → ReadyLogTransition s needs.payload (Err fault) t
    → WriteOneTransition s (Err fault) t
unready_step s t needs fault unready = (needs.key, (needs.payload, needs.next, inl unready))

new_unfilled : (limit : ℕ) (w : writers.Writing) (payload : List ℕ) → w.count ≡ 0 → is_filled limit w payload ≡ false
new_unfilled limit w payload empty = ap (λ n. nat_lt 0 n && nat_lt limit (w.end + 4 + length payload)) empty

-- a new log was made, and takes the entry
module _ (s mid : State) (needs : NextNeedsLog s) (id : ℕ) (ready : ReadyLogTransition s needs.payload (Ok id) mid) (new : IsNewLog mid id)
    (caches : mid.caches ≡ s.caches) (places : mid.places ≡ s.places) where
  next : IsFirstUnplaced mid needs.key needs.payload
  next = next_still s mid needs.key needs.payload needs.next caches places

  is_left : AllPlaced mid → ⊥
  is_left all =
      let there = all needs.key (ap is_some next.flushing) in
      let none = next.unplaced in
      cc

  unfilled : (filled : Option ℕ) (payload : List ℕ) → NeedsLog mid payload filled → ⊥
  unfilled None payload none = none id (record { log = new.log; held = new.writer.held; state_is = new.state_is })
  unfilled (Some other) payload into =
      let here = new.only other (record { log = into.log; held = into.writer.held; state_is = into.state_is }) in
      let both : Some into.log ≡ Some new.log = sym into.writer.held ∙ ap (finite.get mid.logs) here ∙ new.writer.held in
      let one : into.log ≡ new.log = cc in
      let owns : Some into.w ≡ Some new.w = sym into.writer.writer ∙ ap (λ (l : Log). l.writer) one ∙ new.writer.writer in
      let same : into.w ≡ new.w = cc in
      let empty : into.w.count ≡ 0 = ap (λ (w : writers.Writing). w.count) same ∙ new.empty in
      let wrong : true ≡ false = sym into.filled_is ∙ new_unfilled mid.settings.log_limit into.w payload empty in
      cc

  is_taken : NextNeedsLog mid → ⊥
  is_taken again = unfilled again.filled again.payload again.needs

  -- so it is appended
  pub is_appended : (answer : Appended) (t : State) → ((place : Place) → answer ≡ appends.At place → ⊥) → AppendNextTransition mid (Ok answer) t → ⊥
  is_appended appends.AllPlaced t never turn = is_left turn.0
  is_appended appends.NeedsLog t never turn = is_taken turn.0
  is_appended (appends.At place) t never turn = never place refl

  -- the entry was appended to this log
  moved : (t : State) (result : Result Place LogFault) (is : AppendsNext mid result t) → AppendFlushedTransition mid id needs.key needs.payload result t
  moved t result is =
      let same = next_same mid is.key needs.key is.payload needs.payload is.next next in
      let here = new.only is.log (record { log = is.into.log; held = is.into.writer.held; state_is = is.into.state_is }) in
      subst (λ n. AppendFlushedTransition mid n needs.key needs.payload result t) here
      (subst (λ k. AppendFlushedTransition mid is.log k needs.payload result t) same.0
      (subst (λ b. AppendFlushedTransition mid is.log is.key b result t) same.1 is.put))

  pub put_step : (place : Place) (t : State) → AppendsNext mid (Ok place) t → WriteOneTransition s (Ok (writes.Wrote place)) t
  put_step place t is = (
    needs.key,
    (needs.payload, needs.next, record { log = id; mid = mid; ready = ready; put = moved t (Ok place) is }),
  )

  pub unput_step : (fault : StepFault) (t : State) → AppendTransition mid (Err fault) t → WriteOneTransition s (Err fault) t
  unput_step fault t turn = (
    needs.key,
    (
      needs.payload,
      needs.next,
      inr (record {
        log = id;
        mid = mid;
        ready = ready;
        cause = turn.0;
        told_so = turn.1;
        refused = turn.2.0;
        put = moved turn.2.0 (Err turn.0) turn.2.1;
        left = turn.2.2;
      }),
    ),
  )
