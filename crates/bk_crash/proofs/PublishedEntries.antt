-- What a step keeps of the published entries, and what a crash during it leaves of them.
use Rattle.std.proofs.Common.{◌≡◌, inl, inr, ℕ, List, Bool, true, false, ◌||◌, Option, None, IsSome, is_some, IsTrue, Result, Ok, Err, unwrap_or, cond, refl, sym, ap, ◌∙◌, subst}
use Rattle.std.specs.Option.{option_or}
use Rattle.std.specs.FinMap as finite
use Rattle.std.specs.FinSet as set
use Rattle.bk_record.specs.Key.{EntryKey}
use Rattle.bk_record.specs.Keyed.{without_ledger}
use Rattle.bk_record.specs.Location.{Place}
use Rattle.bk_record.specs.Record.{read_added}
use Rattle.bk_record.specs.Files.{Files}
use Rattle.bk_record.specs.Scan.{Payloads, Ledgers, scan_of}
use Rattle.bk_cache.specs.declared.swap.Swap.TheVariants.{Running, Nothing, Swapped}
use Rattle.bk_store.specs.State.{State}
use Rattle.bk_store.specs.Contents.{IsContents, contents_at, written_at}
use Rattle.bk_store.specs.Abstract.{AbstractState, StoreRefines, SatisfiesInvariant}
use Rattle.bk_store.specs.Frame.{CoreUnchanged}
use Rattle.bk_store.specs.Transitions.{AddTransition, TakeTransition, DeleteTransition, FenceTransition}
use Rattle.bk_store.specs.Crash.{StayDead}
use Rattle.bk_store.specs.CrashSafety.{SurvivesCrash}
use Rattle.bk_store.specs.declared.adding.AddKind.{AddKind}
use Rattle.bk_store.specs.declared.answer.Added.{Added}
use Rattle.bk_store.specs.declared.answer.Added.TheVariants.{Accepted, Held}
use Rattle.bk_store.specs.declared.answer.AddFault.{AddFault}
use Rattle.bk_store.specs.declared.answer.AddFault.TheVariants as add_faults
use Rattle.bk_store.specs.declared.answer.Taken.{Taken}
use Rattle.bk_store.specs.declared.answer.Taken.TheVariants.{Deleted, Cached, NotHeld, Leased}
use Rattle.bk_store.specs.declared.answer.TakeFault.{TakeFault}
use Rattle.bk_store.specs.declared.answer.TakeFault.TheVariants as take_faults
use Rattle.bk_store.specs.declared.answer.DeleteFault.{DeleteFault}
use Rattle.bk_store.specs.declared.answer.DeleteFault.TheVariants as delete_faults
use Rattle.bk_store.specs.declared.answer.Fence.{Fence}
use Rattle.bk_store.specs.declared.answer.Fence.TheVariants as fences
use Rattle.bk_store.specs.declared.answer.FenceFault.{FenceFault}
use Rattle.bk_store.specs.declared.answer.FenceFault.TheVariants as fence_faults
use Rattle.bk_store.proofs.EntryIds.{published_id}
use Rattle.bk_store.proofs.KeyMaps.{same_key, get-insert_other, inserted_cases, left_cases, left_same, still_lives}
use Rattle.bk_flush.specs.declared.answer.PublishAnswer.TheVariants.{Published}
use Rattle.bk_drive.specs.Abstract.{abstract_after_work}
use Rattle.bk_drive.specs.Machine.{WorkTransition}
use Rattle.bk_drive.specs.declared.step.Step.{Step}
use Rattle.bk_drive.specs.declared.step.Step.TheVariants as steps
use Rattle.bk_drive.specs.declared.step.Work.{Work}
use Rattle.bk_drive.specs.declared.step.Answer.{Answer}
use Rattle.bk_drive.specs.declared.step.Answer.TheVariants as answers
use Rattle.bk_drive.proofs.Runs.{added_plain, deleted_plain}
use Rattle.bk_crash.specs.Interrupted.{dead_after, Adds, KeepsPublished, SurvivesStep}
use Rattle.bk_crash.proofs.KeptIndex.{work_keeps}

-- ---- the logical contents, as an abstract map

-- the abstract map of these contents
abbrev seen : State → Payloads → AbstractState
seen s map = record { map = map; ledgers = s.ledgers; active = s.caches.active; flush = s.caches.flush; fronts = s.fronts }

seen_refines : (s : State) (map : Payloads) → IsContents map s → StoreRefines s (seen s map)
seen_refines s map means = record { meaning = means; ledgers = refl; active = refl; flush = refl; fronts = refl }

-- The contents of a store are the map that it refines.
contents_of : (s : State) (p : AbstractState) → StoreRefines s p → (key : EntryKey) → contents_at s key ≡ finite.get p.map key
contents_of s p agrees key =
    (λ i. cond (set.contains (agrees.ledgers i).dead key.ledger) None
    (option_or (option_or (finite.get (agrees.active i) key) (finite.get (unwrap_or (agrees.flush i) finite.empty) key)) (finite.get (scan_of s.files) key)))
    ∙ sym (agrees.meaning key)

map_after_work : (a : Answer) (p : AbstractState) → (abstract_after_work a p).map ≡ p.map
map_after_work (answers.Swap Running) p = refl
map_after_work (answers.Swap Nothing) p = refl
map_after_work (answers.Swap (Swapped n)) p = refl
map_after_work (answers.Publish (Ok (Published n))) p = refl
map_after_work (answers.Publish _) p = refl
map_after_work _ p = refl

-- ---- steps that change no entry

-- A ledger that is live after the step was so before.
lives_before : (step : Step) (dead : Ledgers) (ledger : ℕ) → set.contains (dead_after step dead) ledger ≡ false → set.contains dead ledger ≡ false
lives_before (steps.Delete deleted) dead ledger is = (still_lives dead deleted ledger is).1
lives_before _ dead ledger is = is

pub keeps_itself : (s t : State) (step : Step) → t ≡ s → KeepsPublished s step t
keeps_itself s t step same = subst (λ (x : State). KeepsPublished s step x) (sym same) (record {
  lives = λ ledger is. lives_before step s.ledgers.dead ledger is;
  published = λ key there live. (there, refl);
  accepted = λ key payload is. inl is;
})

pub keeps_work : (s t : State) (map : Payloads) (work : Work) (a : Answer) → SatisfiesInvariant s → IsTrue s.honest → IsContents map s → WorkTransition s work a t
    → CoreUnchanged s t → ((p : AbstractState) → StoreRefines s p → StoreRefines t (abstract_after_work a p)) → KeepsPublished s (steps.Work work) t
keeps_work s t map work a kept honest means turn stays plain =
    let p = seen s map in
    let same : (key : EntryKey) → contents_at t key ≡ contents_at s key =
    λ key. contents_of t (abstract_after_work a p) (plain p (seen_refines s map means)) key
    ∙ ap (λ (m : Payloads). finite.get m key) (map_after_work a p) ∙ means key in
    record {
      lives = λ ledger is. ap (λ l. set.contains l.dead ledger) stays.ledgers ∙ is;
      published = λ key there live. (work_keeps s t work a kept honest turn key there, same key);
      accepted = λ key payload is. inl (sym (same key) ∙ is);
    }

pub keeps_taken : {V : Type 0} (bytes : V → List ℕ) (honest sound : V → Bool) (s t : State) (step : Step) (key : EntryKey) (r : Result (Taken V) TakeFault)
    → TakeTransition bytes honest sound s key r t → KeepsPublished s step t
keeps_taken bytes honest sound s t step key (Ok Deleted) turn = keeps_itself s t step turn.1
keeps_taken bytes honest sound s t step key (Ok (Cached payload)) turn = keeps_itself s t step turn.2
keeps_taken bytes honest sound s t step key (Ok NotHeld) turn = keeps_itself s t step turn.3
keeps_taken bytes honest sound s t step key (Ok (Leased lease place)) turn = subst (λ (x : State). KeepsPublished s step x) (sym turn.2) (record {
  lives = λ ledger is. lives_before step s.ledgers.dead ledger is;
  published = λ key there live. (there, refl);
  accepted = λ key payload is. inl is;
})
keeps_taken bytes honest sound s t step key (Err take_faults.NoSeat) turn = keeps_itself s t step turn.2
keeps_taken bytes honest sound s t step key (Err take_faults.TooMany) turn = keeps_itself s t step turn.3
keeps_taken bytes honest sound s t step key (Err take_faults.Memory) turn = keeps_itself s t step turn.2

-- A take changes at most the leases.
pub takes_lease : {V : Type 0} (bytes : V → List ℕ) (honest sound : V → Bool) (s t : State) (key : EntryKey) (r : Result (Taken V) TakeFault)
    → TakeTransition bytes honest sound s key r t → t ≡ record s { keeper = t.keeper }
takes_lease bytes honest sound s t key (Ok Deleted) turn = turn.1 ∙ ap (λ (x : State). record s { keeper = x.keeper }) (sym turn.1)
takes_lease bytes honest sound s t key (Ok (Cached payload)) turn = turn.2 ∙ ap (λ (x : State). record s { keeper = x.keeper }) (sym turn.2)
takes_lease bytes honest sound s t key (Ok NotHeld) turn = turn.3 ∙ ap (λ (x : State). record s { keeper = x.keeper }) (sym turn.3)
takes_lease bytes honest sound s t key (Ok (Leased lease place)) turn = turn.2 ∙ ap (λ (x : State). record s { keeper = x.keeper }) (sym turn.2)
takes_lease bytes honest sound s t key (Err take_faults.NoSeat) turn = turn.2 ∙ ap (λ (x : State). record s { keeper = x.keeper }) (sym turn.2)
takes_lease bytes honest sound s t key (Err take_faults.TooMany) turn = turn.3 ∙ ap (λ (x : State). record s { keeper = x.keeper }) (sym turn.3)
takes_lease bytes honest sound s t key (Err take_faults.Memory) turn = turn.2 ∙ ap (λ (x : State). record s { keeper = x.keeper }) (sym turn.2)

pub keeps_fenced : (s t : State) (step : Step) (ledger : ℕ) (r : Result Fence FenceFault) → FenceTransition s ledger r t → KeepsPublished s step t
keeps_fenced s t step ledger (Err fence_faults.Deleted) turn = keeps_itself s t step turn.1
keeps_fenced s t step ledger (Ok fences.AlreadyFenced) turn = keeps_itself s t step turn.2
keeps_fenced s t step ledger (Err fence_faults.Memory) turn = keeps_itself s t step turn.2
keeps_fenced s t step ledger (Ok fences.Fenced) turn = subst (λ (x : State). KeepsPublished s step x) (sym turn.2) (record {
  lives = λ ledger is. lives_before step s.ledgers.dead ledger is;
  published = λ key there live. (there, refl);
  accepted = λ key payload is. inl is;
})

-- ---- a deletion

pub keeps_deleted : (s t : State) (map : Payloads) (ledger : ℕ) (r : Result ℕ DeleteFault) → SatisfiesInvariant s → IsTrue s.honest → IsContents map s
    → DeleteTransition s ledger r t → KeepsPublished s (steps.Delete ledger) t
keeps_deleted s t map ledger (Err delete_faults.AlreadyDeleted) kept honest means turn = keeps_itself s t (steps.Delete ledger) turn.1
keeps_deleted s t map ledger (Err delete_faults.Memory) kept honest means turn = keeps_itself s t (steps.Delete ledger) turn.1
keeps_deleted s t map ledger (Ok n) kept honest means turn =
    let done = deleted_plain s t (seen s map) kept honest (seen_refines s map means) ledger (Ok n) turn in
    let now : (key : EntryKey) → contents_at t key ≡ finite.get (without_ledger map ledger) key =
    λ key. contents_of t done.0 done.2 key ∙ ap (λ (q : AbstractState). finite.get q.map key) done.1.2 in
    record {
      lives = λ other is. ap (λ (x : State). set.contains x.ledgers.dead other) turn.2 ∙ is;
      published = λ key there live.
          let apart = (still_lives s.ledgers.dead ledger key.ledger (sym (ap (λ (x : State). set.contains x.ledgers.dead key.ledger) turn.2) ∙ live)).0 in (
            subst (λ (o : Option Place). IsSome o) (sym (ap (λ (x : State). finite.get x.index key) turn.2 ∙ left_same s.index ledger key apart)) there,
            now key ∙ left_same map ledger key apart ∙ means key,
          );
      accepted = λ key payload is. inl (sym (means key) ∙ (left_cases map ledger key payload (sym (now key) ∙ is)).1);
    }

-- ---- an add

neither : (a b : Bool) → (a || b) ≡ false → b ≡ true → ⊥
neither true b none is = cc
neither false b none is = cc

pub keeps_added : (s t : State) (map : Payloads) (step : Step) (kind : AddKind) (payload : List ℕ) (r : Result Added AddFault)
    → ((key : EntryKey) → read_added payload ≡ Ok key → Adds step key payload) → ((dead : Ledgers) → dead_after step dead ≡ dead)
    → SatisfiesInvariant s → IsTrue s.honest → IsContents map s → AddTransition s kind payload r t → KeepsPublished s step t
keeps_added s t map step kind payload (Err (add_faults.Bad fault)) adds lives kept honest means turn = keeps_itself s t step turn.1
keeps_added s t map step kind payload (Err add_faults.Deleted) adds lives kept honest means turn = keeps_itself s t step turn.3
keeps_added s t map step kind payload (Err add_faults.Fenced) adds lives kept honest means turn = keeps_itself s t step turn.4
keeps_added s t map step kind payload (Ok Held) adds lives kept honest means turn = keeps_itself s t step turn.1
keeps_added s t map step kind payload (Err (add_faults.Full used limit)) adds lives kept honest means turn = keeps_itself s t step turn.4
keeps_added s t map step kind payload (Err add_faults.Memory) adds lives kept honest means turn = keeps_itself s t step turn.2
keeps_added s t map step kind payload (Ok (Accepted receipt)) adds lives kept honest means turn =
    let done = added_plain s t (seen s map) kept honest (seen_refines s map means) kind payload (Ok (Accepted receipt)) turn in
    let added : EntryKey = done.1.0 in
    let named : turn.0.key ≡ added = (let e : Ok turn.0.key ≡ Ok added = sym turn.0.reads ∙ done.1.1.live.reads in cc) in
    let now : (key : EntryKey) → contents_at t key ≡ finite.get (finite.insert map added payload) key =
    λ key. contents_of t done.0 done.2 key ∙ ap (λ (q : AbstractState). finite.get q.map key) done.1.4 in
    record {
      lives = λ ledger is. ap (λ (x : State). set.contains x.ledgers.dead ledger) turn.3 ∙ ap (λ d. set.contains d ledger) (sym (lives s.ledgers.dead)) ∙ is;
      published = λ key there live. elim (same_key key added) [
        | inl here ↦ absurd (neither (is_some (written_at s turn.0.key)) (is_some (finite.get s.index turn.0.key)) turn.0.held
            (ap (λ (k : EntryKey). is_some (finite.get s.index k)) (named ∙ sym here) ∙ there))
        | inr apart ↦ (
          subst (λ (o : Option Place). IsSome o) (sym (ap (λ (x : State). finite.get x.index key) turn.3)) there,
          now key ∙ get-insert_other map added payload key apart ∙ means key,
        )
      ];
      accepted = λ key w is. elim (inserted_cases map added payload key w (sym (now key) ∙ is)) [
        | inl own ↦ inr (subst (λ (x : List ℕ). Adds step key x) own.1 (subst (λ (k : EntryKey). Adds step k payload) (sym own.0) (adds added done.1.1.live.reads)))
        | inr other ↦ inl (sym (means key) ∙ other.1)
      ];
    }

-- ---- the crash

-- Crash safety after a step, in terms of the store before it.
pub survives_step : (synced gone : Files) (s t : State) (step : Step) (map : Payloads) → SatisfiesInvariant s → IsTrue s.honest → IsContents map s
    → KeepsPublished s step t → SurvivesCrash synced gone t → SurvivesStep t.files gone synced s step
survives_step synced gone s t step map kept honest means keeps safe = (
  map,
  means,
  λ left settings dead opened leaves opens stay.
      let still : StayDead t.ledgers.dead opened.ledgers.dead = λ ledger is_id live. keeps.lives ledger (stay ledger is_id live) in
      let done = safe.2 left settings dead opened leaves opens still in (
        done.0,
        (
          done.1.0,
          record {
            published = λ key there live.
                let stays = keeps.published key there (still key.ledger (published_id s kept honest key there) live) in
                let has = done.1.1.published key stays.0 live in
                (has.0, means key ∙ sym stays.1 ∙ sym (safe.1 key) ∙ has.1, has.2);
            accepted = λ key payload is. elim (keeps.accepted key payload (sym (safe.1 key) ∙ done.1.1.accepted key payload is)) [
              | inl before ↦ inl (means key ∙ before)
              | inr added ↦ inr added
            ];
          },
        ),
      ),
)
