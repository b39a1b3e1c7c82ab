-- Runs of the machine and the abstract machine side by side: the first state, one run after
-- another, the last state.
use Rattle.std.proofs.Common.{◌≡◌, ℕ, List, ◌++◌, None, Bool, true, false, IsTrue, Result, Ok, Err, cond, not, refl, sym, ap, subst, ◌∙◌}
use Rattle.std.specs.Option.{option_or}
use Rattle.std.specs.FinMap as finite
use Rattle.std.specs.FinSet as set
use Rattle.bk_record.specs.Key.{EntryKey, key_cmp}
use Rattle.bk_record.specs.Files.{Files}
use Rattle.bk_record.specs.Scan.{Payloads, Ledgers, scan_of, live}
use Rattle.bk_record.proofs.Keys.{key_cmp_antisymmetric}
use Rattle.bk_store.specs.State.{State}
use Rattle.bk_cache.specs.Caches as caches
use Rattle.bk_store.specs.Invariant.{ContentInvariant}
use Rattle.bk_store.specs.Transitions.{valid_ledgers, AddTransition, DeleteTransition, FenceTransition, SwapTransition}
use Rattle.bk_store.specs.Opening.{IsOpened}
use Rattle.bk_store.specs.Abstract.{AbstractState, AbstractAdd, AbstractDelete, AbstractFence, abstract_after_swap, SatisfiesInvariant}
use Rattle.bk_store.specs.Abstract as plain
use Rattle.bk_store.specs.declared.settings.Settings.{Settings}
use Rattle.bk_store.specs.declared.adding.AddKind.{AddKind}
use Rattle.bk_store.specs.declared.answer.Added.{Added}
use Rattle.bk_store.specs.declared.answer.Added.TheVariants.{Accepted, Held}
use Rattle.bk_store.specs.declared.answer.AddFault.{AddFault}
use Rattle.bk_store.specs.declared.answer.AddFault.TheVariants as add_faults
use Rattle.bk_store.specs.declared.answer.DeleteFault.{DeleteFault}
use Rattle.bk_store.specs.declared.answer.DeleteFault.TheVariants as delete_faults
use Rattle.bk_store.specs.declared.answer.Fence.{Fence}
use Rattle.bk_store.specs.declared.answer.Fence.TheVariants as fences
use Rattle.bk_store.specs.declared.answer.FenceFault.{FenceFault}
use Rattle.bk_store.specs.declared.answer.FenceFault.TheVariants as fence_faults
use Rattle.bk_cache.specs.declared.swap.Swap.{Swap}
use Rattle.bk_store.proofs.Refinement.{plain_add, plain_delete, plain_fence, plain_swap}
use Rattle.bk_drive.specs.Abstract.{AbstractMachine}
use Rattle.bk_drive.specs.Machine.{MachineState}
use Rattle.bk_drive.specs.Headline.{MachineRefines, Run, initial_machine, initial_abstract, reader_count}
use Rattle.bk_drive.specs.Headline.Run.{stop, step}
use Rattle.bk_drive.specs.declared.step.Step.{Step}
use Rattle.bk_drive.specs.declared.step.Answer.{Answer}
use Rattle.bk_drive.proofs.Leases.{SameLogs, logs_same, leases_first}

-- ---- steps that do not use the device

-- A store that satisfies its invariant and refines the abstract map, on an honest disk.
module _ (s t : State) (p : AbstractState) (kept : SatisfiesInvariant s) (honest : IsTrue s.honest) (agrees : plain.StoreRefines s p) where
  abbrev keeps_promises : ContentInvariant kept.parts
  keeps_promises = kept.keeps.promises (subst (λ (x : State). IsTrue x.honest) (sym kept.seen) honest)

  agrees_seen : plain.StoreRefines kept.parts.state p
  agrees_seen = subst (λ (x : State). plain.StoreRefines x p) (sym kept.seen) agrees

  -- The limit of the active cache is the one in the settings.
  limit_is : kept.parts.state.caches.limit ≡ s.settings.cache_limit
  limit_is = kept.keeps.fits.limits.limit ∙ ap (λ (x : State). x.settings.cache_limit) kept.seen

  pub added_plain : (kind : AddKind) (payload : List ℕ) (r : Result Added AddFault) → AddTransition s kind payload r t
      → (q : AbstractState) × AbstractAdd s.settings.cache_limit kind p payload r q × plain.StoreRefines t q
  added_plain kind payload r turn =
      let done = plain_add kept.parts kept.keeps keeps_promises p agrees_seen t kind payload r
      (subst (λ (x : State). AddTransition x kind payload r t) (sym kept.seen) turn) in
      (done.0, subst (λ limit. AbstractAdd limit kind p payload r done.0) limit_is done.1, done.2)

  pub deleted_plain : (ledger : ℕ) (r : Result ℕ DeleteFault) → DeleteTransition s ledger r t → (q : AbstractState) × AbstractDelete p ledger r q × plain.StoreRefines t q
  deleted_plain ledger r turn =
      plain_delete kept.parts kept.keeps keeps_promises p agrees_seen (subst (λ (x : State). caches.AreApart x.caches) (sym kept.seen) kept.apart) t ledger r
      (subst (λ (x : State). DeleteTransition x ledger r t) (sym kept.seen) turn)

  pub fenced_plain : (ledger : ℕ) (r : Result Fence FenceFault) → FenceTransition s ledger r t → (q : AbstractState) × AbstractFence p ledger r q × plain.StoreRefines t q
  fenced_plain ledger r turn = plain_fence s p agrees t ledger r turn

  pub swapped_plain : (r : Swap) → SwapTransition s r t → plain.StoreRefines t (abstract_after_swap r p)
  swapped_plain r turn =
      plain_swap kept.parts kept.keeps keeps_promises p agrees_seen t r (subst (λ (x : State). SwapTransition x r t) (sym kept.seen) turn)

-- ---- frame conditions

logs_as : {s t u : State} → t ≡ u → SameLogs s u → SameLogs s t
logs_as {s = s} is same = subst (λ (x : State). SameLogs s x) (sym is) same

pub add_logs : (s t : State) (kind : AddKind) (payload : List ℕ) (r : Result Added AddFault) → AddTransition s kind payload r t → SameLogs s t
add_logs s t kind payload (Err (add_faults.Bad fault)) turn = logs_same s t turn.1
add_logs s t kind payload (Err add_faults.Deleted) turn = logs_same s t turn.3
add_logs s t kind payload (Err add_faults.Fenced) turn = logs_same s t turn.4
add_logs s t kind payload (Ok Held) turn = logs_same s t turn.1
add_logs s t kind payload (Err (add_faults.Full used limit)) turn = logs_same s t turn.4
add_logs s t kind payload (Err add_faults.Memory) turn = logs_same s t turn.2
add_logs s t kind payload (Ok (Accepted receipt)) turn = logs_as turn.3 (record { keeper = refl; logs = refl; next = refl })

pub delete_logs : (s t : State) (ledger : ℕ) (r : Result ℕ DeleteFault) → DeleteTransition s ledger r t → SameLogs s t
delete_logs s t ledger (Err delete_faults.AlreadyDeleted) turn = logs_same s t turn.1
delete_logs s t ledger (Err delete_faults.Memory) turn = logs_same s t turn.1
delete_logs s t ledger (Ok n) turn = logs_as turn.2 (record { keeper = refl; logs = refl; next = refl })

pub fence_logs : (s t : State) (ledger : ℕ) (r : Result Fence FenceFault) → FenceTransition s ledger r t → SameLogs s t
fence_logs s t ledger (Err fence_faults.Deleted) turn = logs_same s t turn.1
fence_logs s t ledger (Ok fences.AlreadyFenced) turn = logs_same s t turn.2
fence_logs s t ledger (Err fence_faults.Memory) turn = logs_same s t turn.2
fence_logs s t ledger (Ok fences.Fenced) turn = logs_as turn.2 (record { keeper = refl; logs = refl; next = refl })

-- ---- runs

-- The machine refines the abstract machine at the end of a run.
pub run_end : {limit : ℕ} {d e : MachineState} {p q : AbstractMachine} {ss : List Step} {as' : List Answer} → Run limit d p ss as' e q → MachineRefines e q
run_end (stop agrees) = agrees
run_end (step agreed turn beside later) = run_end later

-- One run after another.
pub run_append : {limit : ℕ} {d e f : MachineState} {p q r : AbstractMachine} {ss ts : List Step} {as' bs : List Answer} → Run limit d p ss as' e q
    → Run limit e q ts bs f r → Run limit d p (ss ++ ts) (as' ++ bs) f r
run_append (stop agreed) later = later
run_append (step agreed turn beside rest) later = step agreed turn beside (run_append rest later)

-- ---- the first state

-- What the live part of a map has of a key.
get-live : (m : Payloads) (dead : Ledgers) (key : EntryKey)
    → finite.get (live m dead) key ≡ cond (set.contains dead key.ledger) None (finite.get m key)
unfolding live
get-live m dead key =
    let lives : EntryKey → Bool = λ k. not (set.contains dead k.ledger) in
    finite.get-retain_keys m lives key (λ x tied. ap lives (sym (key_cmp_antisymmetric key x tied)))
    ∙ elim (set.contains dead key.ledger) as (λ b. cond (not b) (finite.get m key) None ≡ cond b None (finite.get m key)) [ true ↦ refl | false ↦ refl ]

nothing_told : (key : EntryKey)
    → option_or (finite.get {X = List ℕ} {R = key_cmp} finite.empty key) (finite.get {X = List ℕ} {R = key_cmp} finite.empty key) ≡ None
nothing_told key = ap (λ o. option_or o o) (finite.get-empty key_cmp key)

-- A store that was opened on files refines the map of their last entries.
pub first_agrees : (settings : Settings) (files : Files) (dead : List ℕ) (s : State) → IsOpened true files settings dead s
    → MachineRefines (initial_machine s) (initial_abstract files (valid_ledgers dead))
first_agrees settings files dead s opened =
    let same = (opened.holds refl).same in
    record {
      store = record {
        meaning = λ key. get-live (scan_of files) (valid_ledgers dead) key
            ∙ sym (λ i. cond (set.contains (valid_ledgers dead) key.ledger) None (option_or (nothing_told key i) (finite.get (scan_of (same i)) key)));
        ledgers = opened.ledgers_are;
        active = (λ i. (opened.caches_are i).active);
        flush = (λ i. (opened.caches_are i).flush);
        fronts = opened.fronts_are;
      };
      readers = tt;
      leases = leases_first s.keeper reader_count;
    }
