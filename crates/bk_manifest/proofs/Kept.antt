-- What a manifest keeps, over its calls.
use Rattle.std.proofs.Common.{◌≡◌, ℕ, ◌+◌, ◌^◌, ◌<◌, ◌≤◌, Bool, List, [], ◌∷◌, ◌++◌, length, take, fold, refl, sym, ap, subst, ◌∙◌, arith, inl, inr}
use Rattle.std.proofs.lemmas.List.{length-append, length-take}
use Rattle.std.specs.Prelude.{Option, None, Result, Ok, Err, OnErr, IsTrue}
use Rattle.bk_manifest.specs.declared.fault.Fault.{Fault}
use Rattle.bk_manifest.specs.declared.state.State.{State}
use Rattle.bk_manifest.specs.declared.record.Record.{Record}
use Rattle.bk_manifest.specs.Fact.{Fact, fact, facts, AreFacts, body_of}
use Rattle.bk_manifest.specs.Batch.{batch_of}
use Rattle.bk_manifest.specs.File.{written, Content, content_of}
use Rattle.bk_manifest.specs.State.{last_after, last_about, IsStateOf, IsAfter, IsSameState, SameMeaning, HasMemory, HaveMemory, subject_of}
use Rattle.bk_manifest.specs.Keeping.{IsOldOrNew, KeepsFront, facts_found, durable_up_to, IsBelieved, IsKept, HasBatchAt, MeansAt, StillMeans, IsOneOf}
use Rattle.bk_manifest.proofs.Believing.{rewritten_believed, still_believed, same_front, committed}

-- ---- states

fold_append : {X Y : Type 0} (f : Y → X → Y) (a : Y) (xs ys : List X) → fold f a (xs ++ ys) ≡ fold f (fold f a xs) ys
fold_append f a [] ys = refl
fold_append f a (x ∷ xs) ys = fold_append f (f a x) xs ys

pub state_after : (xs ys : List Fact) (old new : State) → IsStateOf xs old → IsAfter old ys new → IsStateOf (xs ++ ys) new
state_after xs ys old new is after =
    λ s. after s ∙ ap (λ (o : Option Fact). fold (last_after s) o ys) (is s) ∙ sym (fold_append (last_after s) None xs ys)

-- ---- what is kept

-- the front that is believed has not changed
pub kept_front : (bytes bytes' : List ℕ) (synced synced' generation stop : ℕ) (honest honest' : Bool) (state : State) (noted : List Fact)
    → IsKept bytes synced honest generation stop state noted → honest' ≡ honest → (IsTrue honest → KeepsFront stop bytes synced bytes' synced')
    → IsKept bytes' synced' honest' generation stop state noted
kept_front bytes bytes' synced synced' generation stop honest honest' state noted k same front = record {
  room = k.room;
  believed = λ now. still_believed bytes bytes' synced synced' generation stop (k.believed (sym same ∙ now)) (front (sym same ∙ now));
  means = λ now.
      subst (λ (t : List ℕ). IsStateOf (facts_found (content_of t)) state) (sym (front (sym same ∙ now)).front) (k.means (sym same ∙ now));
}

-- another state that says the same
pub kept_state : (bytes : List ℕ) (synced generation stop : ℕ) (honest : Bool) (old new : State) (noted noted' : List Fact)
    → IsKept bytes synced honest generation stop old noted → IsSameState old new → HaveMemory new noted' → IsKept bytes synced honest generation stop new noted'
kept_state bytes synced generation stop honest old new noted noted' k same room = record {
  room = room;
  believed = k.believed;
  means = λ now. λ s. same s ∙ k.means now s;
}

-- ---- a rewritten file

pub same_means : (facts others : List Fact) (state : State) → IsStateOf facts state → SameMeaning facts others → IsStateOf others state
same_means facts others state is same = λ s. is s ∙ same s

pub replaced_means : (records : List Fact) (bytes whole : List ℕ) (synced generation end : ℕ) (others : List Fact) → AreFacts others
    → generation < 2 ^ 64 → whole ≡ written generation (others ∷ []) → SameMeaning records others → bytes ≡ whole
    → length bytes ≤ synced → end ≡ length whole → MeansAt bytes synced generation end records
replaced_means records bytes whole synced generation end others legal small is same now all end_is =
    let r = rewritten_believed bytes synced generation others legal small (now ∙ is) all in
    let at : length bytes ≡ end = ap length now ∙ sym end_is in
    subst (λ (n : ℕ). MeansAt bytes synced generation n records) at (record {
      believed = r.believed;
      same = λ s. same s ∙ ap (last_about s) (sym r.records);
    })

-- the old file means what it did, or the new one what these records do
pub old_or_new : (records : List Fact) (bytes whole bytes' : List ℕ) (synced synced' generation stop generation' : ℕ) (others : List Fact)
    → IsBelieved bytes synced generation stop
    → AreFacts others → generation' < 2 ^ 64 → whole ≡ written generation' (others ∷ []) → SameMeaning records others
    → IsOldOrNew bytes synced whole bytes' synced' → IsOneOf bytes' synced' (durable_up_to stop bytes) records
old_or_new records bytes whole bytes' synced synced' generation stop generation' others b legal small is same (inl old) = inl (record {
  generation = generation;
  stop = stop;
  there = record {
    believed = still_believed bytes bytes' synced synced' generation stop b (same_front stop bytes bytes' synced synced' old);
    same = λ s. ap (λ (t : List ℕ). last_about s (durable_up_to stop t)) (sym old.bytes_are);
  };
})
old_or_new records bytes whole bytes' synced synced' generation stop generation' others b legal small is same (inr new) = inr (record {
  generation = generation';
  stop = length whole;
  there = replaced_means records bytes' whole synced' generation' (length whole) others legal small is same new.0
      (subst (λ (t : List ℕ). length t ≤ synced') (sym new.0) new.1) refl;
})

pub still_means : (bytes : List ℕ) (synced generation stop : ℕ) → IsBelieved bytes synced generation stop → StillMeans bytes synced (durable_up_to stop bytes)
still_means bytes synced generation stop b = record { generation = generation; stop = stop; there = record { believed = b; same = λ s. refl } }

pub on_err : {T E : Type 0} (r : Result T E) (P : Type 0) → P → OnErr r P
on_err (Ok x) P p = tt
on_err (Err e) P p = p

-- ---- one batch more

pub record IsCommittedTo (bytes : List ℕ) (stop : ℕ) (noted : List Fact) (bytes' : List ℕ) (synced' generation stop' : ℕ) (state : State) : Type 0 where
  pub believed : IsBelieved bytes' synced' generation stop'
  pub means : IsStateOf (durable_up_to stop' bytes') state
  pub records : durable_up_to stop' bytes' ≡ durable_up_to stop bytes ++ noted

pub commit_kept : (bytes bytes' batch : List ℕ) (synced synced' generation stop stop' : ℕ) (facts noted taken : List Fact) (old new : State)
    → IsBelieved bytes synced generation stop → IsStateOf (durable_up_to stop bytes) old → AreFacts facts → batch ≡ batch_of generation stop (body_of facts)
    → bytes' ≡ take stop bytes ++ batch → length bytes' ≤ synced' → stop' ≡ stop + length batch → facts ≡ noted → taken ≡ noted → IsAfter old taken new
    → IsCommittedTo bytes stop noted bytes' synced' generation stop' new
commit_kept bytes bytes' batch synced synced' generation stop stop' facts noted taken old new b is legal batch_is bytes_is all stop_is same took after =
    let c = committed bytes bytes' batch synced synced' generation stop stop' facts b legal batch_is bytes_is all stop_is in
    let records : durable_up_to stop' bytes' ≡ durable_up_to stop bytes ++ noted =
    c.records ∙ ap (λ (fs : List Fact). durable_up_to stop bytes ++ fs) same in
    let now : IsAfter old noted new = subst (λ (fs : List Fact). IsAfter old fs new) took after in
    record {
      believed = c.believed;
      means = subst (λ (fs : List Fact). IsStateOf fs new) (sym records) (state_after (durable_up_to stop bytes) noted old new is now);
      records = records;
    }

-- one batch more, as the file has it
pub batch_kept : (bytes bytes' : List ℕ) (synced synced' generation stop stop' : ℕ) (facts noted taken : List Fact) (old new : State)
    → IsBelieved bytes synced generation stop → IsStateOf (durable_up_to stop bytes) old → HasBatchAt generation stop stop' facts bytes bytes' synced'
    → facts ≡ noted → taken ≡ noted → IsAfter old taken new → IsCommittedTo bytes stop noted bytes' synced' generation stop' new
batch_kept bytes bytes' synced synced' generation stop stop' facts noted taken old new b is h same took after =
    let batch : List ℕ = batch_of generation stop (body_of facts) in
    let ends : stop' ≡ stop + length (batch_of generation stop (body_of facts)) =
    omega (arith, h.ends, ap length h.bytes_are, length-append (take stop bytes) (batch_of generation stop (body_of facts)), length-take stop bytes, b.inside) in
    commit_kept bytes bytes' batch synced synced' generation stop stop' facts noted taken old new b is h.legal refl h.bytes_are h.covered ends same took after

-- no record more
pub none_after : (state : State) → IsAfter state [] state
none_after state = λ s. refl

pub none_noted : (state : State) (xs : List Record) → xs ≡ [] → HaveMemory state (facts xs)
none_noted state xs is = subst (λ (rs : List Record). HaveMemory state (facts rs)) (sym is) tt

-- one record is noted
pub one_noted : (state : State) (xs : List Record) (one : Record) (none : List Record) → none ≡ [] → xs ≡ none ++ one ∷ [] → HasMemory state (subject_of (fact one))
    → HaveMemory state (facts xs)
one_noted state xs one none is more room =
    subst (λ (rs : List Record). HaveMemory state (facts rs)) (sym (more ∙ ap (λ (rs : List Record). rs ++ one ∷ []) is)) (room, tt)

-- ---- a manifest that was read

pub content_with : (read : Result Content Fault) (generation stop torn : ℕ) (facts others : List Fact)
    → read ≡ Ok (record { generation = generation; facts = facts; stop = stop; torn = torn }) → others ≡ facts
    → read ≡ Ok (record { generation = generation; facts = others; stop = stop; torn = torn })
content_with read generation stop torn facts others is same =
    is ∙ ap (λ (fs : List Fact). Ok (record { generation = generation; facts = fs; stop = stop; torn = torn })) (sym same)
