-- All logs that are held change by a rule, by their states: what each preserves.
use Rattle.std.proofs.Common.{◌≡◌, ◌⊎◌, inl, inr, ℕ, true, false, cond, ◌&&◌, T, List, [], ◌∷◌, map, length}
use Rattle.std.proofs.Common.{Some, None, option_map, refl, sym, ap, subst, ◌∙◌}
use Rattle.std.specs.Prelude.{suc}
use Rattle.std.specs.Ordering.{nat_cmp, eq_by_cmp, is_lt}
use Rattle.std.specs.FinMap as finite
use Rattle.std.specs.FinMap.{find, is_sorted, nat_cmp-IsAntisymmetric}
use Rattle.std.specs.FinMap.Entries.{below_all}
use Rattle.std.proofs.lemmas.Cmp.{nat_cmp_total}
use Rattle.bk_log.specs.Writing as writers
use Rattle.bk_store.specs.Logs.{Log, is_open, is_written, state_after_restart, state_after_flush}
use Rattle.bk_store.specs.SlotAssignment.{slot_state}
use Rattle.bk_store.specs.Invariant.{HeldLogInvariant}
use Rattle.bk_store.specs.declared.log.LogState.{LogState}
use Rattle.bk_store.specs.declared.log.LogState.TheVariants.{Writing, Filled, Copying, Readable, Retired, Closed}

module _ {X : Type 0} (f : X → X) where
  abbrev each : List (ℕ × X) → List (ℕ × X)
  each es = map (λ e. (e.0, f e.1)) es

  each_below : (x : ℕ) (es : List (ℕ × X)) → below_all nat_cmp x (each es) ≡ below_all nat_cmp x es
  each_below x [] = refl
  each_below x (e ∷ es) = ap (λ b. is_lt (nat_cmp x e.0) && b) (each_below x es)

  each_sorted : (es : List (ℕ × X)) → is_sorted nat_cmp (each es) ≡ is_sorted nat_cmp es
  each_sorted [] = refl
  each_sorted (e ∷ es) = (λ i. each_below e.0 es i && each_sorted es i)

  each_found : (q : ℕ) (es : List (ℕ × X)) → find nat_cmp q (each es) ≡ option_map f (find nat_cmp q es)
  each_found q [] = refl
  each_found q (e ∷ es) = elim (eq_by_cmp nat_cmp q e.0) as (λ b. cond b (Some (f e.1)) (find nat_cmp q (each es))
      ≡ option_map f (cond b (Some e.1) (find nat_cmp q es))) [
        | true ↦ refl
        | false ↦ each_found q es
      ]

  each_length : (es : List (ℕ × X)) → length (each es) ≡ length es
  each_length [] = refl
  each_length (e ∷ es) = ap (λ n. suc n) (each_length es)

  -- a map whose values all changed has as many
  pub changed_len : (old new : finite.FinMap nat_cmp X) → ((q : ℕ) → finite.get new q ≡ option_map f (finite.get old q)) → finite.len new ≡ finite.len old
  changed_len old new changed =
      let es = finite.entries old in
      let sorted : T (is_sorted nat_cmp (each es)) = subst T (sym (each_sorted es)) (finite.entries_sorted old) in
      let made = finite.from_sorted {R = nat_cmp} (each es) in
      let same : made ≡ new = finite.same_map nat_cmp_total nat_cmp-IsAntisymmetric made new (λ q.
      finite.get-from_sorted nat_cmp (each es) q sorted ∙ each_found q es ∙ ap (option_map f) (sym (finite.get-entries old q)) ∙ sym (changed q)) in
      ap finite.len (sym same) ∙ finite.len-entries made ∙ ap length (finite.entries-from_sorted nat_cmp (each es) sorted)
      ∙ each_length es ∙ sym (finite.len-entries old)

-- ---- a rule that leaves what a log shows and what of it is acknowledged

pub record IsMild (rule : LogState → Log → Log) : Type 0 where
  pub view : (log : Log) → (rule log.state log).view ≡ log.view
  pub slot : (log : Log) → (rule log.state log).slot ≡ log.slot
  pub seat : (id : ℕ) (log : Log) → slot_state id (rule log.state log).state ≡ slot_state id log.state
  pub acknowledged : (log : Log) → (rule log.state log).acknowledged ≡ log.acknowledged
  pub opened : (log : Log) → is_open (rule log.state log).state ≡ is_open log.state
  pub held : (next id : ℕ) (log : Log) → HeldLogInvariant next id log → HeldLogInvariant next id (rule log.state log)
  pub writer : (log : Log) (w : writers.Writing) → (rule log.state log).writer ≡ Some w → log.writer ≡ Some w
  pub writing : (log : Log) → (rule log.state log).state ≡ Writing → log.state ≡ Writing
  pub filled : (log : Log) → ¬ ((rule log.state log).state ≡ Filled)

-- a log that is Readable, and written no more
held_unwritten : (next id : ℕ) (log new : Log) → new.state ≡ Readable → new.writer ≡ None → HeldLogInvariant next id log → HeldLogInvariant next id new
held_unwritten next id log new state none was = record {
  below = was.below;
  written = λ wrong. absurd (let both : true ≡ false = sym wrong ∙ ap is_written state in cc);
  by = λ w is. absurd (let both : None ≡ Some w = sym none ∙ is in cc);
}

-- a Filled log has no writer
filled_none : (next id : ℕ) (log : Log) → log.state ≡ Filled → HeldLogInvariant next id log → log.writer ≡ None
filled_none next id log is was = elim (log.writer) as (λ o. log.writer ≡ o → o ≡ None) [
  | None ↦ λ _. refl
  | Some w ↦ λ there. absurd (let by = was.by w there in let both : true ≡ false = sym by.state ∙ ap is_written is in cc)
] refl

settled_held : (s : LogState) (next id : ℕ) (log : Log) → log.state ≡ s → HeldLogInvariant next id log → HeldLogInvariant next id (state_after_restart s log)
settled_held Writing next id log is was = held_unwritten next id log (state_after_restart Writing log) refl refl was
settled_held Filled next id log is was = held_unwritten next id log (state_after_restart Filled log) refl (filled_none next id log is was) was
settled_held Copying next id log is was = was
settled_held Readable next id log is was = was
settled_held Retired next id log is was = was
settled_held Closed next id log is was = was

unfilled_held : (s : LogState) (next id : ℕ) (log : Log) → log.state ≡ s → HeldLogInvariant next id log → HeldLogInvariant next id (state_after_flush s log)
unfilled_held Writing next id log is was = was
unfilled_held Filled next id log is was = held_unwritten next id log (state_after_flush Filled log) refl (filled_none next id log is was) was
unfilled_held Copying next id log is was = was
unfilled_held Readable next id log is was = was
unfilled_held Retired next id log is was = was
unfilled_held Closed next id log is was = was

settled_slot : (s : LogState) (log : Log) → (state_after_restart s log).slot ≡ log.slot
settled_slot Writing log = refl
settled_slot Filled log = refl
settled_slot Copying log = refl
settled_slot Readable log = refl
settled_slot Retired log = refl
settled_slot Closed log = refl

settled_seat : (id : ℕ) (s : LogState) (log : Log) → log.state ≡ s → slot_state id (state_after_restart s log).state ≡ slot_state id s
settled_seat id Writing log is = refl
settled_seat id Filled log is = refl
settled_seat id Copying log is = ap (slot_state id) is
settled_seat id Readable log is = ap (slot_state id) is
settled_seat id Retired log is = ap (slot_state id) is
settled_seat id Closed log is = ap (slot_state id) is

settled_opened : (s : LogState) (log : Log) → log.state ≡ s → is_open (state_after_restart s log).state ≡ is_open s
settled_opened Writing log is = refl
settled_opened Filled log is = refl
settled_opened Copying log is = ap is_open is
settled_opened Readable log is = ap is_open is
settled_opened Retired log is = ap is_open is
settled_opened Closed log is = ap is_open is

unfilled_opened : (s : LogState) (log : Log) → log.state ≡ s → is_open (state_after_flush s log).state ≡ is_open s
unfilled_opened Writing log is = ap is_open is
unfilled_opened Filled log is = refl
unfilled_opened Copying log is = ap is_open is
unfilled_opened Readable log is = ap is_open is
unfilled_opened Retired log is = ap is_open is
unfilled_opened Closed log is = ap is_open is

settled_view : (s : LogState) (log : Log) → (state_after_restart s log).view ≡ log.view
settled_view Writing log = refl
settled_view Filled log = refl
settled_view Copying log = refl
settled_view Readable log = refl
settled_view Retired log = refl
settled_view Closed log = refl

settled_acknowledged : (s : LogState) (log : Log) → (state_after_restart s log).acknowledged ≡ log.acknowledged
settled_acknowledged Writing log = refl
settled_acknowledged Filled log = refl
settled_acknowledged Copying log = refl
settled_acknowledged Readable log = refl
settled_acknowledged Retired log = refl
settled_acknowledged Closed log = refl

settled_writer : (s : LogState) (log : Log) (w : writers.Writing) → (state_after_restart s log).writer ≡ Some w → log.writer ≡ Some w
settled_writer Writing log w wrong = cc
settled_writer Filled log w is = is
settled_writer Copying log w is = is
settled_writer Readable log w is = is
settled_writer Retired log w is = is
settled_writer Closed log w is = is

pub settled_unflushed : (s : LogState) (log : Log) → log.state ≡ s → ¬ (((state_after_restart s log).state ≡ Writing) ⊎ ((state_after_restart s log).state ≡ Filled))
settled_unflushed Writing log is (inl wrong) = cc
settled_unflushed Writing log is (inr wrong) = cc
settled_unflushed Filled log is (inl wrong) = cc
settled_unflushed Filled log is (inr wrong) = cc
settled_unflushed Copying log is (inl wrong) = cc
settled_unflushed Copying log is (inr wrong) = cc
settled_unflushed Readable log is (inl wrong) = cc
settled_unflushed Readable log is (inr wrong) = cc
settled_unflushed Retired log is (inl wrong) = cc
settled_unflushed Retired log is (inr wrong) = cc
settled_unflushed Closed log is (inl wrong) = cc
settled_unflushed Closed log is (inr wrong) = cc

pub settled_mild : IsMild state_after_restart
settled_mild = record {
  view = λ log. settled_view log.state log;
  slot = λ log. settled_slot log.state log;
  seat = λ id log. settled_seat id log.state log refl;
  acknowledged = λ log. settled_acknowledged log.state log;
  opened = λ log. settled_opened log.state log refl;
  held = λ next id log. settled_held log.state next id log refl;
  writer = λ log. settled_writer log.state log;
  writing = λ log wrong. absurd (settled_unflushed log.state log refl (inl wrong));
  filled = λ log wrong. settled_unflushed log.state log refl (inr wrong);
}

unfilled_slot : (s : LogState) (log : Log) → (state_after_flush s log).slot ≡ log.slot
unfilled_slot Writing log = refl
unfilled_slot Filled log = refl
unfilled_slot Copying log = refl
unfilled_slot Readable log = refl
unfilled_slot Retired log = refl
unfilled_slot Closed log = refl

unfilled_seat : (id : ℕ) (s : LogState) (log : Log) → log.state ≡ s → slot_state id (state_after_flush s log).state ≡ slot_state id s
unfilled_seat id Writing log is = ap (slot_state id) is
unfilled_seat id Filled log is = refl
unfilled_seat id Copying log is = ap (slot_state id) is
unfilled_seat id Readable log is = ap (slot_state id) is
unfilled_seat id Retired log is = ap (slot_state id) is
unfilled_seat id Closed log is = ap (slot_state id) is

unfilled_view : (s : LogState) (log : Log) → (state_after_flush s log).view ≡ log.view
unfilled_view Writing log = refl
unfilled_view Filled log = refl
unfilled_view Copying log = refl
unfilled_view Readable log = refl
unfilled_view Retired log = refl
unfilled_view Closed log = refl

unfilled_acknowledged : (s : LogState) (log : Log) → (state_after_flush s log).acknowledged ≡ log.acknowledged
unfilled_acknowledged Writing log = refl
unfilled_acknowledged Filled log = refl
unfilled_acknowledged Copying log = refl
unfilled_acknowledged Readable log = refl
unfilled_acknowledged Retired log = refl
unfilled_acknowledged Closed log = refl

unfilled_writer : (s : LogState) (log : Log) → (state_after_flush s log).writer ≡ log.writer
unfilled_writer Writing log = refl
unfilled_writer Filled log = refl
unfilled_writer Copying log = refl
unfilled_writer Readable log = refl
unfilled_writer Retired log = refl
unfilled_writer Closed log = refl

unfilled_writing : (s : LogState) (log : Log) → log.state ≡ s → (state_after_flush s log).state ≡ Writing → log.state ≡ Writing
unfilled_writing Writing log was is = was
unfilled_writing Filled log was is = cc
unfilled_writing Copying log was is = is
unfilled_writing Readable log was is = is
unfilled_writing Retired log was is = is
unfilled_writing Closed log was is = is

unfilled_not : (s : LogState) (log : Log) → log.state ≡ s → ¬ ((state_after_flush s log).state ≡ Filled)
unfilled_not Writing log was is = cc
unfilled_not Filled log was is = cc
unfilled_not Copying log was is = cc
unfilled_not Readable log was is = cc
unfilled_not Retired log was is = cc
unfilled_not Closed log was is = cc

pub unfilled_mild : IsMild state_after_flush
unfilled_mild = record {
  view = λ log. unfilled_view log.state log;
  slot = λ log. unfilled_slot log.state log;
  seat = λ id log. unfilled_seat id log.state log refl;
  acknowledged = λ log. unfilled_acknowledged log.state log;
  opened = λ log. unfilled_opened log.state log refl;
  held = λ next id log. unfilled_held log.state next id log refl;
  writer = λ log w is. sym (unfilled_writer log.state log) ∙ is;
  writing = λ log. unfilled_writing log.state log refl;
  filled = λ log. unfilled_not log.state log refl;
}
