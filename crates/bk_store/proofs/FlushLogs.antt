-- The logs of a flush are changed one after another by a rule, by their states, and
-- so all logs are.
use Rattle.std.proofs.Common.{◌≡◌, ◌≢◌, ◌⊎◌, inl, inr, ℕ, List, [], ◌∷◌, ◌++◌, Bool, true, false, cond, nat_eq, Option}
use Rattle.std.proofs.Common.{Some, None, option_map, refl, sym, ap, subst, ◌∙◌, ◌≤◌, length, take}
use Rattle.std.proofs.lemmas.List.{take_all}
use Rattle.std.specs.FinMap as finite
use Rattle.std.specs.List.{filter}
use Rattle.std.specs.Option.{option_eq}
use Rattle.std.proofs.lemmas.Bool.{eqb-true, eq-eqb}
use Rattle.bk_record.specs.Files.{In}
use Rattle.bk_record.proofs.Growth.{In-push_cases}
use Rattle.bk_store.specs.Logs.{Log, Logs, AllChanged, IsFlushLog, state_after_restart, state_after_flush}
use Rattle.bk_store.specs.declared.log.LogState.{LogState}
use Rattle.bk_store.specs.declared.log.LogState.TheVariants.{Writing, Filled, Copying, Readable, Retired, Closed}
use Rattle.bk_store.proofs.Cases.{some_or_none, same_or_apart}
use Rattle.bk_store.proofs.LogMaps.{log-inserted, log-insert_else}

-- the rule twice is the rule once, and it leaves a log that no flush wrote
pub record IsSettling (rule : LogState → Log → Log) : Type 0 where
  pub twice : (log : Log) → rule (rule log.state log).state (rule log.state log) ≡ rule log.state log
  pub leaves : (log : Log) → ¬ ((log.state ≡ Writing) ⊎ (log.state ≡ Filled)) → rule log.state log ≡ log

settled_twice : (s : LogState) (log : Log) → log.state ≡ s → state_after_restart (state_after_restart s log).state (state_after_restart s log) ≡ state_after_restart s log
settled_twice Writing log is = refl
settled_twice Filled log is = refl
settled_twice Copying log is = ap (λ s. state_after_restart s log) is
settled_twice Readable log is = ap (λ s. state_after_restart s log) is
settled_twice Retired log is = ap (λ s. state_after_restart s log) is
settled_twice Closed log is = ap (λ s. state_after_restart s log) is

settled_leaves : (s : LogState) (log : Log) → log.state ≡ s → ¬ ((log.state ≡ Writing) ⊎ (log.state ≡ Filled)) → state_after_restart s log ≡ log
settled_leaves Writing log is other = absurd (other (inl is))
settled_leaves Filled log is other = absurd (other (inr is))
settled_leaves Copying log is other = refl
settled_leaves Readable log is other = refl
settled_leaves Retired log is other = refl
settled_leaves Closed log is other = refl

pub settling : IsSettling state_after_restart
settling = record { twice = λ log. settled_twice log.state log refl; leaves = λ log. settled_leaves log.state log refl }

unfilled_twice : (s : LogState) (log : Log) → log.state ≡ s → state_after_flush (state_after_flush s log).state (state_after_flush s log) ≡ state_after_flush s log
unfilled_twice Writing log is = ap (λ s. state_after_flush s log) is
unfilled_twice Filled log is = refl
unfilled_twice Copying log is = ap (λ s. state_after_flush s log) is
unfilled_twice Readable log is = ap (λ s. state_after_flush s log) is
unfilled_twice Retired log is = ap (λ s. state_after_flush s log) is
unfilled_twice Closed log is = ap (λ s. state_after_flush s log) is

unfilled_leaves : (s : LogState) (log : Log) → log.state ≡ s → ¬ ((log.state ≡ Writing) ⊎ (log.state ≡ Filled)) → state_after_flush s log ≡ log
unfilled_leaves Writing log is other = refl
unfilled_leaves Filled log is other = absurd (other (inr is))
unfilled_leaves Copying log is other = refl
unfilled_leaves Readable log is other = refl
unfilled_leaves Retired log is other = refl
unfilled_leaves Closed log is other = refl

pub unfilling : IsSettling state_after_flush
unfilling = record { twice = λ log. unfilled_twice log.state log refl; leaves = λ log. unfilled_leaves log.state log refl }

-- each log was changed, or it is as it was and was not met yet
abbrev pub ChangedSoFar : (LogState → Log → Log) → Logs → Logs → List ℕ → Type 0
ChangedSoFar rule old now met = (id : ℕ)
    → (finite.get now id ≡ option_map (λ log. rule log.state log) (finite.get old id)) ⊎ ((finite.get now id ≡ finite.get old id) × ¬ (In id met))

met_else : (met : List ℕ) (id q : ℕ) → q ≢ id → ¬ (In q met) → ¬ (In q (met ++ id ∷ []))
met_else met id q apart unmet there = elim (In-push_cases q id met there) [ inl before ↦ unmet before | inr here ↦ apart (sym here) ]

module _ (rule : LogState → Log → Log) (settles : IsSettling rule) (old now : Logs) (met : List ℕ) (so_far : ChangedSoFar rule old now met) (id : ℕ) where
  others_go_on : (now' : Logs) (q : ℕ) → q ≢ id → finite.get now' q ≡ finite.get now q
      → (finite.get now' q ≡ option_map (λ log. rule log.state log) (finite.get old q))
      ⊎ ((finite.get now' q ≡ finite.get old q) × ¬ (In q (met ++ id ∷ [])))
  others_go_on now' q apart same = elim (so_far q) [
    | inl changed ↦ inl (same ∙ changed)
    | inr kept ↦ inr (same ∙ kept.0, met_else met id q apart kept.1)
  ]

  ruled : (log : Log) (o : Option Log) → Some log ≡ option_map (λ l. rule l.state l) o → Some (rule log.state log) ≡ option_map (λ l. rule l.state l) o
  ruled log None is = cc
  ruled log (Some l) is =
      let same : log ≡ rule l.state l = cc in
      let again : rule log.state log ≡ rule l.state l = ap (λ (x : Log). rule x.state x) same ∙ settles.twice l in
      ap (λ (x : Log). Some x) again

  met_here : (log : Log) → finite.get now id ≡ Some log → Some (rule log.state log) ≡ option_map (λ l. rule l.state l) (finite.get old id)
  met_here log held = elim (so_far id) [
    | inr kept ↦ ap (option_map (λ (l : Log). rule l.state l)) (sym held ∙ kept.0)
    | inl changed ↦ ruled log (finite.get old id) (sym held ∙ changed)
  ]

  pub log_met : (log : Log) → finite.get now id ≡ Some log → ChangedSoFar rule old (finite.insert now id (rule log.state log)) (met ++ id ∷ [])
  log_met log held q = elim (same_or_apart q id) [
    | inr apart ↦ others_go_on (finite.insert now id (rule log.state log)) q apart (log-insert_else now id (rule log.state log) q apart)
    | inl here ↦ inl (log-inserted now id (rule log.state log) q here ∙ met_here log held
        ∙ ap (λ i. option_map (λ (l : Log). rule l.state l) (finite.get old i)) (sym here))
  ]

  none_here : finite.get now id ≡ None → None ≡ option_map (λ l. rule l.state l) (finite.get old id)
  none_here none = elim (so_far id) [
    | inr kept ↦ ap (option_map (λ (l : Log). rule l.state l)) (sym none ∙ kept.0)
    | inl changed ↦ sym none ∙ changed
  ]

  pub none_there : finite.get now id ≡ None → ChangedSoFar rule old now (met ++ id ∷ [])
  none_there none q = elim (same_or_apart q id) [
    | inr apart ↦ others_go_on now q apart refl
    | inl here ↦ inl (ap (finite.get now) here ∙ none ∙ none_here none
        ∙ ap (λ i. option_map (λ (l : Log). rule l.state l) (finite.get old i)) (sym here))
  ]

-- if all logs of the flush were met, all logs are changed
pub all_met : (rule : LogState → Log → Log) → IsSettling rule → (old now : Logs) (met : List ℕ) → ChangedSoFar rule old now met
    → ((id : ℕ) → IsFlushLog old id → In id met) → AllChanged rule old now
all_met rule settles old now met so_far all id = elim (so_far id) [
  | inl changed ↦ changed
  | inr kept ↦ kept.0 ∙ elim (some_or_none (finite.get old id)) [
    | inl none ↦ none ∙ sym (ap (option_map (λ log. rule log.state log)) none)
    | inr there ↦ there.1
        ∙ ap (λ x. Some x) (sym (settles.leaves there.0 (λ flushed. kept.1 (all id (record { log = there.0; held = there.1; flushed = flushed })))))
        ∙ sym (ap (option_map (λ log. rule log.state log)) there.1)
  ]
]

-- the same of a table that was walked over to its end
pub all_over : (rule : LogState → Log → Log) → IsSettling rule → (table old now : Logs) (ids : List ℕ) (n : ℕ) → table ≡ old → length ids ≤ n
    → ChangedSoFar rule table now (take n ids) → ((id : ℕ) → IsFlushLog old id → In id ids) → AllChanged rule old now
all_over rule settles table old now ids n same past so_far all =
    all_met rule settles old now ids
    (subst (λ l. ChangedSoFar rule old now l) (take_all n ids past) (subst (λ m. ChangedSoFar rule m now (take n ids)) same so_far)) all

-- ---- the list of them

pub still_in : (p : ℕ → Bool) (x : ℕ) (xs : List ℕ) → In x xs → p x ≡ true → In x (filter p xs)
still_in p x [] there passes = absurd there
still_in p x (y ∷ ys) there passes = elim (p y) as (λ b. p y ≡ b → In x (cond b (y ∷ filter p ys) (filter p ys))) [
  | true ↦ λ _. elim there [ inl here ↦ inl here | inr later ↦ inr (still_in p x ys later passes) ]
  | false ↦ λ fails. elim there [
    | inl here ↦ absurd (let both : true ≡ false = sym passes ∙ ap p (sym here) ∙ fails in cc)
    | inr later ↦ still_in p x ys later passes
  ]
] refl

-- what is left of a list passes
pub passes_in : (p : ℕ → Bool) (x : ℕ) (xs : List ℕ) → In x (filter p xs) → p x ≡ true
passes_in p x [] there = absurd there
passes_in p x (y ∷ ys) there = elim (p y) as (λ b. p y ≡ b → In x (cond b (y ∷ filter p ys) (filter p ys)) → p x ≡ true) [
  | true ↦ λ passes now. elim now [ inl here ↦ ap p (sym here) ∙ passes | inr later ↦ passes_in p x ys later ]
  | false ↦ λ fails now. passes_in p x ys now
] refl there

pub some_equal : (o : Option ℕ) (id : ℕ) → option_eq nat_eq (Some id) o ≡ true → o ≡ Some id
some_equal None id is = cc
some_equal (Some n) id is = ap (λ x. Some x) (sym (eqb-true id n is))

pub equal_some : (o : Option ℕ) (id : ℕ) → o ≡ Some id → option_eq nat_eq (Some id) o ≡ true
equal_some o id is = ap (option_eq nat_eq (Some id)) is ∙ eq-eqb id id refl
