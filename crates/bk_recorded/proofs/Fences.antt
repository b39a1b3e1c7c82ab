-- Ledgers that are fenced after an opening.
use Rattle.std.proofs.Common.{◌≡◌, ◌⊎◌, inl, inr, ℕ, Bool, true, false, ◌||◌, List, [], ◌∷◌, map, Result, Ok, Err, refl, sym, ap, subst, ◌∙◌}
use Rattle.std.specs.List.{list_any}
use Rattle.std.specs.Ordering.{nat_cmp, eq_by_cmp}
use Rattle.std.specs.Cmp.{nat_cmp_total}
use Rattle.std.specs.FinSet as set
use Rattle.std.specs.FinMap.{nat_cmp-IsAntisymmetric}
use Rattle.std.proofs.lemmas.Map.Views.{tells_apart}
use Rattle.std.proofs.lemmas.List.Elements.{All-head, All-tail}
use Rattle.bk_store.specs.State.{State}
use Rattle.bk_store.specs.Transitions.{FenceTransition}
use Rattle.bk_store.specs.declared.answer.Fence.{Fence}
use Rattle.bk_store.specs.declared.answer.Fence.TheVariants as fences
use Rattle.bk_store.specs.declared.answer.FenceFault.{FenceFault}
use Rattle.bk_store.specs.declared.answer.FenceFault.TheVariants as fence_faults
use Rattle.bk_drive.specs.Abstract.{AbstractMachine}
use Rattle.bk_drive.specs.Machine.{MachineState, MachineTransition}
use Rattle.bk_drive.specs.Machine.MachineTransition.{fenced}
use Rattle.bk_drive.specs.Headline.{Run}
use Rattle.bk_drive.specs.Headline.Run.{stop, step}
use Rattle.bk_drive.specs.Recorded.{IsFenced, AreFenced}
use Rattle.bk_drive.specs.declared.step.Step.TheVariants as steps
use Rattle.bk_drive.specs.declared.step.Answer.{Answer}
use Rattle.bk_drive.specs.declared.step.Answer.TheVariants as answers

-- Each ledger of the list is fenced, or was deleted; no other ledger is fenced, and nothing else
-- changed.
pub record Fences (listed : List ℕ) (s t : State) : Type 0 where
  pub same : t ≡ record s { ledgers = t.ledgers }
  pub dead : t.ledgers.dead ≡ s.ledgers.dead
  pub each : (ledger : ℕ) → list_any (eq_by_cmp nat_cmp ledger) listed ≡ true
      → (set.contains t.ledgers.fenced ledger ≡ true) ⊎ (set.contains t.ledgers.dead ledger ≡ true)
  pub kept : (ledger : ℕ) → set.contains s.ledgers.fenced ledger ≡ true → set.contains t.ledgers.fenced ledger ≡ true
  pub only : (ledger : ℕ) → set.contains t.ledgers.fenced ledger ≡ true
      → (set.contains s.ledgers.fenced ledger ≡ true) ⊎ (list_any (eq_by_cmp nat_cmp ledger) listed ≡ true)

one_of : (a : Bool) → (a || false) ≡ true → a ≡ true
one_of true is = refl
one_of false is = is

either : (a b : Bool) → (a || b) ≡ true → (a ≡ true) ⊎ (b ≡ true)
either true b is = inl refl
either false b is = inr is

or_left : (a b : Bool) → a ≡ true → (a || b) ≡ true
or_left true b is = refl
or_left false b is = absurd cc

or_right : (a b : Bool) → b ≡ true → (a || b) ≡ true
or_right true b is = refl
or_right false b is = is

nothing : (s : State) → Fences [] s s
nothing s = record {
  same = refl;
  dead = refl;
  each = λ ledger none. absurd (let e = none in cc);
  kept = λ ledger is. is;
  only = λ ledger is. inl is;
}

unchanged : (ledger : ℕ) (s t : State) → t ≡ s → (set.contains s.ledgers.fenced ledger ≡ true) ⊎ (set.contains s.ledgers.dead ledger ≡ true) → Fences (ledger ∷ []) s t
unchanged ledger s t same is = subst (λ (x : State). Fences (ledger ∷ []) s x) (sym same) (record {
  same = refl;
  dead = refl;
  each = λ other one.
      let at : other ≡ ledger = tells_apart nat_cmp-IsAntisymmetric other ledger (one_of (eq_by_cmp nat_cmp other ledger) one) in
      subst (λ l. (set.contains s.ledgers.fenced l ≡ true) ⊎ (set.contains s.ledgers.dead l ≡ true)) (sym at) is;
  kept = λ other it. it;
  only = λ other it. inl it;
})

one_fence : (ledger : ℕ) (s t : State) (r : Result Fence FenceFault) → FenceTransition s ledger r t → IsFenced (answers.Fence r) → Fences (ledger ∷ []) s t
one_fence ledger s t (Err fence_faults.Deleted) turn ok = unchanged ledger s t turn.1 (inr turn.0)
one_fence ledger s t (Ok fences.AlreadyFenced) turn ok = unchanged ledger s t turn.2 (inl turn.1)
one_fence ledger s t (Err fence_faults.Memory) turn ok = absurd ok
one_fence ledger s t (Ok fences.Fenced) turn ok = subst (λ (x : State). Fences (ledger ∷ []) s x) (sym turn.2) (record {
  same = refl;
  dead = refl;
  each = λ other one. inl (set.contains-insert nat_cmp_total s.ledgers.fenced ledger other
      ∙ or_left (eq_by_cmp nat_cmp other ledger) (set.contains s.ledgers.fenced other) (one_of (eq_by_cmp nat_cmp other ledger) one));
  kept = λ other is. set.contains-insert nat_cmp_total s.ledgers.fenced ledger other
      ∙ or_right (eq_by_cmp nat_cmp other ledger) (set.contains s.ledgers.fenced other) is;
  only = λ other is.
      elim (either (eq_by_cmp nat_cmp other ledger) (set.contains s.ledgers.fenced other) (sym (set.contains-insert nat_cmp_total s.ledgers.fenced ledger other) ∙ is)) [
        | inl new ↦ inr (or_left (eq_by_cmp nat_cmp other ledger) false new)
        | inr old ↦ inl old
      ];
})

then : (ledger : ℕ) (more : List ℕ) (s t u : State) → Fences (ledger ∷ []) s t → Fences more t u → Fences (ledger ∷ more) s u
then ledger more s t u first later = record {
  same = later.same ∙ ap (λ (x : State). record x { ledgers = u.ledgers }) first.same;
  dead = later.dead ∙ first.dead;
  each = λ other one. elim (either (eq_by_cmp nat_cmp other ledger) (list_any (eq_by_cmp nat_cmp other) more) one) [
    | inl here ↦ elim (first.each other (or_left (eq_by_cmp nat_cmp other ledger) false here)) [
      | inl is ↦ inl (later.kept other is)
      | inr gone ↦ inr (ap (λ d. set.contains d other) later.dead ∙ gone)
    ]
    | inr there ↦ later.each other there
  ];
  kept = λ other is. later.kept other (first.kept other is);
  only = λ other is. elim (later.only other is) [
    | inl was ↦ elim (first.only other was) [
      | inl before ↦ inl before
      | inr here ↦ inr (or_left (eq_by_cmp nat_cmp other ledger) (list_any (eq_by_cmp nat_cmp other) more) (one_of (eq_by_cmp nat_cmp other ledger) here))
    ]
    | inr there ↦ inr (or_right (eq_by_cmp nat_cmp other ledger) (list_any (eq_by_cmp nat_cmp other) more) there)
  ];
}

abbrev FencesAll : List ℕ → MachineState → MachineState → Type 0
FencesAll listed d e = Fences listed d.store e.store × (e.readers ≡ d.readers)

fence_turn : (d e : MachineState) (ledger : ℕ) (a : Answer) → MachineTransition d (steps.Fence ledger) a e → IsFenced a → FencesAll (ledger ∷ []) d e
fence_turn d e ledger a (fenced turn) ok = (one_fence ledger d.store _ _ turn ok, refl)

pub fences_run : (limit : ℕ) (d e : MachineState) (p q : AbstractMachine) (listed : List ℕ) (told : List Answer) → Run limit d p (map steps.Fence listed) told e q
    → AreFenced told → FencesAll listed d e
fences_run limit d e p q [] [] (stop agrees) all = (nothing d.store, refl)
fences_run limit d e p q (ledger ∷ more) (a ∷ told) (step agrees turn beside later) all =
    let first = fence_turn d _ ledger a turn (All-head IsFenced a told all) in
    let rest = fences_run limit _ e _ q more told later (All-tail IsFenced a told all) in
    (then ledger more d.store _ e.store first.0 rest.0, rest.1 ∙ first.1)
fences_run limit d e p q [] (a ∷ told) run all = elim run [ ]
fences_run limit d e p q (ledger ∷ more) [] run all = elim run [ ]
