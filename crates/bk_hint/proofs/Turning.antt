-- Runs of entries.
use Rattle.std.proofs.Common.{◌≡◌, ℕ, zero, suc, ◌+◌, ◌-◌, ◌^◌, ◌<◌, List, [], ◌∷◌, ◌++◌, refl, sym, ap, subst, ◌∙◌, arith, inl, inr}
use Rattle.std.proofs.lemmas.Bool.{cases_lt}
use Rattle.std.proofs.lemmas.Grind.{flat_map-append}
use Rattle.std.proofs.lemmas.List.{append-nil}
use Rattle.bk_hint.specs.declared.listed.Listed.{Listed}
use Rattle.bk_hint.specs.declared.head.Head.{Head}
use Rattle.bk_hint.specs.declared.runs.ListedRun.{ListedRun}
use Rattle.bk_hint.specs.Entries.{IsLegal, past, AreFrom, last_of, repeats, part_of, heads_behind, entries_of}
use Rattle.bk_hint.specs.Runs.{entries_of_run, entries_of_runs, run_of, runs_of}
use Rattle.bk_hint.specs.Checking.{repeated_by, IsRepeatable}
use Rattle.bk_hint.specs.Walking.{left_of, CanGoOn, Turns}
use Rattle.bk_hint.proofs.Steps.{part-next, part-again, run-next, run-again, past-below}
use Rattle.bk_hint.proofs.Counts.{AreFrom-left, AreFrom-right}
use Rattle.bk_hint.proofs.Checks.{repeats_last, repeats_need}
use Rattle.bk_hint.proofs.Walks.{heads}

-- ---- the entries of runs

-- the run of a step has the entries of the step
run_part : (last : Listed) (step : ℕ) (heads_now : List Head) → entries_of_runs (run_of last step heads_now) ≡ part_of last step heads_now
run_part last zero [] = refl
run_part last zero (head ∷ heads_now) = refl
run_part last (suc step) heads_now =
    elim (cases_lt (suc step) (2 ^ 31)) [
      | inl low ↦
          let some : 0 < suc step = omega arith in
          ap entries_of_runs (run-next last (suc step) heads_now some low) ∙ sym (part-next last (suc step) heads_now some low)
      | inr high ↦
          let count : suc step - 2 ^ 31 + 1 ≡ suc (suc step - 2 ^ 31) = omega arith in
          ap entries_of_runs (run-again last (suc step) heads_now high)
          ∙ append-nil (repeats (suc (suc step - 2 ^ 31)) last)
          ∙ ap (λ (n : ℕ). repeats n last) (sym count)
          ∙ sym (part-again last (suc step) heads_now high)
    ]

-- the runs of heads and steps have their entries
pub runs_list : (last : Listed) (heads_now : List Head) (steps : List ℕ) → entries_of_runs (runs_of last heads_now steps) ≡ entries_of last heads_now steps
unfolding runs_of entries_of
runs_list last heads_now [] = refl
runs_list last heads_now (step ∷ steps) =
    let part : List Listed = part_of last step heads_now in
    flat_map-append entries_of_run (run_of last step heads_now) (runs_of (last_of last part) (heads_behind step heads_now) steps)
    ∙ ap (λ (es : List Listed). es ++ entries_of_runs (runs_of (last_of last part) (heads_behind step heads_now) steps)) (run_part last step heads_now)
    ∙ ap (λ (es : List Listed). part ++ es) (runs_list (last_of last part) (heads_behind step heads_now) steps)

pub none_left : (last : Listed) (heads_now : List Head) (steps : List ℕ) → steps ≡ [] → runs_of last heads_now steps ≡ []
unfolding runs_of
none_left last heads_now steps none = ap (λ (ws : List ℕ). runs_of last heads_now ws) none

-- ---- the last entry of a run

-- legal entries behind a legal one
pub repeatable : (first : Listed) (count : ℕ) (rest : List Listed) → IsLegal first → AreFrom (past first) (repeats count first ++ rest) → IsRepeatable count first
repeatable first zero rest legal each = record {
  ledger = legal.ledger;
  id = omega (arith, legal.id);
  least = legal.least;
  most = legal.most;
  ends = omega (arith, legal.ends);
}
repeatable first (suc count) rest legal each = repeats_need count first (AreFrom-left first (repeats (suc count) first) rest each)

turn_legal : (last : Listed) (heads_now : List Head) (steps : List ℕ) (next : Listed) (again : ℕ) (others : List Head) (behind : List ℕ)
    → CanGoOn last 0 heads_now steps → Turns last heads_now steps next again others behind → IsLegal next
turn_legal last heads_now steps next again others behind can turn =
    (heads (past last) (left_of last 0 heads_now steps) next (left_of next again others behind) can.in_order turn.gives).legal

again_order : (next : Listed) (again : ℕ) (others : List Head) (behind : List ℕ) → CanGoOn next again others behind
    → AreFrom (past next) (repeats again next ++ entries_of (last_of next (repeats again next)) others behind)
unfolding left_of
again_order next again others behind can = can.in_order

pub turn_repeatable : (last : Listed) (heads_now : List Head) (steps : List ℕ) (next : Listed) (again : ℕ) (others : List Head) (behind : List ℕ)
    → CanGoOn last 0 heads_now steps → Turns last heads_now steps next again others behind → IsRepeatable again next
turn_repeatable last heads_now steps next again others behind can turn =
    repeatable next again (entries_of (last_of next (repeats again next)) others behind) (turn_legal last heads_now steps next again others behind can turn)
    (again_order next again others behind turn.goes_on)

-- ---- behind a run

plain : (last : Listed) (heads_now : List Head) (steps : List ℕ) → entries_of last heads_now steps ≡ left_of last 0 heads_now steps
unfolding left_of
plain last heads_now steps = refl

-- what is left behind the last entry of a run
pub run_goes_on : (next : Listed) (again : ℕ) (others : List Head) (behind : List ℕ) (end : Listed) → CanGoOn next again others behind
    → end ≡ repeated_by again next → CanGoOn end 0 others behind
run_goes_on next again others behind end can is =
    let whole = again_order next again others behind can in
    let before : List Listed = repeats again next in
    let rest : List Listed = entries_of (last_of next before) others behind in
    let one : CanGoOn (last_of next before) 0 others behind = record {
      heads_fit = can.heads_fit;
      in_order = subst (AreFrom (past (last_of next before))) (plain (last_of next before) others behind) (AreFrom-right next before rest whole);
      room = past-below next before can.room (AreFrom-left next before rest whole);
    } in
    subst (λ (l : Listed). CanGoOn l 0 others behind) (repeats_last again next ∙ sym is) one

pub run_gives : (last : Listed) (heads_now : List Head) (steps : List ℕ) (next : Listed) (again : ℕ) (others : List Head) (behind : List ℕ) (end : Listed)
    → Turns last heads_now steps next again others behind → end ≡ repeated_by again next
    → runs_of last heads_now steps ≡ record { first = next; again = again } ∷ runs_of end others behind
run_gives last heads_now steps next again others behind end turn is =
    let run : ListedRun = record { first = next; again = again } in
    turn.is_run ∙ ap (λ (l : Listed). run ∷ runs_of l others behind) (repeats_last again next ∙ sym is)
