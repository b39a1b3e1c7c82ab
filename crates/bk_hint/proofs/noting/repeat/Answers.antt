use Rattle.std.proofs.Common.{◌≡◌, ℕ, suc, ◌+◌, ◌-◌, ◌^◌, ◌<◌, ◌≤◌, List, [], ◌∷◌, ◌++◌, length, take, drop, set, get_or, sym, ap, ◌∙◌, arith, inr}
use Rattle.std.proofs.lemmas.List.{length-drop, set_split, take-append-drop, nil_from_length, get_or_default}
use Rattle.std.proofs.Math.Seq.{drop-cons}
use Rattle.bk_hint.specs.Noting.{Counts}
use Rattle.bk_hint.proofs.noting.repeat.Goals as goal

-- one more at the number at the end of a list; `seen` and `step` are two reads of it
counts : (steps : List ℕ) (at seen step : ℕ) → at + 1 ≡ length steps → seen ≡ get_or steps at seen → step ≡ get_or steps at step → 2 ^ 31 ≤ seen
    → Counts steps (set steps at (step + 1))
counts steps at seen step last seen_is step_is many =
    let inside : at < length steps = omega arith in
    let same : seen ≡ step = seen_is ∙ get_or_default steps at seen step inside ∙ sym step_is in
    let none : drop (suc at) steps ≡ [] = nil_from_length (drop (suc at) steps) (omega (arith, length-drop (suc at) steps)) in
    record {
      front = take at steps;
      step = step;
      many = omega (arith, same);
      was = sym (take-append-drop at steps)
          ∙ ap (λ (ws : List ℕ). take at steps ++ ws) (drop-cons steps at step inside ∙ ap (λ (w : ℕ). w ∷ drop (suc at) steps) (sym step_is)
          ∙ ap (λ (ws : List ℕ). step ∷ ws) none);
      is = set_split steps at (step + 1) inside ∙ ap (λ (ws : List ℕ). take at steps ++ (step + 1) ∷ ws) none;
    }

pub returns-then-index-lt4294967295-clause-ok : goal.returns-then-index-lt4294967295-clause-ok
returns-then-index-lt4294967295-clause-ok c =
    inr (counts c.args.steps.now.items (c.len-count.result - 1) c.index.result.now c.index_mut.result.now (omega arith) c.index.ensures c.index_mut.ensures.value (omega arith))
