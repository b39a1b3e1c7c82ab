use Rattle.std.proofs.Common.{◌≡◌, Bool, true, cond, is_ok, List, ◌++◌, length, ap, subst, ◌∙◌}
use Rattle.std.specs.Prelude.{not}
use Rattle.std.specs.List.{AllAdjacentBelow}
use Rattle.std.specs.List.Sorted.{IsPermutation}
use Rattle.bk_index.specs.Building.{RunEndsBefore}
use Rattle.bk_index.specs.declared.builder.PlacedRun.{PlacedRun}
use Rattle.bk_index.proofs.FilledRuns.{same_runs}
use Rattle.bk_index.proofs.builder.in_order.Goals as goal

pub returns-then-are_apart-clause-same : goal.returns-then-are_apart-clause-same
returns-then-are_apart-clause-same c =
    let runs = c.args.runs.now in
    let sorted = c.sort_unstable_by_key.new.self.items in
    let made : is_ok c.extend_from_slice.result ≡ true = c.is_err.ensures.negation ∙ ap not c.if-is_err.false in
    let copied : c.extend_from_slice.new.self.items ≡ runs =
    c.extend_from_slice.ensures.items
    ∙ ap (λ (b : Bool). cond b (c.new-sorted.result.items ++ runs) c.new-sorted.result.items) made
    ∙ ap (λ (l : List PlacedRun). l ++ runs) c.new-sorted.ensures.items in
    let moved : IsPermutation runs sorted = subst (λ (l : List PlacedRun). IsPermutation l sorted) copied c.sort_unstable_by_key.ensures.permutation in
    let up : AllAdjacentBelow RunEndsBefore sorted (length sorted) =
    subst (λ (l : List PlacedRun). AllAdjacentBelow RunEndsBefore l (length l)) c.deref.ensures.value (c.are_apart.ensures c.if-are_apart.true) in
    λ index. same_runs runs sorted moved up index
