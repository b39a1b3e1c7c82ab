use Rattle.std.proofs.Common.{◌≡◌, ◌+◌, ◌-◌, ◌*◌, ◌^◌, ◌<◌, ℕ, length, sym, ap, subst, ◌∙◌, arith}
use Rattle.std.proofs.lemmas.List.{get_or_default}
use Rattle.std.proofs.lemmas.List.Elements.{All-set}
use Rattle.bk_index.specs.Building.{IsPlacedRun, RunGoesOn, with_runs}
use Rattle.bk_index.specs.declared.builder.PlacedRun.{PlacedRun}
use Rattle.bk_index.proofs.FilledRuns.{longer, last_joined, with_runs_push}
use Rattle.bk_index.proofs.builder.add.Goals as goal

longer_placed : (last run : PlacedRun) → RunGoesOn last run → IsPlacedRun run → IsPlacedRun (longer last run)
longer_placed last run on placed =
    let end : run.place.at + run.count * last.size < 2 ^ 32 + last.size =
    subst (λ (s : ℕ). run.place.at + run.count * s < 2 ^ 32 + s) (sym on.size) placed.1 in
    let all : (last.count + run.count) * last.size ≡ last.count * last.size + run.count * last.size = omega arith in
    (omega (arith, on.entry, placed.0), omega (arith, on.at, end, all))

pub returns-then-goes_on-clause-held : goal.returns-then-goes_on-clause-held
returns-then-goes_on-clause-held c =
    let items = c.args.runs.now.items in
    let n = c.len-count.result - 1 in
    let last = c.index_mut.result.now in
    let count : c.len-count.result ≡ length items = c.len-count.ensures ∙ c.args.runs.now.ok.0 in
    let within : n < length items = omega (arith, count, c.if-count-gt0.true) in
    let same : last ≡ c.index.result.now = c.index_mut.ensures.value ∙ get_or_default items n last c.index.result.now within ∙ sym c.index.ensures in
    let on : RunGoesOn last c.args.run = subst (λ (r : PlacedRun). RunGoesOn r c.args.run) (sym same) (c.goes_on.ensures c.if-goes_on.true) in
    All-set IsPlacedRun items n (longer last c.args.run) (longer_placed last c.args.run on c.requires.placed) c.requires.held

pub returns-then-goes_on-clause-ok : goal.returns-then-goes_on-clause-ok
returns-then-goes_on-clause-ok c =
    let items = c.args.runs.now.items in
    let n = c.len-count.result - 1 in
    let last = c.index_mut.result.now in
    let count : c.len-count.result ≡ length items = c.len-count.ensures ∙ c.args.runs.now.ok.0 in
    let within : n < length items = omega (arith, count, c.if-count-gt0.true) in
    let many : length items ≡ n + 1 = omega (arith, count, c.if-count-gt0.true) in
    let same : last ≡ c.index.result.now = c.index_mut.ensures.value ∙ get_or_default items n last c.index.result.now within ∙ sym c.index.ensures in
    let on : RunGoesOn last c.args.run = subst (λ (r : PlacedRun). RunGoesOn r c.args.run) (sym same) (c.goes_on.ensures c.if-goes_on.true) in
    λ index. last_joined items n last c.args.run many c.index_mut.ensures.value on index

pub returns-clause-ok : goal.returns-clause-ok
returns-clause-ok c = λ index. ap (with_runs index) c.in_ok-push.ensures.items ∙ with_runs_push c.args.runs.now.items c.args.run index
