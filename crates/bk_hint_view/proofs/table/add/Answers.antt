use Rattle.std.proofs.Common.{◌≡◌, ◌+◌, ◌-◌, ◌<◌, length, sym, subst, ◌∙◌, arith}
use Rattle.std.proofs.lemmas.List.{get_or_default}
use Rattle.bk_hint.specs.declared.runs.ListedRun.{ListedRun}
use Rattle.bk_hint_view.specs.Rows.{IsNextRun}
use Rattle.bk_hint_view.proofs.JoinedRuns.{last_joined}
use Rattle.bk_hint_view.proofs.table.add.Goals as goal

pub returns-then-goes_on : goal.returns-then-goes_on
returns-then-goes_on c =
    let rows = c.args.rows.now.items in
    let n = c.len-count.result - 1 in
    let last = c.index_mut.result.now in
    let count : c.len-count.result ≡ length rows = c.len-count.ensures ∙ c.args.rows.now.ok.0 in
    let within : n < length rows = omega (arith, count, c.if-count-gt0.true) in
    let many : length rows ≡ n + 1 = omega (arith, count, c.if-count-gt0.true) in
    let same : last ≡ c.index.result.now = c.index_mut.ensures.value ∙ get_or_default rows n last c.index.result.now within ∙ sym c.index.ensures in
    let next : IsNextRun last c.args.run = subst (λ (r : ListedRun). IsNextRun r c.args.run) (sym same) (c.goes_on.ensures c.if-goes_on.true) in
    last_joined rows n last c.args.run many c.index_mut.ensures.value next
