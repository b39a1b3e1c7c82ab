use Rattle.std.proofs.Common.{[], ◌∷◌, ◌++◌, take, sym, ap, ◌∙◌}
use Rattle.std.proofs.lemmas.List.{take_more}
use Rattle.bk_record.specs.Keyed.{Places}
use Rattle.bk_index.specs.Runs.{with_run}
use Rattle.bk_index.specs.Building.{with_runs}
use Rattle.bk_index.specs.declared.builder.PlacedRun.{PlacedRun}
use Rattle.bk_index.proofs.FilledRuns.{with_runs_push}
use Rattle.bk_index.proofs.builder.put_each.Goals as goal

pub loop-run-preserved : goal.loop-run-preserved
loop-run-preserved c =
    let runs = c.args.runs.now in
    let done = c.loop-run.run-index in
    let run = c.run-item.result in
    let start = c.args.index.now in
    c.in_ok-insert_run.ensures.ok
    ∙ ap (λ (index : Places). with_run index run.first run.place run.size run.count) c.loop-run.invariant
    ∙ sym (with_runs_push (take done runs) run start)
    ∙ ap (λ (r : PlacedRun). with_runs start (take done runs ++ r ∷ [])) c.run-item.is
    ∙ ap (with_runs start) (sym (take_more runs done run c.loop-run-test.true))
