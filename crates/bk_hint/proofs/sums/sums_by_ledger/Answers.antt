use Rattle.std.proofs.Common.{◌≡◌, ℕ, ap, subst, arith}
use Rattle.bk_hint.specs.Entries.{bytes_of}
use Rattle.bk_hint.specs.Runs.{entries_of_run, entries_of_runs}
use Rattle.bk_hint.specs.Sums.{summed_at, IsSumAdded}
use Rattle.bk_hint.proofs.Adding.{run_sums, adds_more, total_below}
use Rattle.bk_hint.proofs.Runwise.{legal_others}
use Rattle.bk_hint.proofs.sums.sums_by_ledger.Goals as goal

pub add-requires : goal.add-requires
add-requires c =
    let run = c.in-Some.run' in
    let owner = run.first.key.ledger in
    let sums_run = run_sums c.loop-run.run-iterator c.next.new.self run c.in-Some.ensures.steps c.loop-run.invariant.legal in
    let below = total_below c.loop-run.sums (entries_of_runs c.loop-run.run-iterator) (entries_of_runs c.next.new.self) c.args.contents.now owner
    (bytes_of (entries_of_run run)) c.loop-run.invariant.adds sums_run c.runs-run-items.ensures.in_order in
    let same : summed_at c.loop-run.sums c.ledger.result ≡ summed_at c.loop-run.sums owner = ap (summed_at c.loop-run.sums) c.ledger.ensures.value in
    let bytes : c.bytes.result ≡ bytes_of (entries_of_run run) = c.bytes.ensures in
    omega arith

pub loop-run-preserved : goal.loop-run-preserved
loop-run-preserved c =
    let sums = c.loop-run.sums in
    let run = c.in-Some.run' in
    let added : IsSumAdded sums c.add.new.sums run.first.key.ledger c.bytes.result =
    subst (λ (owner : ℕ). IsSumAdded sums c.add.new.sums owner c.bytes.result) c.ledger.ensures.value c.in_ok-add.ensures in
    record {
      adds = adds_more sums c.add.new.sums (entries_of_runs c.loop-run.run-iterator) (entries_of_runs c.next.new.self) c.args.contents.now run.first.key.ledger
          (bytes_of (entries_of_run run)) (run_sums c.loop-run.run-iterator c.next.new.self run c.in-Some.ensures.steps c.loop-run.invariant.legal)
          c.loop-run.invariant.adds (subst (IsSumAdded sums c.add.new.sums run.first.key.ledger) c.bytes.ensures added);
      legal = legal_others c.loop-run.run-iterator c.next.new.self run c.in-Some.ensures.steps c.loop-run.invariant.legal;
    }
