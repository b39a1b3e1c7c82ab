use Rattle.std.proofs.Common.{ℕ, ◌+◌, sym, subst}
use Rattle.bk_offline_gc.specs.Stages.{HasKeptTo}
use Rattle.bk_offline_gc.proofs.Counting.{counting_on, counting_ends}
use Rattle.bk_offline_gc.proofs.clearing.count_kept.Goals.{then-is_retired, else-is_retired}
use Rattle.bk_offline_gc.proofs.clearing.count_kept.Goals as goal

pub loop-log-preserved : goal.loop-log-preserved
loop-log-preserved g c =
    let s = c.args.store.now in
    let both = counting_on s c.loop-log.from c.loop-log.kept c.in-Some.log c.loop-log.invariant c.in-Some.ensures.value
    c.log_state.result c.log_state.ensures c.is_retired.result c.is_retired.ensures in
    elim c.if-is_retired.branch [
      | then-is_retired w ↦ subst (λ (n : ℕ). HasKeptTo s (c.in-Some.log + 1) n) (sym w.kept-is) (both.0 w.if-is_retired.true)
      | else-is_retired w ↦ subst (λ (n : ℕ). HasKeptTo s (c.in-Some.log + 1) n) (sym w.kept-is) (both.1 w.if-is_retired.false)
    ]

pub returns : goal.returns
returns g c = counting_ends c.args.store.now c.loop-log.from c.loop-log.kept c.loop-log.invariant c.in_default.ensures.value
