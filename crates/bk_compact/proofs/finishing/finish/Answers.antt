use Rattle.std.proofs.Common.{◌≡◌, Some, None, option_map, sym, subst}
use Rattle.std.specs.FinMap as finite
use Rattle.bk_record.specs.Keyed.{log_count}
use Rattle.bk_store.specs.Logs.{Log}
use Rattle.bk_compact.proofs.Finished.{still_named}
use Rattle.bk_store.specs.declared.log.LogState.TheVariants.{Retired}
use Rattle.bk_compact.proofs.CompactFrames.{unasked_then, unasked_job, unasked_set}
use Rattle.bk_compact.proofs.finishing.finish.Goals as goal

pub returns-then-named-gt0-clause-retires : goal.returns-then-named-gt0-clause-retires
returns-then-named-gt0-clause-retires g c = λ honest source whole.
    let s = c.args.store.now in
    absurd (still_named s c.reveal_invariant.ensures c.in-Some.job.now (sym c.in-Some.ensures) c.in-Some-named.named c.if-named-gt0.true
    (subst (λ n. Some c.in-Some-named.named ≡ option_map (λ (_ : Log). log_count s.index n) (finite.get s.logs n))
    c.source-source.ensures c.in-Some-named.ensures)
    honest source whole)

pub returns-then-named-gt0-clause-frame : goal.returns-then-named-gt0-clause-frame
returns-then-named-gt0-clause-frame g c = unasked_job c.args.store.now c.take_job.new.self None c.take_job.ensures.left

pub returns-clause-frame : goal.returns-clause-frame
returns-clause-frame g c =
    unasked_then (unasked_job c.args.store.now c.take_job.new.self None c.take_job.ensures.left)
    (unasked_set c.take_job.new.self c.set_log_state.new.self c.source-source.result Retired c.set_log_state.ensures.transition)
