use Rattle.std.proofs.Common.{None, refl, sym, ◌∙◌}
use Rattle.bk_store.specs.declared.job.Phase.TheVariants.{Copy}
use Rattle.bk_store.specs.declared.log.LogState.TheVariants.{Readable}
use Rattle.bk_compact.specs.Compacting.{IsRunning, with_job}
use Rattle.bk_compact.proofs.CompactFrames.{unasked_then, unasked_job, unasked_set}
use Rattle.bk_compact.proofs.finishing.give_up.Goals as goal

pub returns-in-Copy-clause-frame : goal.returns-in-Copy-clause-frame
returns-in-Copy-clause-frame g c =
    let s = c.args.store.now in
    let job = c.in-Some.job.now in
    let running : IsRunning s Copy job = record { runs = sym c.in-Some.ensures; phase_is = sym c.phase.ensures ∙ c.in-Copy.is } in
    unasked_then (unasked_job s (with_job s None) None refl)
    (unasked_set (with_job s None) c.abandon.new.store job.copy Readable (c.abandon.ensures.transition job running))
