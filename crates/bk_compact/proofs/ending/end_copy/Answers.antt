use Rattle.std.proofs.Common.{◌∙◌, Err, sym}
use Rattle.bk_store.specs.declared.job.Phase.TheVariants.{Copy}
use Rattle.bk_compact.specs.Compacting.{IsRunning}
use Rattle.bk_compact.proofs.Stored.{kept_job}
use Rattle.bk_compact.proofs.CompactFrames.{end_still}
use Rattle.bk_compact.proofs.Turns.{abandoned_end, abandoned_tells, abandoned_cause}
use Rattle.bk_compact.proofs.ending.end_copy.Goals as goal

pub is_at_end-requires-after_bounds : goal.is_at_end-requires-after_bounds
is_at_end-requires-after_bounds g c = λ κs within.
    kept_job c.args.store.now c.reveal_invariant.ensures c.in-Some.job.now (sym c.in-Some.ensures)

pub returns-in-Err-clause-transition : goal.returns-in-Err-clause-transition
returns-in-Err-clause-transition g c =
    let s = c.args.store.now in
    let job = c.in-Some.job.now in
    let running : IsRunning s Copy job = record { runs = sym c.in-Some.ensures; phase_is = sym c.phase.ensures ∙ c.in-Copy.is } in
    let set = c.abandon.ensures.transition job running in
    abandoned_end s c.abandon.new.store job running set c.in-Err.unread c.from.result c.from.ensures c.in-Err.ensures.fails

pub returns-in-Err-clause-cause : goal.returns-in-Err-clause-cause
returns-in-Err-clause-cause g c =
    let s = c.args.store.now in
    let job = c.in-Some.job.now in
    let running : IsRunning s Copy job = record { runs = sym c.in-Some.ensures; phase_is = sym c.phase.ensures ∙ c.in-Copy.is } in
    let set = c.abandon.ensures.transition job running in
    abandoned_tells s c.abandon.new.store job running set c.in-Err.unread c.from.result c.from.ensures

pub returns-in-Err-clause-sound : goal.returns-in-Err-clause-sound
returns-in-Err-clause-sound g c = λ sound.
    let s = c.args.store.now in
    let job = c.in-Some.job.now in
    let running : IsRunning s Copy job = record { runs = sym c.in-Some.ensures; phase_is = sym c.phase.ensures ∙ c.in-Copy.is } in
    let set = c.abandon.ensures.transition job running in
    abandoned_cause s c.abandon.new.store job running set c.in-Err.unread c.from.result c.from.ensures (c.in-Err.ensures.sound sound)

pub returns-in-Ok-true-clause-frame : goal.returns-in-Ok-true-clause-frame
returns-in-Ok-true-clause-frame g c = end_still c.args.store.now c.seal_copy.new.store c.seal_copy.result c.seal_copy.ensures.transition

pub returns-in-Err-clause-frame : goal.returns-in-Err-clause-frame
returns-in-Err-clause-frame g c = end_still c.args.store.now c.abandon.new.store (Err c.from.result) (returns-in-Err-clause-transition g c)
