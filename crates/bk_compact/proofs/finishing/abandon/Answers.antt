use Rattle.std.proofs.Common.{◌≡◌, ℕ, sym, ap, subst, ◌∙◌}
use Rattle.std.proofs.lemmas.Option.{same_Some}
use Rattle.bk_store.specs.Primitives.{CanSetLogState}
use Rattle.bk_store.specs.Jobs.{Job}
use Rattle.bk_store.specs.declared.log.LogState.TheVariants.{Readable}
use Rattle.bk_compact.proofs.Turns.{may_abandon}
use Rattle.bk_compact.proofs.finishing.abandon.Goals as goal

pub set_log_state-requires-after_bounds : goal.set_log_state-requires-after_bounds
set_log_state-requires-after_bounds g c κs within =
    let s = c.args.store.now in
    let job = c.requires.0 in
    let same : c.in-Some.taken.job ≡ job = same_Some c.in-Some.taken.job job (c.in-Some.ensures.job ∙ c.requires.1.runs) in
    subst (λ (n : ℕ). CanSetLogState c.take_job.new.self n Readable) (sym (c.copy.ensures ∙ ap (λ (j : Job). j.copy) same))
    (may_abandon s c.reveal_invariant.ensures job c.requires.1 c.take_job.new.self c.take_job.ensures.left)
