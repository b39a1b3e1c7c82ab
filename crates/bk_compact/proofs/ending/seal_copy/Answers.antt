use Rattle.std.proofs.Common.{◌≡◌, Some, ap, ◌∙◌}
use Rattle.bk_store.specs.State.{State}
use Rattle.bk_compact.proofs.Sealed.{may_show_sealed, switch_keeps, ended, not_shown}
use Rattle.bk_compact.proofs.ending.seal_copy.Goals as goal

pub publish_log-requires-after_bounds : goal.publish_log-requires-after_bounds
publish_log-requires-after_bounds g c = λ κs within.
    may_show_sealed c.take_job.new.self c.seal.new.self c.copy-copy.result (ap (λ (s : State). s.job) c.take_job.ensures.left) c.in_default-seal.ensures.transition

pub returns-in-Err-publish_log-clause-transition : goal.returns-in-Err-publish_log-clause-transition
returns-in-Err-publish_log-clause-transition g c =
    let job = c.requires.0 in
    let both : Some c.in-Some.taken.job ≡ Some job = c.in-Some.ensures.job ∙ c.requires.1.runs in
    let same : c.in-Some.taken.job ≡ job = cc in
    not_shown c.args.store.now c.take_job.new.self c.reveal_invariant.ensures job c.in-Some.taken.job c.requires.1 same c.take_job.ensures.left c.requires.2
    c.copy-copy.result c.copy-copy.ensures c.in-Err-publish_log.fault c.from-in-Err-publish_log.result c.seal.new.self c.publish_log.new.self
    c.from-in-Err-publish_log.ensures c.in_default-seal.ensures.transition c.in-Err-publish_log.ensures.transition

pub set_job-requires-clause-keeps : goal.set_job-requires-clause-keeps
set_job-requires-clause-keeps g c = λ κs within.
    let job = c.requires.0 in
    let both : Some c.in-Some.taken.job ≡ Some job = c.in-Some.ensures.job ∙ c.requires.1.runs in
    let same : c.in-Some.taken.job ≡ job = cc in
    switch_keeps c.args.store.now c.take_job.new.self c.reveal_invariant.ensures job c.in-Some.taken.job c.requires.1 same c.take_job.ensures.left c.requires.2
    c.copy-copy.result c.copy-copy.ensures c.seal.new.self c.publish_log.new.self c.in_default-seal.ensures.transition c.in_default-publish_log.ensures.transition
    c.begin_switch.new.self c.begin_switch.ensures

pub returns-clause-transition : goal.returns-clause-transition
returns-clause-transition g c =
    let job = c.requires.0 in
    let both : Some c.in-Some.taken.job ≡ Some job = c.in-Some.ensures.job ∙ c.requires.1.runs in
    let same : c.in-Some.taken.job ≡ job = cc in
    ended c.args.store.now c.take_job.new.self c.reveal_invariant.ensures job c.in-Some.taken.job c.requires.1 same c.take_job.ensures.left c.requires.2
    c.copy-copy.result c.copy-copy.ensures c.seal.new.self c.publish_log.new.self c.set_job.new.self c.in_default-seal.ensures.transition
    c.in_default-publish_log.ensures.transition c.begin_switch.new.self c.begin_switch.ensures c.set_job.ensures c.left-left.result c.left-left.ensures
