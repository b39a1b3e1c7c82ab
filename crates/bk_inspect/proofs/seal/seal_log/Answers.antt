use Rattle.std.proofs.Common.{◌∙◌}
use Rattle.bk_inspect.proofs.Reading.{honest_still}
use Rattle.bk_inspect.proofs.Seals.{seal_ready, seal_done, seal_left}
use Rattle.bk_inspect.proofs.seal.seal_log.Goals as goal

pub returns-in-Ok-clause-transition : goal.returns-in-Ok-clause-transition
returns-in-Ok-clause-transition g c = λ honest.
    let read = c.read_head.ensures.reads in
    let mid = honest_still _ _ _ _ read honest in
    let seen = c.view_of.ensures.reads in
    let now = honest_still _ _ _ _ seen mid in
    let viewed = c.in_ok-view.ensures.ok mid in
    seal_done _ _ _ c.args.log c.in_ok-plan.plan (seen.1 mid ∙ read.1 honest)
    (seal_ready _ _ _ c.args.log c.in_ok-found.found.length c.in_ok-found.found.head _ c.in_ok-plan.plan (c.in_ok-found.ensures.ok honest)
    c.in_ok-refuse_head.ensures (read.1 honest) viewed.0 (seen.1 mid) (c.in_ok-plan.ensures.ok viewed.1) c.in_ok-plan.ensures.fits)
    (c.in-Ok.ensures.transition now)

pub returns-clause-transition : goal.returns-clause-transition
returns-clause-transition g c = λ honest.
    let read = c.read_head.ensures.reads in
    let mid = honest_still _ _ _ _ read honest in
    let seen = c.view_of.ensures.reads in
    let now = honest_still _ _ _ _ seen mid in
    let viewed = c.in_ok-view.ensures.ok mid in
    seal_left _ _ _ c.args.log c.in_ok-plan.plan (seen.1 mid ∙ read.1 honest)
    (seal_ready _ _ _ c.args.log c.in_ok-found.found.length c.in_ok-found.found.head _ c.in_ok-plan.plan (c.in_ok-found.ensures.ok honest)
    c.in_ok-refuse_head.ensures (read.1 honest) viewed.0 (seen.1 mid) (c.in_ok-plan.ensures.ok viewed.1) c.in_ok-plan.ensures.fits)
    (c.in-Err.ensures.transition now)
