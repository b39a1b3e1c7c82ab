use Rattle.bk_inspect.proofs.Cuts.{cut_aside, cut_failed}
use Rattle.bk_inspect.proofs.Reading.{honest_still}
use Rattle.bk_inspect.proofs.cut.cut_log.Goals as goal

pub returns-in-Ok-write_cut-clause-transition : goal.returns-in-Ok-write_cut-clause-transition
returns-in-Ok-write_cut-clause-transition g c = λ honest kept.
    let read = c.in-Ok.ensures.reads in
    let mid = honest_still _ _ _ _ read honest in
    let copied = c.in-Ok-copy_log.ensures in
    let now = honest_still _ _ _ _ copied.reads mid in
    cut_aside _ _ _ _ _ _ _ c.args.log c.in-Ok.cut (c.in-Ok.ensures.ok honest) (c.is_change.ensures c.if-not-is_change.false) (read.1 honest)
    (copied.reads.1 mid) (copied.transition mid kept) (copied.synced kept) (c.in-Ok-write_cut.ensures.transition now)

pub returns-in-Err-write_cut-clause-transition : goal.returns-in-Err-write_cut-clause-transition
returns-in-Err-write_cut-clause-transition g c = λ honest kept.
    let read = c.in-Ok.ensures.reads in
    let mid = honest_still _ _ _ _ read honest in
    let copied = c.in-Ok-copy_log.ensures in
    let now = honest_still _ _ _ _ copied.reads mid in
    cut_failed _ _ _ _ _ _ _ c.args.log c.in-Ok.cut c.in-Err-write_cut.fault (c.in-Ok.ensures.ok honest) (read.1 honest) (copied.reads.1 mid)
    (copied.transition mid kept) (copied.synced kept) (c.in-Err-write_cut.ensures.transition now)
