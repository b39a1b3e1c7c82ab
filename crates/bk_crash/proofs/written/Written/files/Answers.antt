use Rattle.bk_crash.proofs.Copies.{cloned_bytes, listed_on}
use Rattle.bk_crash.proofs.written.Written.files.Goals as goal

pub loop-log-preserved : goal.loop-log-preserved
loop-log-preserved c =
    listed_on _ _ _ (c.in-Some.log.now, c.in-Some.written.now) _ _ c.in_ok-clone.field-0 c.in-Some.ensures.steps c.loop-log.invariant
    (cloned_bytes c.bytes.result.now c.in_ok-clone.field-0 c.in-Some.written.now.bytes c.in_ok-clone.ensures.cases c.bytes.ensures) c.in_ok-push.ensures.items
