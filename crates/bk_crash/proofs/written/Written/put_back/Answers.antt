use Rattle.std.proofs.Common.{Some, subst, option_map}
use Rattle.bk_crash.specs.Leaving.{IsBackOf}
use Rattle.bk_crash.proofs.Leaving.{back_with, back_without, back_beside, all_came_back, all_back, there_is, there_is_none}
use Rattle.bk_crash.proofs.written.Written.put_back.Goals as goal

pub loop-log-preserved-then-contains_key : goal.loop-log-preserved-then-contains_key
loop-log-preserved-then-contains_key g c =
    back_beside (λ id. IsBackOf) _ _ _ _ (c.in-Some.log.now, c.in-Some.bytes.now) _ _ c.iter-log-items.ensures.ordered c.in-Some.ensures.steps c.loop-log.invariant
    (there_is c.args.self.now.logs.entries c.in-Some.log.now c.if-contains_key.ensures)

pub loop-log-preserved-in-Continue-branch-3 : goal.loop-log-preserved-in-Continue-branch-3
loop-log-preserved-in-Continue-branch-3 g c =
    back_with (λ id. IsBackOf) _ _ _ _ (c.in-Some.log.now, c.in-Some.bytes.now) _ _ c.iter-log-items.ensures.ordered c.in-Some.ensures.steps c.loop-log.invariant _ c.in-Some-2.bytes
    (there_is_none c.args.self.now.logs.entries c.in-Some.log.now c.if-contains_key.ensures)
    (subst (λ file. IsBackOf file (Some c.in-Some-2.bytes.items)) c.deref.ensures.value (subst (λ o. IsBackOf c.deref.result.now (option_map (λ b. b.items) o)) c.in-Some-2.is c.in_ok-bytes.ensures))
    c.in_ok-push.ensures.items

pub loop-log-preserved : goal.loop-log-preserved
loop-log-preserved g c =
    back_without (λ id. IsBackOf) _ _ _ _ (c.in-Some.log.now, c.in-Some.bytes.now) _ _ c.iter-log-items.ensures.ordered c.in-Some.ensures.steps c.loop-log.invariant
    (there_is_none c.args.self.now.logs.entries c.in-Some.log.now c.if-contains_key.ensures) tt

pub returns : goal.returns
returns g c =
    all_back c.args.self.now (λ id. IsBackOf) c.args.left.now.items c.loop-log.left.items (all_came_back (λ id. IsBackOf) _ _ _ _ _ c.in-None.ensures.steps.0 c.loop-log.invariant)
