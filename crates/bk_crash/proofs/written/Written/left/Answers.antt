use Rattle.std.proofs.Common.{subst, option_map}
use Rattle.bk_crash.specs.Leaving.{IsLeftOf}
use Rattle.bk_crash.proofs.Leaving.{came_with, came_without, all_came, all_left}
use Rattle.bk_crash.proofs.written.Written.left.Goals as goal

pub loop-log-preserved-in-Continue-branch-3 : goal.loop-log-preserved-in-Continue-branch-3
loop-log-preserved-in-Continue-branch-3 g c =
    came_with (λ id. IsLeftOf) _ _ _ (c.in-Some.log.now, c.in-Some.written.now) _ _ c.in-Some-2.bytes c.iter-log-items.ensures.ordered c.in-Some.ensures.steps
    c.loop-log.invariant (subst (λ o. IsLeftOf c.in-Some.written.now (option_map (λ b. b.items) o)) c.in-Some-2.is c.in_ok-bytes.ensures) c.in_ok-push.ensures.items

pub loop-log-preserved : goal.loop-log-preserved
loop-log-preserved g c =
    came_without (λ id. IsLeftOf) _ _ _ (c.in-Some.log.now, c.in-Some.written.now) _ c.iter-log-items.ensures.ordered c.in-Some.ensures.steps
    c.loop-log.invariant (subst (λ o. IsLeftOf c.in-Some.written.now (option_map (λ b. b.items) o)) c.in_default.is c.in_ok-bytes.ensures)

pub returns : goal.returns
returns g c = λ kept synced.
    all_left c.args.self.now c.loop-log.left.items c.put_back.new.left.items (all_came (λ id. IsLeftOf) _ _ _ c.in-None.ensures.steps.0 c.loop-log.invariant)
    c.in_ok-put_back.ensures kept synced
