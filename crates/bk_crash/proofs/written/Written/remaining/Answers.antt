use Rattle.std.proofs.Common.{Some, None, subst, option_map}
use Rattle.bk_crash.specs.Remaining.{RemainsOf}
use Rattle.bk_crash.proofs.Leaving.{came_with, came_without, all_came}
use Rattle.bk_crash.proofs.RemainingLogs.{known, all_remain}
use Rattle.bk_crash.proofs.written.Written.remaining.Goals as goal

pub loop-log-preserved-in-Continue-branch-3 : goal.loop-log-preserved-in-Continue-branch-3
loop-log-preserved-in-Continue-branch-3 g c =
    came_with (λ id. RemainsOf (known c.args.state.now id)) _ _ _ (c.in-Some.log.now, c.in-Some.written.now) _ _ c.in-Some-2.bytes c.iter-log-items.ensures.ordered c.in-Some.ensures.steps
    c.loop-log.invariant (subst (λ s. RemainsOf s c.in-Some.written.now (Some c.in-Some-2.bytes.items)) c.log.ensures
    (subst (λ o. RemainsOf c.log.result c.in-Some.written.now (option_map (λ b. b.items) o)) c.in-Some-2.is c.in_ok-bytes.ensures)) c.in_ok-push.ensures.items

pub loop-log-preserved : goal.loop-log-preserved
loop-log-preserved g c =
    came_without (λ id. RemainsOf (known c.args.state.now id)) _ _ _ (c.in-Some.log.now, c.in-Some.written.now) _ c.iter-log-items.ensures.ordered c.in-Some.ensures.steps
    c.loop-log.invariant (subst (λ s. RemainsOf s c.in-Some.written.now (None)) c.log.ensures
    (subst (λ o. RemainsOf c.log.result c.in-Some.written.now (option_map (λ b. b.items) o)) c.in_default.is c.in_ok-bytes.ensures))

pub returns : goal.returns
returns g c = λ kept records synced means wrote.
    all_remain c.args.self.now kept records c.args.state.now synced means wrote c.loop-log.left.items c.put_back_by.new.left.items
    (all_came (λ id. RemainsOf (known c.args.state.now id)) _ _ _ c.in-None.ensures.steps.0 c.loop-log.invariant) c.in_ok-put_back_by.ensures
