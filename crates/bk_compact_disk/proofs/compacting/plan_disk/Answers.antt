use Rattle.bk_compact_disk.proofs.Compacted.{opened_is_planned}
use Rattle.bk_compact_disk.proofs.compacting.plan_disk.Goals as goal

pub returns-in_ok-plan-in-Ok : goal.returns-in_ok-plan-in-Ok
returns-in_ok-plan-in-Ok g c = opened_is_planned _ _ _ _ _ c.in-Ok.store _ c.settings_below.ensures c.in-Ok.ensures.honest c.in-Ok.ensures.opened
    c.in_ok-plan-in-Ok.ensures
