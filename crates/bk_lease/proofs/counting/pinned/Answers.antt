use Rattle.bk_lease.proofs.KeeperSteps.{pins}
use Rattle.bk_lease.proofs.counting.pinned.Goals as goal

pub fetch_add-found-requires : goal.fetch_add-found-requires
fetch_add-found-requires c = let idle = c.requires.idle in
    (c.requires.seated, c.requires.inside, pins _ _ _ _ _ idle.1.1 idle.0 idle.1.2 idle.1.3)
