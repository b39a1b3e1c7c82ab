use Rattle.bk_lease.proofs.KeeperSteps.{counts}
use Rattle.bk_lease.proofs.counting.counted.Goals as goal

pub load-read-requires : goal.load-read-requires
load-read-requires c = let idle = c.requires.idle in
    (c.requires.seated, c.requires.inside, counts _ _ _ _ _ idle.1.1 idle.0 idle.1.2 idle.1.3)
