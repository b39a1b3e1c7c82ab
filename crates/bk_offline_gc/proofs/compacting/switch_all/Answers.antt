use Rattle.std.proofs.Common.{sym}
use Rattle.bk_offline_gc.proofs.Moving.{all_switched}
use Rattle.bk_offline_gc.proofs.compacting.switch_all.Goals as goal

pub returns-clause-switched : goal.returns-clause-switched
returns-clause-switched g c =
    all_switched c.args.store.now c.switch.new.store c.left-count.result c.requires c.in-Some.job.now (sym c.in-Some.ensures) c.left-count.ensures
    c.switch.result c.switch.ensures.transition
