use Rattle.std.proofs.Common.{◌≡◌}
use Rattle.bk_store.proofs.OpenedFinds.{IsFinding}
use Rattle.bk_store.proofs.Seating.{IsSeating}
use Rattle.bk_store.proofs.OpenedSynced.{IsKeeping}
use Rattle.bk_store.proofs.open.logs.find_all.Given as goal

abbrev pub invariant-loop-id : goal.invariant-loop-id
invariant-loop-id g l =
    IsFinding (g.D.LogDisk.honest l.initial.disk) (g.D.LogDisk.files l.initial.disk) (g.D.LogDisk.failures l.initial.disk) l.ids l.initial.tally
    l.initial.logs (g.D.LogDisk.honest l.disk) (g.D.LogDisk.files l.disk) (g.D.LogDisk.failures l.disk) l.id-index l.next l.tally l.logs
    × IsSeating l.initial.keeper l.keeper l.logs l.slot l.next × (l.slot ≡ l.id-index)
    × IsKeeping (g.D.LogDisk.honest l.initial.disk) (g.D.LogDisk.files l.initial.disk) l.ids l.id-index (g.D.LogDisk.synced l.initial.disk)
    (g.D.LogDisk.gone l.initial.disk) (g.D.LogDisk.synced l.disk) (g.D.LogDisk.gone l.disk)
