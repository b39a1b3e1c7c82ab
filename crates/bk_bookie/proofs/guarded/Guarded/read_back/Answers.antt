use Rattle.bk_bookie.proofs.Gives.{read_back_gives}
use Rattle.bk_bookie.proofs.guarded.Guarded.read_back.Goals as goal

pub returns-clause-gives : goal.returns-clause-gives
returns-clause-gives g c = λ honest.
    rw c.told_back.ensures
    (read_back_gives c.self.inside.store c.reveal_invariant.ensures (rw c.self.invariant.honest_is honest) (c.self.invariant.keyed honest) c.represented_map_is_contents.ensures g.D.View.LogView.bytes
    g.D.View.LogView.honest g.D.View.LogView.sound c.take_refines_abstract.ensures c.args.receipt.now (rw c.trail.ensures at c.in-Stands.ensures) c.take.new.self c.take.result c.take.ensures)
