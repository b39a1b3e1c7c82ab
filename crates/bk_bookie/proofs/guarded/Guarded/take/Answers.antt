use Rattle.bk_bookie.proofs.Gives.{take_gives}
use Rattle.bk_bookie.proofs.guarded.Guarded.take.Goals as goal

pub returns-clause-gives : goal.returns-clause-gives
returns-clause-gives g c = λ honest.
    rw c.told.ensures
    (take_gives c.self.inside.store c.reveal_invariant.ensures (rw c.self.invariant.honest_is honest) (c.self.invariant.keyed honest) c.represented_map_is_contents.ensures g.D.View.LogView.bytes
    g.D.View.LogView.honest g.D.View.LogView.sound c.take_refines_abstract.ensures c.take-answer.new.self c.args.key c.take-answer.result
    c.take-answer.ensures)
