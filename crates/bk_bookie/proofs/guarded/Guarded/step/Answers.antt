use Rattle.std.proofs.Common.{arith}
use Rattle.bk_bookie.proofs.Counts.{desk_on}
use Rattle.bk_bookie.proofs.Works.{work_leaves, work_answers}
use Rattle.bk_bookie.proofs.guarded.Guarded.step.Goals as goal

pub invariant_of-self : goal.invariant_of-self
invariant_of-self g c =
    desk_on _ c.apply.new.store _ _ _ _ _ c.self.inside.book.total 0 c.self.invariant
    (work_leaves c.self.inside.store c.apply.new.store c.apply.result c.reveal_invariant.ensures c.represented_map_is_contents.ensures c.apply.ensures.honest
    c.apply.ensures.frame.ledgers c.apply.ensures.plain) (omega arith)

pub returns-clause-answers : goal.returns-clause-answers
returns-clause-answers g c = work_answers _ c.apply.new.store c.args.work c.apply.result c.apply.ensures.transition
