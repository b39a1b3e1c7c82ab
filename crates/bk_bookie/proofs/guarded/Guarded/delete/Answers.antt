use Rattle.std.proofs.Common.{arith}
use Rattle.bk_store.specs.Transitions.{DeleteTransition}
use Rattle.bk_bookie.proofs.Counts.{delete_leaves, desk_on}
use Rattle.bk_bookie.proofs.Told.{one_turn}
use Rattle.bk_bookie.proofs.guarded.Guarded.delete.Goals as goal

pub returns-clause-transition : goal.returns-clause-transition
returns-clause-transition g c =
    rw c.told.ensures
    (one_turn (λ s answer t. DeleteTransition s c.args.ledger answer t) c.args.self.now.store c.args.pass.now c.delete-answer.result c.delete-answer.new.self _
    (rw (← c.self.view_is) c.delete-answer.ensures) (record { before = c.in_default.ensures.none; after = c.front-pass-inside.ensures }))

pub invariant_of-self : goal.invariant_of-self
invariant_of-self g c =
    desk_on _ c.delete-answer.new.self _ _ _ _ _ c.self.inside.book.total 0 c.self.invariant
    (delete_leaves c.self.inside.store c.delete-answer.new.self c.args.ledger c.delete-answer.result c.delete-answer.ensures) (omega arith)
