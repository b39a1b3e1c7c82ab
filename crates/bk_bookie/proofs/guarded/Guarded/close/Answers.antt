use Rattle.std.proofs.Common.{arith}
use Rattle.bk_bookie.proofs.Counts.{add_count-le}
use Rattle.bk_bookie.proofs.guarded.Guarded.close.Goals as goal

pub overflow_add-adds : goal.overflow_add-adds
overflow_add-adds g c =
    let within = add_count-le c.self.inside.store.ledgers.trail in
    record { fits = omega (arith, c.self.invariant.adds, within, c.front-front.ensures, c.audit.ensures.bound, c.merge.ensures.amount, c.pass.invariant.1) }
