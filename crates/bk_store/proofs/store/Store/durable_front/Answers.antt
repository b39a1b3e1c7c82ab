use Rattle.std.proofs.Common.{IsTrue, sym, ap, subst}
use Rattle.bk_store.specs.Fronts.{AreDurable}
use Rattle.bk_store.specs.State.{State}
use Rattle.bk_store.proofs.DurableMarks.{durable_means}
use Rattle.bk_store.proofs.store.Store.durable_front.Goals as goal

pub returns-clause-meaning : goal.returns-clause-meaning
returns-clause-meaning g c =
    let p = c.self.inside.fields in
    let s = c.args.self.now in
    subst (λ n. IsTrue s.honest → AreDurable n s.index s.logs s.ledgers) (ap (λ x. x.fields.state.fronts.durable) (sym c.self-inside.view_is))
    (subst (λ (x : State). IsTrue x.honest → AreDurable p.state.fronts.durable x.index x.logs x.ledgers) c.self.view_is (durable_means p c.self.invariant))
