use Rattle.std.proofs.Common.{sym, subst}
use Rattle.bk_lease.specs.Values.{CountsLeases}
use Rattle.bk_store.specs.Invariant.{StoreInvariant}
use Rattle.bk_store.specs.State.{State, StoreParts}
use Rattle.bk_store.proofs.store.Store.count_leases.Goals as goal

pub invariant_of-self : goal.invariant_of-self
invariant_of-self g c = subst (λ (p : StoreParts). StoreInvariant p) (sym c.count_leases.ensures.unchanged) c.self.invariant

pub returns-clause-counts : goal.returns-clause-counts
returns-clause-counts g c = subst (λ (s : State). CountsLeases s.keeper c.count_leases.result) c.self.view_is c.count_leases.ensures.counts
