use Rattle.std.proofs.Common.{IsSome, IsTrue, sym, subst}
use Rattle.std.specs.List.{All}
use Rattle.std.specs.FinMap as finite
use Rattle.bk_store.specs.CompactionPrimitives.{IsLeastUsed}
use Rattle.bk_store.specs.Invariant.{StoreInvariant}
use Rattle.bk_store.specs.State.{StoreParts}
use Rattle.bk_store.proofs.Choosing.{accounts_open, least_used}
use Rattle.bk_store.proofs.fields.Fields.least_used.Goals as goal

pub lowest_below-requires : goal.lowest_below-requires
lowest_below-requires g c =
    accounts_open _ (subst StoreInvariant (sym c.self.view_is) c.requires.keeps) c.args.allowed.now
    (subst (λ (p : StoreParts). All (λ id. IsSome (finite.get p.state.logs id)) c.args.allowed.now) (sym c.self.view_is) c.requires.held)

pub returns : goal.returns
returns g c =
    subst (λ (p : StoreParts). IsTrue p.state.honest → IsLeastUsed p.state c.args.threshold c.args.allowed.now c.lowest_below.result) c.self.view_is
    (least_used _ (subst StoreInvariant (sym c.self.view_is) c.requires.keeps) c.args.threshold c.args.allowed.now c.lowest_below.result c.lowest_below.ensures)
