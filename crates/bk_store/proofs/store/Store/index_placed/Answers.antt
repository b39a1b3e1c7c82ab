use Rattle.std.proofs.Common.{IsTrue, sym, subst}
use Rattle.bk_store.specs.Contents.{SameContents}
use Rattle.bk_store.specs.Primitives.{CanIndexPlaced, IndexPlacedTransition}
use Rattle.bk_store.proofs.InvariantIndexEntry.{keeps_name}
use Rattle.bk_store.proofs.IndexedEntry.{can_index, index_means}
use Rattle.bk_store.proofs.store.Store.index_placed.Goals as goal

pub invariant_of-self : goal.invariant_of-self
invariant_of-self g c =
    let turn = c.index_placed.ensures.turn in
    let may = subst (λ s. CanIndexPlaced s c.args.number) (sym c.self.view_is) c.requires in
    keeps_name c.self.inside.fields c.index_placed.new.self turn.key turn.place c.index_placed.result c.self.invariant
    (can_index c.self.inside.fields.state c.args.number may turn.key turn.place turn.at) turn.indexed c.index_placed.ensures.beside

pub returns-clause-transition : goal.returns-clause-transition
returns-clause-transition g c =
    subst (λ s. IndexPlacedTransition s c.args.number c.index_placed.result c.index_placed.new.self.state) c.self.view_is c.index_placed.ensures.turn

pub returns-clause-contents : goal.returns-clause-contents
returns-clause-contents g c =
    let turn = c.index_placed.ensures.turn in
    subst (λ s. IsTrue s.honest → SameContents s c.index_placed.new.self.state) c.self.view_is
    (λ honest. index_means c.self.inside.fields.state c.index_placed.new.self.state turn.key turn.place c.index_placed.result turn.indexed)
