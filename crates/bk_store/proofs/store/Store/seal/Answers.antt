use Rattle.std.proofs.Common.{IsTrue, sym, subst}
use Rattle.bk_store.specs.Contents.{SameContents}
use Rattle.bk_store.specs.Primitives.{CanSealLog}
use Rattle.bk_store.specs.Internals.{with_durable_of}
use Rattle.bk_store.proofs.DurableNeverShrinks.{keeps_on}
use Rattle.bk_store.proofs.InvariantSeal.{keeps_seal}
use Rattle.bk_store.proofs.SameContents.{seal_means}
use Rattle.bk_store.proofs.store.Store.seal.Goals as goal

pub invariant_of-self : goal.invariant_of-self
invariant_of-self g c =
    keeps_seal (with_durable_of c.self.inside.fields c.seal.new.self) c.seal.new.self c.args.log c.args.state c.seal.result
    (keeps_on c.self.inside.fields c.seal.new.self c.self.invariant c.seal.ensures.durable)
    (subst (λ s. CanSealLog s c.args.log c.args.state) (sym c.self.view_is) c.requires) c.seal.ensures.transition c.seal.ensures.internals

pub returns-clause-contents : goal.returns-clause-contents
returns-clause-contents g c =
    subst (λ s. IsTrue s.honest → SameContents s c.seal.new.self.state) c.self.view_is
    (seal_means c.self.inside.fields c.seal.new.self c.args.log c.args.state c.seal.result c.self.invariant c.seal.ensures.transition)
