use Rattle.std.proofs.Common.{◌≡◌, IsTrue, sym, subst}
use Rattle.bk_store.specs.Contents.{SameContents}
use Rattle.bk_store.specs.Primitives.{HasNoWriting}
use Rattle.bk_store.specs.Internals.{with_durable_of}
use Rattle.bk_store.proofs.DurableNeverShrinks.{keeps_on}
use Rattle.bk_store.specs.declared.log.LogState.TheVariants.{Writing}
use Rattle.bk_store.proofs.InvariantCreateLog.{keeps_make}
use Rattle.bk_store.proofs.SameContents.{make_means}
use Rattle.bk_store.proofs.store.Store.create_log.Goals as goal

pub invariant_of-self : goal.invariant_of-self
invariant_of-self g c =
    keeps_make (with_durable_of c.self.inside.fields c.create_log.new.self) c.create_log.new.self c.args.state c.create_log.result
    (keeps_on c.self.inside.fields c.create_log.new.self c.self.invariant c.create_log.ensures.durable) c.requires.written
    (subst (λ s. c.args.state ≡ Writing → HasNoWriting s) (sym c.self.view_is) c.requires.one) c.create_log.ensures.transition c.create_log.ensures.internals

pub returns-clause-contents : goal.returns-clause-contents
returns-clause-contents g c =
    subst (λ s. IsTrue s.honest → SameContents s c.create_log.new.self.state) c.self.view_is
    (make_means c.self.inside.fields c.create_log.new.self c.args.state c.create_log.result c.self.invariant c.create_log.ensures.transition)
