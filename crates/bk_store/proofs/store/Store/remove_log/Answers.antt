use Rattle.std.proofs.Common.{IsTrue, sym, subst}
use Rattle.bk_store.specs.Contents.{SameContents}
use Rattle.bk_store.specs.Primitives.{IsIn}
use Rattle.bk_store.specs.declared.log.LogState.TheVariants.{Closed}
use Rattle.bk_store.proofs.InvariantRemoveLog.{keeps_remove}
use Rattle.bk_store.proofs.CopyContents.{remove_means}
use Rattle.bk_store.proofs.store.Store.remove_log.Goals as goal

pub invariant_of-self : goal.invariant_of-self
invariant_of-self g c =
    keeps_remove c.self.inside.fields c.remove_log.new.self c.args.log c.remove_log.result c.self.invariant
    (subst (λ s. IsIn s c.args.log Closed) (sym c.self.view_is) c.requires) c.remove_log.ensures.transition c.remove_log.ensures.internals
    c.remove_log.ensures.durable

pub returns-clause-contents : goal.returns-clause-contents
returns-clause-contents g c =
    subst (λ s. IsTrue s.honest → SameContents s c.remove_log.new.self.state) c.self.view_is
    (remove_means c.self.inside.fields c.remove_log.new.self c.args.log c.remove_log.result c.self.invariant
    (subst (λ s. IsIn s c.args.log Closed) (sym c.self.view_is) c.requires) c.remove_log.ensures.transition)
