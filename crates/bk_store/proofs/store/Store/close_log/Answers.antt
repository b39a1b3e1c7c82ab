use Rattle.std.proofs.Common.{IsTrue, sym, subst}
use Rattle.bk_store.specs.Primitives.{IsIn}
use Rattle.bk_store.specs.Contents.{SameContents}
use Rattle.bk_store.specs.declared.log.LogState.TheVariants.{Retired}
use Rattle.bk_store.proofs.InvariantSetState.{keeps_close}
use Rattle.bk_store.proofs.SameContents.{close_means}
use Rattle.bk_store.proofs.store.Store.close_log.Goals as goal

pub invariant_of-self : goal.invariant_of-self
invariant_of-self g c =
    keeps_close c.self.inside.fields c.close_log.new.self c.args.log c.close_log.result c.self.invariant
    (subst (λ s. IsIn s c.args.log Retired) (sym c.self.view_is) c.requires) c.close_log.ensures.transition c.close_log.ensures.internals

pub returns-clause-contents : goal.returns-clause-contents
returns-clause-contents g c =
    subst (λ s. IsTrue s.honest → SameContents s c.close_log.new.self.state) c.self.view_is
    (λ _. close_means c.self.inside.fields.state c.close_log.new.self.state c.args.log c.close_log.result c.close_log.ensures.transition)
