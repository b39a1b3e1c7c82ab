use Rattle.std.proofs.Common.{IsTrue, sym, subst}
use Rattle.bk_store.specs.Contents.{SameContents}
use Rattle.bk_store.specs.Primitives.{AllIndexed}
use Rattle.bk_store.proofs.InvariantFlushEnds.{keeps_end}
use Rattle.bk_store.proofs.SameContents.{end_means}
use Rattle.bk_store.proofs.store.Store.end_flush.Goals as goal

pub invariant_of-self : goal.invariant_of-self
invariant_of-self g c =
    keeps_end c.self.inside.fields c.end_flush.new.self c.self.invariant (subst AllIndexed (sym c.self.view_is) c.requires) c.end_flush.ensures.transition
    c.end_flush.ensures.internals

pub returns-clause-contents : goal.returns-clause-contents
returns-clause-contents g c =
    subst (λ s. IsTrue s.honest → SameContents s c.end_flush.new.self.state) c.self.view_is
    (end_means c.self.inside.fields c.end_flush.new.self c.self.invariant (subst AllIndexed (sym c.self.view_is) c.requires) c.end_flush.ensures.transition)
