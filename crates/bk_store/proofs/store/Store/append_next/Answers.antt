use Rattle.std.proofs.Common.{IsTrue, subst}
use Rattle.bk_store.specs.Contents.{SameContents}
use Rattle.bk_store.specs.Primitives.{AppendNextTransition}
use Rattle.bk_store.specs.Internals.{with_durable_of}
use Rattle.bk_store.proofs.DurableNeverShrinks.{keeps_on}
use Rattle.bk_store.proofs.AppendedEntry.{keeps_next, next_turn, next_means}
use Rattle.bk_store.proofs.store.Store.append_next.Goals as goal

pub invariant_of-self : goal.invariant_of-self
invariant_of-self g c =
    let kept = keeps_on c.self.inside.fields c.append_next.new.self c.self.invariant c.append_next.ensures.durable in
    keeps_next (with_durable_of c.self.inside.fields c.append_next.new.self) c.append_next.new.self c.append_next.result kept c.append_next.ensures.parts

pub returns-clause-transition : goal.returns-clause-transition
returns-clause-transition g c =
    subst (λ s. AppendNextTransition s c.append_next.result c.append_next.new.self.state) c.self.view_is
    (next_turn (with_durable_of c.self.inside.fields c.append_next.new.self) c.append_next.new.self c.append_next.result c.append_next.ensures.parts)

pub returns-clause-contents : goal.returns-clause-contents
returns-clause-contents g c =
    let kept = keeps_on c.self.inside.fields c.append_next.new.self c.self.invariant c.append_next.ensures.durable in
    subst (λ s. IsTrue s.honest → SameContents s c.append_next.new.self.state) c.self.view_is
    (next_means (with_durable_of c.self.inside.fields c.append_next.new.self) c.append_next.new.self c.append_next.result kept c.append_next.ensures.parts)
