use Rattle.std.proofs.Common.{IsTrue, sym, subst}
use Rattle.bk_record.specs.Location.{Place}
use Rattle.bk_store.specs.State.{State}
use Rattle.bk_store.specs.Contents.{SameContents}
use Rattle.bk_store.specs.CompactionPrimitives.{CanAppendCopied}
use Rattle.bk_store.specs.Internals.{with_durable_of}
use Rattle.bk_store.proofs.DurableNeverShrinks.{keeps_on}
use Rattle.bk_store.proofs.InvariantCopy.{keeps_copy}
use Rattle.bk_store.proofs.CopyContents.{copy_means}
use Rattle.bk_store.proofs.store.Store.append_copied.Goals as goal

pub invariant_of-self : goal.invariant_of-self
invariant_of-self g c =
    let may = subst (λ (s : State). (place : Place) × CanAppendCopied s c.args.log c.args.key place c.args.payload.now) (sym c.self.view_is) c.requires in
    keeps_copy (with_durable_of c.self.inside.fields c.append_copied.new.self) c.append_copied.new.self c.args.log c.args.key may.0 c.args.payload.now c.append_copied.result
    (keeps_on c.self.inside.fields c.append_copied.new.self c.self.invariant c.append_copied.ensures.durable) may.1
    c.append_copied.ensures.transition c.append_copied.ensures.internals

pub returns-clause-contents : goal.returns-clause-contents
returns-clause-contents g c =
    let may = subst (λ (s : State). (place : Place) × CanAppendCopied s c.args.log c.args.key place c.args.payload.now) (sym c.self.view_is) c.requires in
    subst (λ s. IsTrue s.honest → SameContents s c.append_copied.new.self.state) c.self.view_is
    (copy_means c.self.inside.fields c.append_copied.new.self c.args.log c.args.key may.0 c.args.payload.now c.append_copied.result c.self.invariant may.1 c.append_copied.ensures.transition)
