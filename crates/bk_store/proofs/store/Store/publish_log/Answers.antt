use Rattle.std.proofs.Common.{sym, subst}
use Rattle.bk_store.specs.Primitives.{CanPublishLog}
use Rattle.bk_store.specs.Internals.{with_durable_of}
use Rattle.bk_store.proofs.DurableNeverShrinks.{keeps_on}
use Rattle.bk_store.proofs.InvariantPublishLog.{keeps_show}
use Rattle.bk_store.proofs.store.Store.publish_log.Goals as goal

pub invariant_of-self : goal.invariant_of-self
invariant_of-self g c =
    keeps_show (with_durable_of c.self.inside.fields c.publish_log.new.self) c.publish_log.new.self c.args.log c.publish_log.result
    (keeps_on c.self.inside.fields c.publish_log.new.self c.self.invariant c.publish_log.ensures.durable)
    (subst (λ s. CanPublishLog s c.args.log) (sym c.self.view_is) c.requires) c.publish_log.ensures.transition c.publish_log.ensures.synced c.publish_log.ensures.internals
