use Rattle.std.proofs.Common.{◌∙◌}
use Rattle.bk_store.proofs.DurableNeverShrinks.{kept_on}
use Rattle.bk_store.proofs.OpenedSynced.{both_keep}
use Rattle.bk_store.proofs.showing.view_log.Goals as goal

pub returns-in_err-view-clause-durable : goal.returns-in_err-view-clause-durable
returns-in_err-view-clause-durable g c = both_keep c.in_ok-sync.ensures.honest c.in_ok-sync.ensures.durable c.in_err-view.ensures.durable

pub returns-in-Ok-clause-durable : goal.returns-in-Ok-clause-durable
returns-in-Ok-clause-durable g c = both_keep c.in_ok-sync.ensures.honest c.in_ok-sync.ensures.durable c.in_ok-view.ensures.durable

pub returns-in-Ok-clause-synced : goal.returns-in-Ok-clause-synced
returns-in-Ok-clause-synced g c = λ is.
    kept_on (c.in_ok-view.ensures.durable (c.in_ok-sync.ensures.honest ∙ is)) c.args.log _ (c.in_ok-sync.ensures.syncs is)

pub returns-clause-durable : goal.returns-clause-durable
returns-clause-durable g c = both_keep c.in_ok-sync.ensures.honest c.in_ok-sync.ensures.durable c.in_ok-view.ensures.durable
