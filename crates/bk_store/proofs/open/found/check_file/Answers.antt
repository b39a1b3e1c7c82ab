use Rattle.std.proofs.Common.{◌∙◌}
use Rattle.bk_store.proofs.DurableNeverShrinks.{kept_on}
use Rattle.bk_store.proofs.OpenedSynced.{both_keep, on_any}
use Rattle.bk_store.proofs.open.found.check_file.Goals as goal

pub returns-clause-durable : goal.returns-clause-durable
returns-clause-durable g c = both_keep c.in_ok-keep.ensures.honest c.in_ok-keep.ensures.durable c.judge_file.ensures.durable

pub returns-clause-synced : goal.returns-clause-synced
returns-clause-synced g c = λ file is stands.
    on_any c.judge_file.result
    (kept_on (c.judge_file.ensures.durable (c.in_ok-keep.ensures.honest ∙ is)) c.args.id file (c.in_ok-keep.ensures.synced file is stands))
