use Rattle.bk_crash.proofs.Reopened.{recovered}
use Rattle.bk_crash.proofs.recovered.survives_with_ledgers.Goals as goal

pub returns-clause-survives : goal.returns-clause-survives
returns-clause-survives g c = λ honest records.
    recovered _ _ c.args.store.now c.args.ledgers.now c.reveal_invariant.ensures honest (c.survives_crash.ensures.survives_crash honest) (c.requires honest records)
