use Rattle.bk_cli.proofs.CommandLines.{ledgers_more, not_ledgers}
use Rattle.bk_cli.proofs.ledgers.ledgers_of.Goals as goal

pub returns-in-None : goal.returns-in-None
returns-in-None c = λ dead. not_ledgers c.args.words.now dead _ _ c.loop-text-test.true c.in-None.ensures.none

pub loop-text-preserved : goal.loop-text-preserved
loop-text-preserved c =
    rw c.in_ok-push-in-Some.ensures.items (ledgers_more c.args.words.now _ _ _ _ c.loop-text-test.true c.loop-text.invariant c.in-Some.ensures.value)
