use Rattle.std.proofs.Common.{◌∙◌, ap}
use Rattle.std.proofs.lemmas.List.{take_all}
use Rattle.bk_deleted.specs.Deleting.{is_among}
use Rattle.bk_deleted.proofs.Sets.{one_more, some_key}
use Rattle.bk_deleted.proofs.deleted.set_of.Goals as goal

pub loop-ledger-preserved : goal.loop-ledger-preserved
loop-ledger-preserved c = record {
  exact = λ q. c.in_ok-insert.ensures.updates.0 q ∙ one_more c.args.ledgers.now c.loop-ledger.ledger-index 0 q c.loop-ledger-test.true _ (c.loop-ledger.invariant.exact q);
  some = λ _. some_key _ _ c.in_ok-insert.ensures.updates.1;
}

pub returns-clause-exact : goal.returns-clause-exact
returns-clause-exact c = λ q. c.loop-ledger.invariant.exact q
    ∙ ap (λ all. is_among all q) (take_all c.loop-ledger.ledger-index c.args.ledgers.now c.loop-ledger-test.false)
