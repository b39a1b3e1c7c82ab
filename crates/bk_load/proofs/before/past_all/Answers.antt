use Rattle.std.proofs.Common.{ℕ, ◌<◌, ◌≤◌, List, arith, subst}
use Rattle.std.specs.List.{All}
use Rattle.std.proofs.lemmas.List.{take_all}
use Rattle.bk_load.proofs.Past.{one_more}
use Rattle.bk_load.proofs.before.past_all.Goals as goal

pub loop-ledger-preserved : goal.loop-ledger-preserved
loop-ledger-preserved c = record {
  above = omega (arith, c.loop-ledger.invariant.above, c.past-first.ensures.above);
  past = λ m up.
      one_more m c.args.ledgers.now c.loop-ledger.ledger-index 0 c.loop-ledger-test.true
      (c.loop-ledger.invariant.past m (omega (arith, up, c.past-first.ensures.above))) (omega (arith, up, c.past-first.ensures.past));
}

pub returns-clause-past : goal.returns-clause-past
returns-clause-past c =
    subst (λ (xs : List ℕ). All (λ x. x < c.loop-ledger.first) xs) (take_all c.loop-ledger.ledger-index c.args.ledgers.now c.loop-ledger-test.false)
    (c.loop-ledger.invariant.past c.loop-ledger.first (omega arith))
