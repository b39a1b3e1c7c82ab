use Rattle.std.proofs.Common.{List, drop}
use Rattle.bk_manifest.specs.Fact.{Fact}
use Rattle.bk_manifest.specs.State.{IsStateOf, KeepsMemory, without_deletions}
use Rattle.bk_manifest.proofs.Forgetting.{IsLeft}
use Rattle.bk_manifest.proofs.state.State.forget_deletions.Given as goal

abbrev pub invariant-loop-ledger : goal.invariant-loop-ledger
invariant-loop-ledger l = record {
  left : (facts : List Fact) → IsStateOf facts l.fn.self → IsLeft l.self (drop l.ledger-index l.ledgers) (without_deletions l.fn.ledgers facts);
  keeps : KeepsMemory l.fn.self l.self;
}
