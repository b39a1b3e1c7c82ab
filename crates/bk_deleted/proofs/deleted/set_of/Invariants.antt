use Rattle.std.proofs.Common.{◌≡◌, ℕ, ◌<◌, take}
use Rattle.std.specs.Ordering.{nat_cmp}
use Rattle.std.specs.BTreeSet.{contains, btree_set_len}
use Rattle.bk_deleted.specs.Deleting.{is_among}
use Rattle.bk_deleted.proofs.deleted.set_of.Given as goal

abbrev pub invariant-loop-ledger : goal.invariant-loop-ledger
invariant-loop-ledger l = record {
  exact : (ledger : ℕ) → contains nat_cmp l.set ledger ≡ is_among (take l.ledger-index l.ledgers) ledger;
  some : 0 < l.ledger-index → 0 < btree_set_len l.set;
}
