use Rattle.std.proofs.Common.{◌≡◌, ◌-◌, ◌*◌, ◌≤◌}
use Rattle.bk_accounts.specs.Book.{total_at, remaining_at}
use Rattle.bk_store.proofs.LogSums.{sum_below}
use Rattle.bk_store.proofs.fields.Fields.bytes.Given as goal

abbrev pub invariant-loop-id : goal.invariant-loop-id
invariant-loop-id g l = record {
  ids : l.from ≤ 2147483648;
  small : l.total ≤ l.from * 4294967296;
  small_live : l.live ≤ l.from * 4294967296;
  total : l.total ≡ sum_below l.self.state.logs (total_at l.self.accounts) l.from;
  live : l.live ≡ sum_below l.self.state.logs (remaining_at l.self.accounts) l.from;
}

abbrev pub decreases-loop-id : goal.decreases-loop-id
decreases-loop-id g l = 2147483648 - l.from
