use Rattle.std.proofs.Common.{take}
use Rattle.bk_accounts.specs.Book.{total_at, remaining_at}
use Rattle.bk_accounts.proofs.Choices.{IsLowest}
use Rattle.bk_accounts.proofs.accounts.Accounts.lowest_below.Given as goal

-- loop invariant: the lowest usage is that of the choice among the logs so far
abbrev pub invariant-loop-log : goal.invariant-loop-log
invariant-loop-log l = IsLowest (total_at l.self) (remaining_at l.self) l.threshold (take l.log-index l.allowed) l.lowest
