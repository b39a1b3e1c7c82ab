use Rattle.std.proofs.Common.{ℕ, ◌<◌, get_or}
use Rattle.bk_accounts.specs.Book.{HasAccount}
use Rattle.bk_base_tests.proofs.tests.accounts.worked.choice.Given as goal

-- the logs so far are open
abbrev pub invariant-loop-log : goal.invariant-loop-log
invariant-loop-log l = (k d : ℕ) → k < l.log-index → HasAccount l.accounts (get_or l.allowed k d)
