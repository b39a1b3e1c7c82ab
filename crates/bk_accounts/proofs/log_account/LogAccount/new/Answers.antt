use Rattle.bk_accounts.proofs.LogAccounts.{split_empty}
use Rattle.bk_accounts.proofs.log_account.LogAccount.new.Goals as goal

pub invariant_of-result : goal.invariant_of-result
invariant_of-result c = rw c.new.ensures.empty (record { split = split_empty; held = tt })
