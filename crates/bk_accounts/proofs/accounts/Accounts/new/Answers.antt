use Rattle.bk_accounts.proofs.Listings.{listed_none}
use Rattle.bk_accounts.proofs.accounts.Accounts.new.Goals as goal

pub invariant_of-result : goal.invariant_of-result
invariant_of-result c = listed_none c.new.result c.new-2.result c.new.ensures.empty c.new-2.ensures.empty
