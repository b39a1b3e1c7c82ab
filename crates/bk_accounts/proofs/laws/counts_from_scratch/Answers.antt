use Rattle.bk_accounts.proofs.FromScratch.{from_scratch}
use Rattle.bk_accounts.proofs.laws.counts_from_scratch.Goals as goal

pub returns : goal.returns
returns c = from_scratch
