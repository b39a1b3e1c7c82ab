use Rattle.std.proofs.Common.{rules}
use Rattle.bk_log.proofs.Tallies.{none_last}
use Rattle.bk_log.proofs.sizes.LedgerSizes.new.Goals as goal

pub invariant_of-result : goal.invariant_of-result
invariant_of-result c = none_last _ 0 (search rules)
