use Rattle.std.proofs.Common.{length}
use Rattle.std.specs.FinMap as map
use Rattle.bk_store.proofs.OpenedSums.{IsNaming}
use Rattle.bk_store.proofs.open.tally.name_each.Given as goal

-- the entries that are left name their logs as all of them do
abbrev pub invariant-loop-log : goal.invariant-loop-log
invariant-loop-log l = IsNaming (map.entries l.index) l.initial.accounts l.walk l.accounts

abbrev pub decreases-loop-log : goal.decreases-loop-log
decreases-loop-log l = length l.walk
