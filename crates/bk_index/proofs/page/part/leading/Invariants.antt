use Rattle.std.proofs.Common.{length, ◌-◌, ◌≡◌, ◌<◌, ◌≤◌, take}
use Rattle.std.specs.List.{AllByRecursion}
use Rattle.bk_index.proofs.page.part.leading.Given as goal

-- the locations of so many first items are in the log
abbrev pub invariant-loop-count : goal.invariant-loop-count
invariant-loop-count g l = record {
  some : 0 < l.count;
  within : l.count ≤ length l.items;
  same : AllByRecursion (λ item. item.1.log ≡ l.log) (take l.count l.items);
}

abbrev pub decreases-loop-count : goal.decreases-loop-count
decreases-loop-count g l = length l.items - l.count
