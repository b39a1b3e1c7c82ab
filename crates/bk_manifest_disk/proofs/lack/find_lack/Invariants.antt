use Rattle.std.proofs.Common.{take}
use Rattle.std.specs.List.{AllByRecursion}
use Rattle.bk_manifest.specs.Fact.{facts}
use Rattle.bk_manifest_disk.specs.Table.{IsChecked}
use Rattle.bk_manifest_disk.proofs.lack.find_lack.Given as goal

abbrev pub invariant-loop-one : goal.invariant-loop-one
invariant-loop-one l = AllByRecursion (IsChecked l.state l.lengths) (facts (take l.one-index l.one-items))
