use Rattle.std.proofs.Common.{◌≡◌, ◌++◌}
use Rattle.std.specs.Map.{values_of}
use Rattle.bk_manifest.specs.Fact.{facts}
use Rattle.bk_manifest.specs.State.{standing_in, standing}
use Rattle.bk_manifest.proofs.state.State.records.Given as goal

abbrev pub invariant-loop-said : goal.invariant-loop-said
invariant-loop-said l = facts l.records.items ++ standing_in (values_of l.said-iterator) ≡ standing l.self
