use Rattle.std.proofs.Common.{◌≡◌, ◌+◌, ◌≤◌, length}
use Rattle.std.specs.Map.{values_of}
use Rattle.std.specs.BTreeMap.{btree_map_len}
use Rattle.bk_manifest.specs.State.{standing_in, standing}
use Rattle.bk_manifest.proofs.state.State.live.Given as goal

abbrev pub invariant-loop-said : goal.invariant-loop-said
invariant-loop-said l = record {
  count : l.live + length (standing_in (values_of l.said-iterator)) ≡ length (standing l.self);
  fits : l.live + length l.said-iterator ≤ btree_map_len l.self.last;
}
