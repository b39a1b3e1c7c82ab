use Rattle.std.proofs.Common.{◌≡◌, ◌++◌, take}
use Rattle.std.specs.List.{flat_map}
use Rattle.bk_hint.specs.Hint.{head_bytes}
use Rattle.bk_hint.proofs.writing.put_heads.Given as goal

abbrev pub invariant-loop-head : goal.invariant-loop-head
invariant-loop-head l = l.out.items ≡ l.initial.out.items ++ flat_map head_bytes (take l.head-index l.heads)
