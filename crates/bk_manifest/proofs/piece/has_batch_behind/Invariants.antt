use Rattle.std.proofs.Common.{◌≡◌, ◌-◌, length}
use Rattle.bk_manifest.specs.Batch.{any_whole, any_behind}
use Rattle.bk_manifest.proofs.piece.has_batch_behind.Given as goal

abbrev pub invariant-loop-behind : goal.invariant-loop-behind
invariant-loop-behind l = any_whole (length l.file - l.behind) l.generation l.file l.behind ≡ any_behind l.generation l.file l.place
