use Rattle.std.proofs.Common.{◌≡◌, length}
use Rattle.bk_deleted.specs.Deleting.{Extends}
use Rattle.bk_deleted.proofs.deleted.deleted_in.Given as goal

abbrev pub invariant-loop-file : goal.invariant-loop-file
invariant-loop-file g l = record {
  named : Extends l.initial.named.items l.named.items;
  alone : length l.file-items ≡ 0 → l.named.items ≡ l.initial.named.items;
}
