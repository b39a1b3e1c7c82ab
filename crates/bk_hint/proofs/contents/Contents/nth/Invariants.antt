use Rattle.std.proofs.Common.{◌≡◌, slice_get}
use Rattle.bk_hint.specs.Runs.{entries_of_runs}
use Rattle.bk_hint.proofs.Runwise.{LegalRuns}
use Rattle.bk_hint.proofs.contents.Contents.nth.Given as goal

abbrev pub invariant-loop-run : goal.invariant-loop-run
invariant-loop-run l = record {
  placed : slice_get (entries_of_runs l.run-iterator) l.left ≡ slice_get l.self l.place;
  legal : LegalRuns l.run-iterator;
}
