use Rattle.std.proofs.Common.{◌≡◌}
use Rattle.bk_store.specs.Contents.{PreservesContents}
use Rattle.bk_import.proofs.importing.write_all.Given as goal

abbrev pub invariant-entries : goal.invariant-entries
invariant-entries g l = record {
  frame : PreservesContents l.initial.store l.store;
  active : l.store.caches.active ≡ l.initial.store.caches.active;
}
