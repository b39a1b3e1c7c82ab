-- What was read so far is records, and the store gained their entries.
use Rattle.std.proofs.Common.{◌≡◌, IsTrue}
use Rattle.bk_store.specs.Contents.{contents_at}
use Rattle.bk_import.proofs.Gaining.{ImportsSome}
use Rattle.bk_import.proofs.importing.add_all.Given as goal

abbrev pub invariant-records : goal.invariant-records
invariant-records g l = record {
  imports : ImportsSome (IsTrue l.initial.store.honest) (g.R.Read.remaining l.initial.reader) (g.R.Read.remaining l.reader)
      (contents_at l.initial.store) (contents_at l.store);
  honest : l.store.honest ≡ l.initial.store.honest;
}
