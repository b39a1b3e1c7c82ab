-- A call on an honest disk after which it keeps as much as before: the store invariant holds with
-- what it keeps then.
use Rattle.std.proofs.Common.{ℕ, List}
use Rattle.bk_record.specs.Files.{Files}
use Rattle.bk_record.proofs.Longer.{longer_trans}
use Rattle.bk_disk.specs.Durable.{IsDurable, DurableGrows}
use Rattle.bk_store.specs.Logs.{Log}
use Rattle.bk_store.specs.State.{StoreParts}
use Rattle.bk_store.specs.Invariant.{StoreInvariant, ContentInvariant, LogMatchesFile}
use Rattle.bk_store.specs.Internals.{DurableNeverShrinks, with_durable_of}
use Rattle.bk_store.proofs.RemovedFiles.{harmless_fewer}

-- what was kept is kept still
pub kept_on : {kept gone kept' gone' : Files} → DurableGrows kept gone kept' gone' → (log : ℕ) (file : List ℕ) → IsDurable kept log file → IsDurable kept' log file
kept_on more log file was = let now = more.more log was.0 was.1 in (now.0, now.1, longer_trans file was.0 now.0 was.2 now.2)

-- a log is backed as it was, where what its view shows is kept still
pub backed_on : {files kept kept' : Files} (id : ℕ) (log : Log) → ((file : List ℕ) → IsDurable kept id file → IsDurable kept' id file)
    → LogMatchesFile files kept id log → LogMatchesFile files kept' id log
backed_on id log on old = record {
  stands = old.stands;
  writes = old.writes;
  honest = old.honest;
  spelled = old.spelled;
  shown = old.shown;
  kept = λ view is opened. on view.bytes (old.kept view is opened);
}

promises_on : (p : StoreParts) (synced gone : Files) → DurableGrows p.synced p.gone synced gone → ContentInvariant p → ContentInvariant (record p { synced = synced; gone = gone })
promises_on p synced gone more reveal_invariant = record {
  map = record {
    carried = reveal_invariant.map.carried;
    carries = reveal_invariant.map.carries;
    harmless = harmless_fewer p.gone gone more.back reveal_invariant.map.harmless;
    recent = reveal_invariant.map.recent;
    replays = reveal_invariant.map.replays;
  };
  shows = reveal_invariant.shows;
  counted = reveal_invariant.counted;
  logs = record {
    each = λ id log held. backed_on id log (λ file. kept_on more id file) (reveal_invariant.logs.each id log held);
    fresh = reveal_invariant.logs.fresh;
  };
  placed = reveal_invariant.placed;
}

pub keeps_on : (p q : StoreParts) → StoreInvariant p → DurableNeverShrinks p q → StoreInvariant (with_durable_of p q)
keeps_on p q keeps on = record {
  fits = keeps.fits;
  job = keeps.job;
  fronts = keeps.fronts;
  promises = λ honest. promises_on p q.synced q.gone (on honest) (keeps.promises honest);
}
