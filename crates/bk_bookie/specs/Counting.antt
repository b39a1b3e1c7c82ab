-- Counts of a store, as a pass gets them.
use Rattle.std.specs.Prelude.{◌≡◌, ◌-◌, ◌≤◌, ◌^◌, length, min}
use Rattle.std.specs.FinMap as map
use Rattle.bk_cache.specs.Caches.{used_of, flush_of}
use Rattle.bk_store.specs.Fronts.{AreDurable}
use Rattle.bk_store.specs.State.{State}
use Rattle.bk_store.specs.declared.stats.Stats.{Stats}
use Rattle.bk_bookie.specs.Passes.{PassView}

-- The counts of a store.
abbrev pub stats_of : State → Stats
stats_of s = record {
  logs = map.len s.logs;
  next = s.next;
  indexed = map.len s.index;
  cached = used_of s.caches.active;
  flushing = used_of (flush_of s.caches);
  front = length s.ledgers.trail;
  durable = s.fronts.durable;
  failures = min s.failures (2 ^ 64 - 1);
}

-- The entry of each add whose mark is below the durable front of these counts is durable, or its
-- ledger is deleted.
abbrev pub TellsDurable : State → Stats → Type 0
TellsDurable s stats = AreDurable stats.durable s.index s.logs s.ledgers

-- The pass has observed the marks that are counted, and the durable ones are among them.
pub record CountsMarks (q : PassView) (stats : Stats) : Type 0 where
  pub front : stats.front ≡ q.seen
  pub durable : stats.durable ≤ stats.front
