-- Counts: what a store answers, and what the abstract map answers. Neither is changed.
use Rattle.std.specs.Prelude.{length, unwrap_or}
use Rattle.std.specs.FinMap as finite
use Rattle.bk_cache.specs.Caches.{used_of, flush_of}
use Rattle.bk_store.specs.State.{State}
use Rattle.bk_store.specs.Abstract.{AbstractState}
use Rattle.bk_drive.specs.declared.counts.Counts.{Counts}

-- Counts of a store.
abbrev pub counts_of : State → Counts
counts_of s = record {
  cached = used_of s.caches.active;
  flushing = used_of (flush_of s.caches);
  front = length s.ledgers.trail;
  durable = s.fronts.durable;
}

-- Counts of the abstract map: bytes of the entries that are only cached, number of marks, and the
-- number that the last publish or the last swap without a flush set.
abbrev pub abstract_counts : AbstractState → Counts
abstract_counts p = record {
  cached = used_of p.active;
  flushing = used_of (unwrap_or p.flush finite.empty);
  front = length p.ledgers.trail;
  durable = p.fronts.durable;
}
