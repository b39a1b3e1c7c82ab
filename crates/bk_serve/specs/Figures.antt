-- The answer to a request for the figures of the store.
use Rattle.std.specs.Prelude.{◌≡◌, ℕ, ◌-◌, ◌^◌, length, min, IsTrue}
use Rattle.std.specs.FinMap as finite
use Rattle.bk_cache.specs.Caches.{used_of, flush_of}
use Rattle.bk_lease.specs.Values.{CountsLeases}
use Rattle.bk_store.specs.CompactionPrimitives.{log_bytes, live_log_bytes}
use Rattle.bk_store.specs.LogSums.{over_logs}
use Rattle.bk_store.specs.State.{State}
use Rattle.bk_serve_core.specs.Replies.{Told, done, figures}
use Rattle.bk_serve.specs.Works.{capped}

-- the payload bytes of both write caches
abbrev pub cached_bytes : State → ℕ
cached_bytes s = capped (used_of s.caches.active) (used_of (flush_of s.caches))

-- the failures of the disk, as a number of eight bytes
abbrev pub failure_count : State → ℕ
failure_count s = min s.failures (2 ^ 64 - 1)

-- On an honest disk `bytes` and `live` are those of all logs together.
pub record FiguresAnswers (s : State) (reply : Told) : Type 0 where
  pub bytes : ℕ
  pub live : ℕ
  pub leases : ℕ
  pub all : IsTrue s.honest → bytes ≡ over_logs s.logs (log_bytes s)
  pub living : IsTrue s.honest → live ≡ over_logs s.logs (live_log_bytes s)
  pub out : CountsLeases s.keeper leases
  pub says : reply ≡ done (figures (finite.len s.logs) bytes live (cached_bytes s) (finite.len s.index) s.fronts.durable s.next (length s.ledgers.trail) leases (failure_count s))
