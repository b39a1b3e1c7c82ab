-- The plan of a sweep: a log that no key names.
use Rattle.std.proofs.Common.{◌≡◌, ℕ}
use Rattle.bk_record.specs.Keyed.{log_count}
use Rattle.bk_record.proofs.KeyedCounts.{log_count-zero}
use Rattle.bk_store.specs.State.{State}
use Rattle.bk_offline_gc.specs.Planning.{IsUnnamed}

pub no_key_names : (s : State) (log : ℕ) → log_count s.index log ≡ 0 → IsUnnamed s log
no_key_names s log none = log_count-zero s.index log none
