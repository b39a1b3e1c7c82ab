-- Ranges of the settings (this project's rule).
use Rattle.std.specs.Prelude.{◌≤◌}
use Rattle.bk_record.specs.Limits.{max_log_limit, max_cache_limit}
use Rattle.bk_store.specs.declared.settings.Settings.{Settings}

-- each number is in its range
pub record IsAllowed (settings : Settings) : Type 0 where
  pub log_least : 2048 ≤ settings.log_limit
  pub log_most : settings.log_limit ≤ max_log_limit
  pub cache_least : 16 ≤ settings.cache_limit
  pub cache_most : settings.cache_limit ≤ max_cache_limit
  pub recent_most : settings.recent ≤ 65536
  pub slots_least : 1 ≤ settings.slots
  pub slots_most : settings.slots ≤ 65536
  pub leases_least : 1 ≤ settings.leases
  pub leases_most : settings.leases ≤ 65535
  pub minor_most : settings.minor ≤ 1000
  pub major_most : settings.major ≤ 1000
