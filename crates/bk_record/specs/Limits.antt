-- Limits in bytes (project rules).
use Rattle.std.specs.Prelude.{ℕ}

-- greatest length of the payload of an add
abbrev pub max_added : ℕ
max_added = 5000000

-- greatest setting of a log's limit
abbrev pub max_log_limit : ℕ
max_log_limit = 4000000000

-- greatest setting of a write cache's limit, in bytes of payloads
abbrev pub max_cache_limit : ℕ
max_cache_limit = 1073741824

-- greatest number of zero bytes that a script line can request
abbrev pub max_pad : ℕ
max_pad = 8388608
