-- When the device of a file in memory fails.
use Rattle.std.specs.Prelude.{ℕ}
use Rattle.bk_manifest.specs.declared.mem_manifest.Plan.{Plan}
use Rattle.bk_manifest.specs.declared.mem_manifest.Plan.TheVariants.{Never, After, Failed}

-- how often it has failed
abbrev pub failures_of : Plan → ℕ
failures_of Never = 0
failures_of (After others) = 0
failures_of Failed = 1
