-- The plan of a sweep: what it says of the logs that the sweep would compact or remove. Read
-- `IsPlanned` first.
use Rattle.std.specs.Prelude.{◌≡◌, ◌≢◌, ℕ, [], ◌∷◌, Some, IsTrue}
use Rattle.std.specs.FinMap as finite
use Rattle.bk_record.specs.Key.{EntryKey}
use Rattle.bk_record.specs.Location.{Place}
use Rattle.bk_record.specs.Keyed.{log_count}
use Rattle.bk_store.specs.State.{State}
use Rattle.bk_store.specs.Primitives.{IsIn}
use Rattle.bk_store.specs.CompactionPrimitives.{IsLeastUsed}
use Rattle.bk_store.specs.declared.log.LogState.TheVariants.{Readable}
use Rattle.bk_compact.specs.Compacting.{IsCandidate}
use Rattle.bk_offline_gc.specs.declared.planning.Fate.{Fate}
use Rattle.bk_offline_gc.specs.declared.planning.Fate.TheVariants.{Removed, Compacted}
use Rattle.bk_offline_gc.specs.declared.planning.Planned.{Planned}
use Rattle.bk_offline_gc.specs.declared.planning.Verdict.{Verdict}
use Rattle.bk_offline_gc.specs.declared.planning.Verdict.TheVariants.{Stays, Unnamed, Wasted}

-- no key of the index points into the log
abbrev pub IsUnnamed : State → ℕ → Type 0
IsUnnamed s log = (key : EntryKey) (place : Place) → finite.get s.index key ≡ Some place → place.log ≢ log

-- A log that is to be removed is Readable and named by no key. One that is to be compacted is named
-- by as many keys as entries are copied, and on an honest disk its live share is below the threshold.
abbrev pub HasFate : State → ℕ → ℕ → Fate → Type 0
HasFate s threshold log Removed = IsIn s log Readable × IsUnnamed s log
HasFate s threshold log (Compacted entries length) = IsCandidate s log × (entries ≡ log_count s.index log)
    × (IsTrue s.honest → IsLeastUsed s threshold (log ∷ []) (Some log))

abbrev pub IsPlanned : State → ℕ → Planned → Type 0
IsPlanned s threshold planned = HasFate s threshold planned.log planned.fate

-- what is found out about a log
abbrev pub HasVerdict : State → ℕ → ℕ → Verdict → Type 0
HasVerdict s threshold log Stays = Unit {0}
HasVerdict s threshold log Unnamed = HasFate s threshold log Removed
HasVerdict s threshold log (Wasted entries) = IsCandidate s log × (entries ≡ log_count s.index log)
    × (IsTrue s.honest → IsLeastUsed s threshold (log ∷ []) (Some log))
