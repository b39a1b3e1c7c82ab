-- How a compaction of a disk ends.
use Rattle.std.specs.Prelude.{◌≡◌, ℕ, ◌^◌, Bool, List, All, IsTrue}
use Rattle.bk_record.specs.Files.{Files}
use Rattle.bk_record.specs.Scan.{Ledgers}
use Rattle.bk_compact.specs.Compacting.{threshold_of}
use Rattle.bk_compact.specs.declared.answer.Kind.TheVariants.{Major}
use Rattle.bk_offline_gc.specs.Planning.{IsPlanned}
use Rattle.bk_offline_gc.specs.Sweeping.{IsSwept}
use Rattle.bk_offline_gc.specs.declared.planning.Planned.{Planned}
use Rattle.bk_store.specs.Abstract.{SatisfiesInvariant}
use Rattle.bk_store.specs.Opening.{IsOpened}
use Rattle.bk_store.specs.State.{State}
use Rattle.bk_store.specs.declared.settings.Settings.{Settings}

-- Nothing is left to do on an honest disk with these files: a store on it, with these ledgers
-- deleted, is swept. Its invariant relates index and logs to the files. It compacts a log if less
-- than `below` thousandths of it are live.
pub record EndsCompacted (below : ℕ) (dead : Ledgers) (files : Files) : Type 0 where
  pub store : State
  pub invariant : SatisfiesInvariant store
  pub stands : store.files ≡ files
  pub honest : IsTrue store.honest
  pub deleted : store.ledgers.dead ≡ dead
  pub threshold : threshold_of store.settings Major ≡ below
  pub swept : IsSwept store Major

-- The settings of the store of a compaction: it holds as many logs as a store can, and both kinds of
-- compaction take a log with this live share. The rest are the defaults.
abbrev pub settings_below : ℕ → Settings
settings_below below = record {
  log_limit = 2 ^ 30;
  cache_limit = 2 ^ 24;
  recent = 0;
  slots = 65536;
  leases = 1024;
  minor = below;
  major = below;
}

-- What a plan says of each log is so of a store that was opened on these files, with these ledgers
-- deleted.
pub record PlansCompaction (below : ℕ) (honest : Bool) (files : Files) (dead : List ℕ) (planned : List Planned) : Type 0 where
  pub store : State
  pub opened : IsOpened honest files (settings_below below) dead store
  pub honest_as : store.honest ≡ honest
  pub each : All (λ one. IsPlanned store below one) planned
