-- A store that is opened after a crash with the manifests of its directory. Read `HasRecovered`
-- first, then `SurvivesWithLedgers` and `SurvivesDamage`.
use Rattle.std.specs.Prelude.{◌≡◌, ◌⊎◌, ℕ, ◌<◌, ◌^◌, true, false, List, ◌++◌, take, Some, None, IsSome}
use Rattle.std.specs.FinMap as finite
use Rattle.std.specs.FinSet as set
use Rattle.bk_record.specs.Key.{EntryKey}
use Rattle.bk_record.specs.Files.{Files}
use Rattle.bk_record.specs.Scan.{Payloads}
use Rattle.bk_manifest.specs.Fact.{Fact}
use Rattle.bk_manifest.specs.Keeping.{Kept, durable}
use Rattle.bk_manifest_disk.specs.Limiting.{LogLimits, shown_files}
use Rattle.bk_manifest_disk.specs.Opening.{AreOpened}
use Rattle.bk_manifest_disk.specs.Recording.{Recording}
use Rattle.bk_store.specs.State.{State}
use Rattle.bk_store.specs.Contents.{IsContents}
use Rattle.bk_store.specs.Crash.{MayLeave}
use Rattle.bk_store.specs.declared.settings.Settings.{Settings}
use Rattle.bk_recorded.specs.Ledgers.{is_deleted}
use Rattle.bk_recorded.specs.Opening.{IsReopened}
use Rattle.bk_crash.specs.Remaining.{MayRemain}

-- The opened store, with these contents, has what the store before the crash had. Each published
-- entry is there, with its payload, unless the deletion of its ledger is recorded. Each entry that
-- is there was accepted, and none is of a deleted ledger. Deleted ledgers are deleted. Fenced ones
-- are fenced, unless their deletion is recorded.
pub record HasRecovered (before : State) (map : Payloads) (records : List Fact) (after : State) (found : Payloads) : Type 0 where
  pub published : (key : EntryKey) → IsSome (finite.get before.index key) → is_deleted records key.ledger ≡ false
      → (payload : List ℕ) × (finite.get map key ≡ Some payload) × (finite.get found key ≡ Some payload)
  pub accepted : (key : EntryKey) (payload : List ℕ) → finite.get found key ≡ Some payload → finite.get map key ≡ Some payload
  pub none : (key : EntryKey) → set.contains before.ledgers.dead key.ledger ≡ true → finite.get found key ≡ None
  pub deleted : (ledger : ℕ) → ledger < 2 ^ 63 → set.contains before.ledgers.dead ledger ≡ true → set.contains after.ledgers.dead ledger ≡ true
  pub fenced : (ledger : ℕ) → ledger < 2 ^ 63 → set.contains before.ledgers.fenced ledger ≡ true
      → (set.contains after.ledgers.fenced ledger ≡ true) ⊎ (is_deleted records ledger ≡ true)

-- A store is opened on any files that a crash may leave, with the durable records about its ledgers
-- and some of those that were noted. The arguments before the store are the synced parts of the
-- logs and the removed files.
abbrev pub SurvivesWithLedgers : Files → Files → State → Kept → Type 0
SurvivesWithLedgers synced gone s m = (map : Payloads) × IsContents map s × ((left : Files) (k : ℕ) (settings : Settings) (t : State)
    → MayLeave s.files gone synced left → IsReopened left settings (durable m ++ take k m.pending) t
    → (found : Payloads) × (IsContents found t × HasRecovered s map (durable m ++ take k m.pending) t found))

-- The same on a device that leaves any bytes after the synced ones. The logs are opened by their
-- manifest, of whose noted records some may be found. `files` and `kept` are the logs and their
-- synced parts on the device, of which the disk shows each up to its limit.
abbrev pub SurvivesDamage : Recording → State → Kept → Type 0
SurvivesDamage disk s m = (map : Payloads) × IsContents map s × ((limits : LogLimits) (files kept left seen : Files) (j k : ℕ) (settings : Settings) (t : State)
    → shown_files limits files ≡ disk.files → shown_files limits kept ≡ disk.kept
    → MayRemain files disk.gone kept (durable disk.manifest ++ take j disk.manifest.pending) left
    → AreOpened left (durable disk.manifest ++ take j disk.manifest.pending) seen → IsReopened seen settings (durable m ++ take k m.pending) t
    → (found : Payloads) × (IsContents found t × HasRecovered s map (durable m ++ take k m.pending) t found))
