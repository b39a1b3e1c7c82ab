-- The way on after each fault, and its words.
use Rattle.std.specs.Prelude.{ℕ, List, Option, Some, None, codes}
use Rattle.bk_manifest.specs.declared.fault.ManifestError.{ManifestError}
use Rattle.bk_manifest.specs.declared.fault.ManifestError.TheVariants as manifest
use Rattle.bk_manifest_disk.specs.declared.directory.ReadFault.{ReadFault}
use Rattle.bk_manifest_disk.specs.declared.directory.ReadFault.TheVariants as reads
use Rattle.bk_manifest_disk.specs.declared.fault.Fault.{Fault}
use Rattle.bk_manifest_disk.specs.declared.fault.Fault.TheVariants as logs
use Rattle.bk_store.specs.declared.answer.LogCause.{LogCause}
use Rattle.bk_store.specs.declared.answer.LogCause.TheVariants as causes
use Rattle.bk_store.specs.declared.answer.OpenFault.{OpenFault}
use Rattle.bk_store.specs.declared.answer.OpenFault.TheVariants as opens
use Rattle.bk_offline_gc.specs.declared.answer.SweepFault.{SweepFault}
use Rattle.bk_offline_gc.specs.declared.answer.SweepFault.TheVariants as sweeps
use Rattle.bk_messages.specs.declared.dead.DeadFault.{DeadFault}
use Rattle.bk_messages.specs.declared.dead.DeadFault.TheVariants as dead
use Rattle.bk_messages.specs.declared.fault.CommandFault.{CommandFault}
use Rattle.bk_messages.specs.declared.fault.CommandFault.TheVariants as commands
use Rattle.bk_messages.specs.declared.way_on.WayOn.{WayOn}
use Rattle.bk_messages.specs.declared.way_on.WayOn.TheVariants.{Cut, MoveAway, TooLong, RebuildIndex, RebuildManifest, MoveCopy, TakeLogs, RebuildLogs, SayNoneLive}

-- A log that is damaged behind whole records is cut there; one whose header is invalid is moved away.
abbrev pub way_behind_log : LogCause → WayOn
way_behind_log (causes.BadLength at length) = Cut
way_behind_log (causes.Header fault) = MoveAway

abbrev pub way_behind : OpenFault → Option WayOn
way_behind (opens.Log id cause) = Some (way_behind_log cause)
way_behind (opens.TooLong log) = Some TooLong
way_behind fault = None

-- A damaged manifest of ledgers is made anew of the records before the damage.
abbrev pub way_behind_book : ManifestError → Option WayOn
way_behind_book (manifest.Fault fault) = Some RebuildManifest
way_behind_book error = None

-- A damaged manifest of logs is made anew of the logs.
abbrev pub way_behind_logs : Fault → Option WayOn
way_behind_logs (logs.Lack lack) = Some TakeLogs
way_behind_logs (logs.Manifest (manifest.Fault fault)) = Some RebuildLogs
way_behind_logs fault = None

-- the way on behind a manifest that is damaged; none if it cannot be read for another reason
abbrev pub way_if_bad : ReadFault → WayOn → Option WayOn
way_if_bad (reads.Bad path fault) way = Some way
way_if_bad fault way = None

abbrev pub way_behind_dead : DeadFault → Option WayOn
way_behind_dead dead.NoneLive = Some SayNoneLive
way_behind_dead (dead.Manifest fault) = way_if_bad fault RebuildManifest
way_behind_dead fault = None

abbrev pub way_behind_sweep : SweepFault → Option WayOn
way_behind_sweep (sweeps.Open fault) = way_behind fault
way_behind_sweep fault = None

abbrev pub way_of : CommandFault → Option WayOn
way_of (commands.Sweep fault) = way_behind_sweep fault
way_of (commands.Index file) = Some RebuildIndex
way_of (commands.Book fault) = way_behind_book fault.error
way_of (commands.Logs fault) = way_behind_logs fault.fault
way_of (commands.Unread fault) = way_if_bad fault RebuildLogs
way_of (commands.Dead fault) = way_behind_dead fault
way_of fault = None

-- the words of a way on
abbrev pub way_text : WayOn → List ℕ
way_text Cut = codes "'./bookie check' lists all such logs, './bookie seal --cut-torn' cuts one there and keeps a copy"
way_text MoveAway = codes "if './bookie scan' shows no entry in the log, a crash may have left it so, and its file can be moved away"
way_text TooLong = codes "a log has at most 4294967295 bytes: move the file away, or put the log back from a copy"
way_text RebuildManifest = codes "'./bookie manifest --rebuild' makes a new one of the records before the damage, and keeps the old file"
way_text TakeLogs = codes "put the log back from a copy, or take all logs as they are by './bookie manifest --rebuild', which keeps the old manifest"
way_text RebuildLogs = codes "'./bookie manifest --rebuild' makes a new one that takes all logs as they are, and keeps the old file"
way_text MoveCopy = codes "move that file away, and call the command again"
way_text SayNoneLive = codes "--live-none says that each ledger of the directory is deleted"
way_text RebuildIndex = codes "a bookie's index points into logs that a compaction removes: stop the bookie, compact with --index-is-rebuilt, then rebuild its index with 'bookkeeper shell rebuild-db-ledger-locations-index' before it starts"
