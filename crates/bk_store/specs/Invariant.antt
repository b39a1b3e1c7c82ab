-- The store invariant: what every `Store` satisfies between two calls. It is the type invariant of
-- `Store` (src/store.rt), so a mutex around a store protects it too.
--
-- Read `StoreInvariant` first (at the end). It has four parts:
--   StructuralFacts   on any disk: limits, slots and writers of the logs held, index entries only for
--                     open logs, places of the flush, trail, accounts.
--   JobInvariant      the running compaction, if any (specs/JobInvariant.antt).
--   FrontsInvariant   how much of the trail is durable (specs/Fronts.antt).
--   ContentFacts      on an honest disk: files, index and caches represent one map (`Represents`); the
--                     index points only to published and durable bytes; the accounts are sums over
--                     the acknowledged entries.
--
-- Each fact is a relation over just the fields that it needs. A transition that does not change
-- these fields reuses the fact as it is; the lemmas in proofs/Invariant*.antt prove only the rest.
use Rattle.std.specs.Prelude.{◌≡◌, ◌⊎◌, ℕ, ◌+◌, ◌<◌, ◌≤◌, ◌^◌, true, false, IsTrue, List, length, Option, Some, None, IsSome, ◌↔◌, option_map}
use Rattle.std.specs.FinMap as finite
use Rattle.std.specs.FinSet as set
use Rattle.std.specs.declared.cmp.Ordering.TheVariants.{Less}
use Rattle.bk_record.specs.Key.{EntryKey, key_cmp}
use Rattle.bk_record.specs.Location.{Place}
use Rattle.bk_record.specs.Record.{ledger_field}
use Rattle.bk_record.specs.Files.{Files, file_of, header_length, In}
use Rattle.bk_record.specs.Scan.{Payloads, entries_of}
use Rattle.bk_disk.specs.Durable.{IsDurable}
use Rattle.bk_log.specs.Writing as writers
use Rattle.bk_log.specs.Growing.{HasNoBadLength}
use Rattle.bk_record.specs.Keyed.{log_count, Places}
use Rattle.bk_cache.specs.Caches as caches
use Rattle.bk_cache.specs.Recents.{recent_of}
use Rattle.bk_accounts.specs.Book.{Book, named_in, total_at}
use Rattle.bk_accounts.specs.Sums.{Measure, AreSums}
use Rattle.bk_store.specs.Entries.{HasEntry}
use Rattle.bk_store.specs.Representation.{Represents}
use Rattle.bk_store.specs.Crash.{RemovedFilesAreHarmless}
use Rattle.bk_store.specs.Published.{IndexIsPublished}
use Rattle.bk_store.specs.Jobs.{Job}
use Rattle.bk_store.specs.JobInvariant.{JobInvariant}
use Rattle.bk_store.specs.Trail.{MapMatchesTrail}
use Rattle.bk_store.specs.Fronts.{FrontsInvariant}
use Rattle.bk_store.specs.Ledgers.{KnownLedgers, LedgersMatchTrail}
use Rattle.bk_store.specs.Logs.{View, Log, Logs, HasOpenView, IsFlushLog, is_open, is_written, open_parts, acknowledged_part}
use Rattle.bk_store.specs.State.{StoreParts}
use Rattle.bk_store.specs.Limits.{IsAllowed}
use Rattle.bk_lease.specs.Values.{SlotTable}
use Rattle.bk_store.specs.SlotAssignment.{IsSeated}
use Rattle.bk_store.specs.declared.settings.Settings.{Settings}
use Rattle.bk_store.specs.declared.log.LogState.TheVariants.{Writing, Filled}

-- the log is written by this writer, which has not failed and ends at the acknowledged length
pub record IsWrittenBy (id : ℕ) (log : Log) (w : writers.Writing) : Type 0 where
  pub state : is_written log.state ≡ true
  pub own : w.log ≡ id
  pub going : w.failed ≡ false
  pub long : log.acknowledged ≡ w.end
  pub empty : w.count ≡ 0 → w.end ≡ header_length

-- facts about a log that is held, by its id
pub record HeldLogInvariant (next id : ℕ) (log : Log) : Type 0 where
  pub below : id < next
  pub written : is_written log.state ≡ true → IsSome log.writer
  pub by : (w : writers.Writing) → log.writer ≡ Some w → IsWrittenBy id log w

-- The places of a flush are of its entries, in logs that it wrote; an entry before one with a place
-- has one too. Log ids rise with the keys, and none is above the Writing log.
pub record PlacesInvariant (flush : Option Payloads) (places : Places) (held : Logs) : Type 0 where
  pub idle : flush ≡ None → places ≡ finite.empty
  pub flushing : (key : EntryKey) (place : Place) → finite.get places key ≡ Some place → IsSome (finite.get (caches.entries_of_flush flush) key)
  pub logs : (key : EntryKey) (place : Place) → finite.get places key ≡ Some place → IsFlushLog held place.log
  pub front : (key earlier : EntryKey) (place : Place) → finite.get places key ≡ Some place → key_cmp earlier key ≡ Less
      → IsSome (finite.get (caches.entries_of_flush flush) earlier) → IsSome (finite.get places earlier)
  pub rising : (key later : EntryKey) (place other : Place) → finite.get places key ≡ Some place → finite.get places later ≡ Some other
      → key_cmp key later ≡ Less → place.log ≤ other.log
  pub newest : (id : ℕ) (log : Log) → finite.get held id ≡ Some log → log.state ≡ Writing
      → (key : EntryKey) (place : Place) → finite.get places key ≡ Some place → place.log ≤ id

-- the settings are in range, the caches have their limit, and each log that can be created has an
-- id
pub record WithinLimits (settings : Settings) (cache_limit next : ℕ) : Type 0 where
  pub allowed : IsAllowed settings
  pub limit : cache_limit ≡ settings.cache_limit
  pub ids : next ≤ 2 ^ 31

-- Each log that is held has its slot and its writer. `writing` and `filled` save a search for the
-- Writing log and for those that are Writing or Filled.
pub record AreHeld (settings : Settings) (next : ℕ) (keeper : SlotTable) (held : Logs) (written : Option ℕ) (listed : List ℕ) : Type 0 where
  pub seated : IsSeated settings keeper held
  pub each : (id : ℕ) (log : Log) → finite.get held id ≡ Some log → HeldLogInvariant next id log
  pub writing : (id : ℕ) → (written ≡ Some id) ↔ ((log : Log) × (finite.get held id ≡ Some log) × (log.state ≡ Writing))
  pub filled : (id : ℕ) (log : Log) → finite.get held id ≡ Some log → (log.state ≡ Writing) ⊎ (log.state ≡ Filled) → In id listed

-- the index points only into open logs with a view
abbrev pub IndexPointsToOpenLogs : Places → Logs → Type 0
IndexPointsToOpenLogs index held = (key : EntryKey) (place : Place) → finite.get index key ≡ Some place → HasOpenView held place.log

-- exactly the logs held have an account; it counts the index entries that point into the log, and
-- no more bytes than the log has
pub record AccountsMatchLogs (book : Book) (index : Places) (held : Logs) : Type 0 where
  pub named : (id : ℕ) → named_in book id ≡ option_map (λ _. log_count index id) (finite.get held id)
  pub total : (id : ℕ) (log : Log) → finite.get held id ≡ Some log → total_at book id + header_length ≤ log.acknowledged

-- Facts on any disk, each over just the fields that it needs.
pub record StructuralFacts (settings : Settings) (cache_limit next : ℕ) (keeper : SlotTable) (held : Logs) (written : Option ℕ) (listed : List ℕ)
    (index : Places) (flush : Option Payloads) (places : Places) (known : KnownLedgers) (book : Book) : Type 0 where
  pub limits : WithinLimits settings cache_limit next
  pub logs : AreHeld settings next keeper held written listed
  pub sent : IndexPointsToOpenLogs index held
  pub placed : PlacesInvariant flush places held
  pub ledgers : LedgersMatchTrail known
  pub accounts : AccountsMatchLogs book index held

abbrev pub StructuralInvariant : StoreParts → Type 0
StructuralInvariant p = StructuralFacts p.state.settings p.state.caches.limit p.state.next p.state.keeper p.state.logs p.writing p.filled p.state.index
    p.state.caches.flush p.state.places p.state.ledgers p.accounts

-- the measure of an entry: its ledger and the size of its record
abbrev pub entry_measure : Measure (ℕ × List ℕ)
entry_measure = record { ledger = λ entry. ledger_field entry.1; size = λ entry. 4 + length entry.1 }

-- the entries of the acknowledged part of a log that is held
abbrev pub acknowledged_entries : Files → Logs → ℕ → Option (List (ℕ × List ℕ))
acknowledged_entries files logs id = option_map (λ log. entries_of (acknowledged_part files id log)) (finite.get logs id)

-- a log and its file on an honest disk: the writer is that file's, and the view is a prefix of the
-- file and, of an open log, was synced; a scan of either meets no bad length
pub record LogMatchesFile (files synced : Files) (id : ℕ) (log : Log) : Type 0 where
  pub stands : IsSome (finite.get files id)
  pub writes : (w : writers.Writing) → log.writer ≡ Some w → writers.Writes files w
  pub honest : (view : View) → log.view ≡ Some view → IsTrue view.is_honest
  pub spelled : HasNoBadLength (file_of files id)
  pub shown : (view : View) → log.view ≡ Some view → HasNoBadLength view.bytes
  pub kept : (view : View) → log.view ≡ Some view → is_open log.state ≡ true → IsDurable synced id view.bytes

-- an entry of the flush with a place is at that place
pub record IsWrittenAt (flush : Option Payloads) (files : Files) (key : EntryKey) (place : Place) : Type 0 where
  pub payload : List ℕ
  pub flushing : finite.get (caches.entries_of_flush flush) key ≡ Some payload
  pub stands : HasEntry (file_of files) place key payload

-- files, index and caches represent a map, and removed files are harmless to it; each recent entry
-- is a pair of it, and it matches the trail
pub record RepresentsMap (files gone : Files) (index : Places) (held : caches.CacheState) (known : KnownLedgers) : Type 0 where
  pub carried : Payloads
  pub carries : Represents (file_of files) index (caches.write_cached_payload held) known.dead carried
  pub harmless : RemovedFilesAreHarmless (file_of gone) index (caches.write_cached_payload held) known.dead carried
  pub recent : (key : EntryKey) (payload : List ℕ) → recent_of held.recent key ≡ Some payload → finite.get carried key ≡ Some payload
  pub replays : MapMatchesTrail carried known.trail

-- each log that is held has its file, and no file has a later id
pub record LogsMatchFiles (files synced : Files) (next : ℕ) (held : Logs) : Type 0 where
  pub each : (id : ℕ) (log : Log) → finite.get held id ≡ Some log → LogMatchesFile files synced id log
  pub fresh : (id : ℕ) → next ≤ id → finite.get files id ≡ None

-- the entries of the flush with a place are at these places
abbrev pub PlacesAreWritten : Option Payloads → Files → Places → Type 0
PlacesAreWritten flush files places = (key : EntryKey) (place : Place) → finite.get places key ≡ Some place → IsWrittenAt flush files key place

-- Facts on an honest disk: files, index and caches represent a map, the index points only to
-- published parts, these were synced, and the accounts are sums over the acknowledged parts.
pub record ContentFacts (files synced gone : Files) (next : ℕ) (held : Logs) (index : Places) (cached : caches.CacheState) (places : Places)
    (known : KnownLedgers) (book : Book) : Type 0 where
  pub map : RepresentsMap files gone index cached known
  pub shows : IndexIsPublished (file_of files) (open_parts held) index
  pub counted : AreSums entry_measure (set.contains known.dead) (acknowledged_entries files held) (log_count index) book
  pub logs : LogsMatchFiles files synced next held
  pub placed : PlacesAreWritten cached.flush files places

abbrev pub ContentInvariant : StoreParts → Type 0
ContentInvariant p = ContentFacts p.state.files p.synced p.gone p.state.next p.state.logs p.state.index p.state.caches p.state.places p.state.ledgers p.accounts

abbrev pub HasFronts : StoreParts → Type 0
HasFronts p = FrontsInvariant p.state.honest p.state.fronts p.state.ledgers.trail p.state.caches.active p.state.caches.flush

-- the parts of a store satisfy both kinds of facts, and so do the fronts and the job of a running
-- compaction
pub record StoreInvariant (p : StoreParts) : Type 0 where
  pub fits : StructuralInvariant p
  pub job : (job : Job) → p.state.job ≡ Some job → JobInvariant p.state job
  pub fronts : HasFronts p
  pub promises : IsTrue p.state.honest → ContentInvariant p
