-- The logs that a store holds, as its visible state has them.
use Rattle.std.specs.Prelude.{◌≡◌, ◌⊎◌, ℕ, ◌<◌, ◌≤◌, Bool, true, false, if◌then◌else◌, List, [], Option, Some, None, IsSome, option_map, take}
use Rattle.std.specs.Option.{option_map_or, option_and_then}
use Rattle.std.specs.Ordering.{nat_cmp}
use Rattle.std.specs.FinMap as finite
use Rattle.std.specs.declared.alloc.Global.{Global}
use Rattle.std.specs.declared.sync.Arc.{Arc}
use Rattle.bk_record.specs.Files.{Files, file_of, header_length}
use Rattle.bk_log.specs.Writing as writers
use Rattle.bk_store.specs.Entries.{Bytes}
use Rattle.bk_store.specs.declared.log.LogState.{LogState}
use Rattle.bk_store.specs.declared.log.LogState.TheVariants.{Writing, Filled, Copying, Readable, Retired, Closed}

-- a view of a log: its bytes, whether it is honest, and whether it can be read
pub record View : Type 0 where
  pub bytes : List ℕ
  pub is_honest : Bool
  pub is_sound : Bool

-- One log: its state; its slot; its last view, none before the first; the acknowledged length of
-- its file; its writer while it is written.
pub record Log : Type 0 where
  pub state : LogState
  pub slot : ℕ
  pub view : Option View
  pub acknowledged : ℕ
  pub writer : Option writers.Writing

-- the logs that a store holds, by id
abbrev pub Logs : Type 0
Logs = finite.FinMap nat_cmp Log

-- the specification value of a view
abbrev pub view_of : {V : Type 0} → (V → List ℕ) → (V → Bool) → (V → Bool) → V → View
view_of bytes honest sound view = record { bytes = bytes view; is_honest = honest view; is_sound = sound view }

-- the specification value of a log that is held
abbrev pub seen_log : {V : Type 0} → (V → List ℕ) → (V → Bool) → (V → Bool)
    → LogState → ℕ → Option (Arc V Global) → ℕ → Option writers.Writing → Log
seen_log bytes honest sound state slot view acknowledged writer = record {
  state = state;
  slot = slot;
  view = option_map (λ v. view_of bytes honest sound v.value) view;
  acknowledged = acknowledged;
  writer = writer;
}

-- a log found at opening, with a view of its whole file, all of it acknowledged
abbrev pub found_log : View → ℕ → ℕ → Log
found_log view slot length = record { state = Readable; slot = slot; view = Some view; acknowledged = length; writer = None }

-- a log just created, in a state in which it is written; nothing of it is published
abbrev pub made_log : LogState → ℕ → ℕ → Log
made_log state id slot = record { state = state; slot = slot; view = None; acknowledged = header_length; writer = Some (writers.new_writing id) }

-- a log whose creation failed after its file existed: it has no record
abbrev pub log_without_records : ℕ → Log
log_without_records slot = record { state = Readable; slot = slot; view = None; acknowledged = header_length; writer = None }

-- the log in another state, written no more
abbrev pub unwritten_log : LogState → Log → Log
unwritten_log state log = record log { state = state; writer = None }

-- the log in another state
abbrev pub in_state : LogState → Log → Log
in_state state log = record log { state = state }

-- the log with its next view
abbrev pub with_view : View → Log → Log
with_view view log = record log { view = Some view }

-- a log is open, so that the index may point into it: neither Retired nor Closed
abbrev pub is_open : LogState → Bool
is_open Writing = true
is_open Filled = true
is_open Copying = true
is_open Readable = true
is_open Retired = false
is_open Closed = false

-- whether a log is written
abbrev pub is_written : LogState → Bool
is_written Writing = true
is_written Filled = false
is_written Copying = true
is_written Readable = false
is_written Retired = false
is_written Closed = false

-- the published part of a log: the bytes of its last view
abbrev pub published_part : Log → List ℕ
published_part log = option_map_or (λ v. v.bytes) log.view []

-- the last view of a log, none if it is not held or has none
abbrev pub last_view : Logs → ℕ → Option View
last_view logs id = option_and_then (λ log. log.view) (finite.get logs id)

-- the published parts of open logs
abbrev pub open_parts : Logs → Bytes
open_parts logs id = option_map_or (λ log. if is_open log.state then published_part log else []) (finite.get logs id) []

-- the acknowledged part of a log
abbrev pub acknowledged_part : Files → ℕ → Log → List ℕ
acknowledged_part files id log = take log.acknowledged (file_of files id)

-- A failed append ends writing: the Writing log becomes Filled until the flush restarts, any other
-- becomes Readable.
abbrev pub state_after_failed_append : LogState → LogState
state_after_failed_append Writing = Filled
state_after_failed_append Filled = Filled
state_after_failed_append Copying = Readable
state_after_failed_append Readable = Readable
state_after_failed_append Retired = Retired
state_after_failed_append Closed = Closed

-- the log after a failed append: it is written no more
abbrev pub log_after_failed_append : Log → Log
log_after_failed_append log = unwritten_log (state_after_failed_append log.state) log

-- the log is held and open, and this is its last view
pub record HasOpenView (logs : Logs) (id : ℕ) : Type 0 where
  pub log : Log
  pub view : View
  pub held : finite.get logs id ≡ Some log
  pub opened : is_open log.state ≡ true
  pub view_is : log.view ≡ Some view

-- the least id, from this one on, of a log that is held; none if there is none
abbrev pub IsNextHeld : Logs → ℕ → Option ℕ → Type 0
IsNextHeld logs from None = (id : ℕ) → IsSome (finite.get logs id) → id < from
IsNextHeld logs from (Some id) = IsSome (finite.get logs id) × (from ≤ id)
    × ((other : ℕ) → IsSome (finite.get logs other) → from ≤ other → id ≤ other)

-- a log of the running flush: Writing or Filled
pub record IsFlushLog (logs : Logs) (id : ℕ) : Type 0 where
  pub log : Log
  pub held : finite.get logs id ≡ Some log
  pub flushed : (log.state ≡ Writing) ⊎ (log.state ≡ Filled)

-- a restart of the flush ends writing to its logs (this project's rule)
abbrev pub state_after_restart : LogState → Log → Log
state_after_restart Writing log = unwritten_log Readable log
state_after_restart Filled log = in_state Readable log
state_after_restart Copying log = log
state_after_restart Readable log = log
state_after_restart Retired log = log
state_after_restart Closed log = log

-- the end of a flush makes the logs that it filled Readable; the Writing log stays so
abbrev pub state_after_flush : LogState → Log → Log
state_after_flush Writing log = log
state_after_flush Filled log = in_state Readable log
state_after_flush Copying log = log
state_after_flush Readable log = log
state_after_flush Retired log = log
state_after_flush Closed log = log

-- each log is changed by a rule, by its state
abbrev pub AllChanged : (LogState → Log → Log) → Logs → Logs → Type 0
AllChanged rule old new = (id : ℕ) → finite.get new id ≡ option_map (λ log. rule log.state log) (finite.get old id)

-- a log is held in this state
pub record IsHeldIn (logs : Logs) (id : ℕ) (state : LogState) : Type 0 where
  pub log : Log
  pub held : finite.get logs id ≡ Some log
  pub state_is : log.state ≡ state
