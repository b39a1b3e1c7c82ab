-- The contract of a disk: effect of each call of `LogDisk` on the files, the reason of each error,
-- and what an error leaves. Each relation is defined by cases on the result; an error that the call
-- does not have is the empty case.
--
-- Read `Appends` first, then `FailsExactlyIf`: the failure count of the device.
use Rattle.std.specs.Prelude.{◌≡◌, ℕ, ◌+◌, ◌<◌, ◌≤◌, ◌^◌, max, nat_le, if◌then◌else◌, Bool, IsTrue, List, [], ◌++◌, length, take, drop, Some, IsSome, IsNone}
use Rattle.std.specs.Prelude.{Result, Ok, Err, IsErrOf}
use Rattle.std.specs.List.{All}
use Rattle.std.specs.Option.{option_map_or}
use Rattle.std.specs.FinMap as map
use Rattle.bk_record.specs.Files.{Files, header_length}
use Rattle.bk_disk.specs.declared.fault.DiskFault.{DiskFault}
use Rattle.bk_disk.specs.declared.fault.DiskFault.TheVariants.{Disk, Exists, NoLog, PastEnd, TooLong, Memory}

-- Failure counts of the device before and after one or more calls on the disk. The count rises, by
-- one, exactly if the calls report a device failure (`Told`).
pub record FailsExactlyIf (before now : ℕ) (Told : Type 0) : Type 0 where
  pub later : before ≤ now
  pub once : now ≤ before + 1
  pub failed : Told → before < now
  pub told : before < now → Told

-- a call on the disk reports a device failure by `Disk`
abbrev pub FailsExactlyOnDiskFault : {T : Type 0} → ℕ → ℕ → Result T DiskFault → Type 0
FailsExactlyOnDiskFault before now result = FailsExactlyIf before now (IsErrOf result Disk)

-- the log exists, and its file has these bytes
abbrev pub IsFile : Files → ℕ → List ℕ → Type 0
IsFile fs log file = map.get fs log ≡ Some file

-- Limits of an entry log: id below 2 ^ 31, fewer than 2 ^ 32 bytes.
pub record IsLogFile (log : ℕ) (file : List ℕ) : Type 0 where
  pub id : log < 2 ^ 31
  pub size : length file < 2 ^ 32
  pub bytes : All (λ b. b < 2 ^ 8) file

-- every file is within the limits of an entry log
pub record AreLogFiles (fs : Files) : Type 0 where
  pub each : (log : ℕ) (file : List ℕ) → IsFile fs log file → IsLogFile log file

-- the files after an append to a log; unchanged if there is no such log
abbrev pub files_after_append : Files → ℕ → List ℕ → Files
files_after_append fs log piece = option_map_or (λ file. map.insert fs log (file ++ piece)) (map.get fs log) fs

-- a file with other bytes at positions 8 to 20; unchanged if it is shorter
abbrev pub patched_file : List ℕ → List ℕ → List ℕ
patched_file file bytes = if nat_le 20 (length file) then take 8 file ++ bytes ++ drop 20 file else file

-- the files after a patch of a log; unchanged if there is no such log
abbrev pub files_after_patch : Files → ℕ → List ℕ → Files
files_after_patch fs log bytes = option_map_or (λ file. map.insert fs log (patched_file file bytes)) (map.get fs log) fs

-- `list`: the ids of all logs, in ascending order
abbrev pub Lists : {T : Type 0} → (T → List ℕ) → Files → Result T DiskFault → Files → Type 0
Lists ids old (Ok found) new = (ids found ≡ map.keys old) × (new ≡ old)
Lists ids old (Err Disk) new = new ≡ old
Lists ids old (Err Memory) new = new ≡ old
Lists ids old (Err Exists) new = ⊥
Lists ids old (Err NoLog) new = ⊥
Lists ids old (Err PastEnd) new = ⊥
Lists ids old (Err TooLong) new = ⊥

-- `length`: number of bytes of a log
abbrev pub Measures : Files → ℕ → Result ℕ DiskFault → Files → Type 0
Measures old log (Ok n) new = (file : List ℕ) × IsFile old log file × (n ≡ length file) × (new ≡ old)
Measures old log (Err Disk) new = new ≡ old
Measures old log (Err NoLog) new = IsNone (map.get old log) × (new ≡ old)
Measures old log (Err Memory) new = IsSome (map.get old log) × (new ≡ old)
Measures old log (Err Exists) new = ⊥
Measures old log (Err PastEnd) new = ⊥
Measures old log (Err TooLong) new = ⊥

-- `create`: an empty file, if there was none
abbrev pub Creates : {T : Type 0} → Files → ℕ → Result T DiskFault → Files → Type 0
Creates old log (Ok _) new = IsNone (map.get old log) × (new ≡ map.insert old log [])
Creates old log (Err Disk) new = new ≡ old
Creates old log (Err Exists) new = IsSome (map.get old log) × (new ≡ old)
Creates old log (Err Memory) new = IsNone (map.get old log) × (new ≡ old)
Creates old log (Err NoLog) new = ⊥
Creates old log (Err PastEnd) new = ⊥
Creates old log (Err TooLong) new = ⊥

-- `append`: the piece at the log's end. A failing device leaves a prefix of the piece, possibly
-- all.
abbrev pub Appends : {T : Type 0} → Files → ℕ → List ℕ → Result T DiskFault → Files → Type 0
Appends old log piece (Ok _) new = (file : List ℕ) × IsFile old log file × (length file + length piece < 2 ^ 32) × (new ≡ files_after_append old log piece)
Appends old log piece (Err Disk) new = (n : ℕ) × (new ≡ files_after_append old log (take n piece))
Appends old log piece (Err NoLog) new = IsNone (map.get old log) × (new ≡ old)
Appends old log piece (Err TooLong) new = (file : List ℕ) × IsFile old log file × (2 ^ 32 ≤ length file + length piece) × (new ≡ old)
Appends old log piece (Err Memory) new = (file : List ℕ) × IsFile old log file × (length file + length piece < 2 ^ 32) × (new ≡ old)
Appends old log piece (Err Exists) new = ⊥
Appends old log piece (Err PastEnd) new = ⊥

-- `patch`: twelve bytes at position 8. A failing device leaves any bytes there.
abbrev pub Patches : {T : Type 0} → Files → ℕ → List ℕ → Result T DiskFault → Files → Type 0
Patches old log bytes (Ok _) new = (file : List ℕ) × IsFile old log file × (20 ≤ length file) × (new ≡ files_after_patch old log bytes)
Patches old log bytes (Err Disk) new = (left : List ℕ) × (length left ≡ 12) × (new ≡ files_after_patch old log left)
Patches old log bytes (Err NoLog) new = IsNone (map.get old log) × (new ≡ old)
Patches old log bytes (Err PastEnd) new = (file : List ℕ) × IsFile old log file × (length file < 20) × (new ≡ old)
Patches old log bytes (Err Memory) new = (file : List ℕ) × IsFile old log file × (20 ≤ length file) × (new ≡ old)
Patches old log bytes (Err Exists) new = ⊥
Patches old log bytes (Err TooLong) new = ⊥

-- `sync`: the files are unchanged; for its effect on a crash see `SyncDurability`
abbrev pub Syncs : {T : Type 0} → Files → ℕ → Result T DiskFault → Files → Type 0
Syncs old log (Ok _) new = IsSome (map.get old log) × (new ≡ old)
Syncs old log (Err Disk) new = new ≡ old
Syncs old log (Err NoLog) new = IsNone (map.get old log) × (new ≡ old)
Syncs old log (Err Memory) new = IsSome (map.get old log) × (new ≡ old)
Syncs old log (Err Exists) new = ⊥
Syncs old log (Err PastEnd) new = ⊥
Syncs old log (Err TooLong) new = ⊥

-- `read_at`: `n` bytes of a log from a position
abbrev pub Reads : {T : Type 0} → (T → List ℕ) → Files → ℕ → ℕ → ℕ → Result T DiskFault → Files → Type 0
Reads bytes old log at n (Ok found) new = (file : List ℕ) × IsFile old log file × (at + n ≤ length file) × (bytes found ≡ take n (drop at file)) × (new ≡ old)
Reads bytes old log at n (Err Disk) new = new ≡ old
Reads bytes old log at n (Err NoLog) new = IsNone (map.get old log) × (new ≡ old)
Reads bytes old log at n (Err PastEnd) new = (file : List ℕ) × IsFile old log file × (length file < at + n) × (new ≡ old)
Reads bytes old log at n (Err Memory) new = (file : List ℕ) × IsFile old log file × (at + n ≤ length file) × (new ≡ old)
Reads bytes old log at n (Err Exists) new = ⊥
Reads bytes old log at n (Err TooLong) new = ⊥

-- `view`: an honest view of the log's bytes; later changes of the log do not change it
abbrev pub Views : {V : Type 0} → (V → List ℕ) → (V → Bool) → Files → ℕ → Result V DiskFault → Files → Type 0
Views bytes honest old log (Ok view) new = IsFile old log (bytes view) × IsTrue (honest view) × (new ≡ old)
Views bytes honest old log (Err Disk) new = new ≡ old
Views bytes honest old log (Err NoLog) new = IsNone (map.get old log) × (new ≡ old)
Views bytes honest old log (Err Memory) new = IsSome (map.get old log) × (new ≡ old)
Views bytes honest old log (Err Exists) new = ⊥
Views bytes honest old log (Err PastEnd) new = ⊥
Views bytes honest old log (Err TooLong) new = ⊥

-- `remove`: removes the log's file and nothing else
abbrev pub Removes : {T : Type 0} → Files → ℕ → Result T DiskFault → Files → Type 0
Removes old log (Ok _) new = IsSome (map.get old log) × (new ≡ map.remove old log)
Removes old log (Err Disk) new = new ≡ old
Removes old log (Err NoLog) new = IsNone (map.get old log) × (new ≡ old)
Removes old log (Err Memory) new = IsSome (map.get old log) × (new ≡ old)
Removes old log (Err Exists) new = ⊥
Removes old log (Err PastEnd) new = ⊥
Removes old log (Err TooLong) new = ⊥

-- end of a view of a log with these bytes; at least the end of the header, even if the log is
-- shorter
abbrev pub view_end : List ℕ → ℕ
view_end file = max header_length (length file)

-- range that can be read in such a view: from the end of the header to the view's end
abbrev pub IsInView : List ℕ → ℕ → ℕ → Type 0
IsInView file at n = (header_length ≤ at) × (at + n ≤ view_end file)

-- a read of a view of a log with these bytes
abbrev pub ReadsView : {T : Type 0} → (T → List ℕ) → List ℕ → ℕ → ℕ → Result T DiskFault → Type 0
ReadsView bytes file at n (Ok found) = IsInView file at n × (bytes found ≡ take n (drop at file))
ReadsView bytes file at n (Err PastEnd) = ¬ (IsInView file at n)
ReadsView bytes file at n (Err Disk) = Unit {0}
ReadsView bytes file at n (Err Memory) = IsInView file at n
ReadsView bytes file at n (Err Exists) = ⊥
ReadsView bytes file at n (Err NoLog) = ⊥
ReadsView bytes file at n (Err TooLong) = ⊥

-- Read of such a view into a buffer. It does not allocate; a failing device leaves any bytes there.
abbrev pub ReadsInto : {T : Type 0} → List ℕ → ℕ → ℕ → Result T DiskFault → List ℕ → Type 0
ReadsInto file at n (Ok _) out = IsInView file at n × (out ≡ take n (drop at file))
ReadsInto file at n (Err PastEnd) out = ¬ (IsInView file at n)
ReadsInto file at n (Err Disk) out = Unit {0}
ReadsInto file at n (Err Memory) out = ⊥
ReadsInto file at n (Err Exists) out = ⊥
ReadsInto file at n (Err NoLog) out = ⊥
ReadsInto file at n (Err TooLong) out = ⊥

-- every view of this type can be read
abbrev pub AreSound : {V : Type 0} → (V → Bool) → Type 0
AreSound {V} sound = (view : V) → IsTrue (sound view)
