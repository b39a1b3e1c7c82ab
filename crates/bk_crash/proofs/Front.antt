-- An append that fails: the prefix of its bytes that the files and the record get.
use Rattle.std.proofs.Common.{◌≡◌, ℕ, List, [], Option, Some, None, Result, Ok, Err, OnErr, refl, sym, ap, subst, ◌∙◌, arith}
use Rattle.std.specs.Option.{option_map_or}
use Rattle.std.specs.FinMap as finite
use Rattle.std.proofs.lemmas.List.{append-nil}
use Rattle.bk_record.specs.Files.{Files}
use Rattle.bk_record.proofs.NumberMaps.{insert_same}
use Rattle.bk_disk.specs.Disk.{Appends, FailsExactlyOnDiskFault}
use Rattle.bk_disk.specs.declared.fault.DiskFault.{DiskFault}
use Rattle.bk_disk.specs.declared.fault.DiskFault.TheVariants.{Disk, Exists, NoLog, PastEnd, TooLong, Memory}
use Rattle.bk_disk.proofs.Failures.{grown-nil}
use Rattle.bk_crash.specs.Noting.{NotedLog, NotedLogs, noted, longer_log}
use Rattle.bk_crash.specs.Power.{WritesFront}

-- No bytes at the end of a log leave the record.
noted-nil : (logs : NotedLogs) (log : ℕ) → noted (longer_log []) logs log ≡ logs
noted-nil logs log = by_log (finite.get logs log) refl where
  by_log : (found : Option NotedLog) → finite.get logs log ≡ found → option_map_or (λ l. finite.insert logs log (longer_log [] l)) found logs ≡ logs
  by_log (Some l) there = ap (λ bytes. finite.insert logs log (record l { bytes = bytes })) (append-nil l.bytes) ∙ insert_same logs log l there
  by_log None there = refl

-- An append that changes nothing writes the empty prefix.
pub writes_none : (files files' : Files) (logs logs' : NotedLogs) (log : ℕ) (bytes : List ℕ) → files' ≡ files → logs' ≡ logs
    → WritesFront files logs log bytes files' logs'
writes_none files files' logs logs' log bytes same_files same_logs = (0, same_files ∙ sym (grown-nil files log), same_logs ∙ sym (noted-nil logs log))

-- An append that the disk refuses without a failure of the device leaves the files.
pub refused_none : {T : Type 0} (before after : ℕ) (files files' : Files) (logs logs' : NotedLogs) (log : ℕ) (piece bytes : List ℕ) (result : Result T DiskFault)
    → Appends files log piece result files' → FailsExactlyOnDiskFault before after result → after ≡ before → logs' ≡ logs
    → OnErr result (WritesFront files logs log bytes files' logs')
refused_none before after files files' logs logs' log piece bytes (Ok x) appends caused quiet same = tt
refused_none before after files files' logs logs' log piece bytes (Err Disk) appends caused quiet same =
    let less = caused.failed refl in absurd (omega (arith, less, quiet))
refused_none before after files files' logs logs' log piece bytes (Err NoLog) appends caused quiet same = writes_none files files' logs logs' log bytes appends.1 same
refused_none before after files files' logs logs' log piece bytes (Err TooLong) appends caused quiet same = writes_none files files' logs logs' log bytes appends.3 same
refused_none before after files files' logs logs' log piece bytes (Err Memory) appends caused quiet same = writes_none files files' logs logs' log bytes appends.3 same
refused_none before after files files' logs logs' log piece bytes (Err Exists) appends caused quiet same = absurd appends
refused_none before after files files' logs logs' log piece bytes (Err PastEnd) appends caused quiet same = absurd appends

pub refused_writes : {T : Type 0} (before after : ℕ) (files files' : Files) (logs : NotedLogs) (log : ℕ) (piece bytes : List ℕ) (result : Result T DiskFault)
    (fault : DiskFault) → result ≡ Err fault → Appends files log piece result files' → FailsExactlyOnDiskFault before after result → after ≡ before
    → WritesFront files logs log bytes files' logs
refused_writes before after files files' logs log piece bytes result fault is appends caused quiet =
    subst (λ r. OnErr r (WritesFront files logs log bytes files' logs)) is
    (refused_none before after files files' logs logs log piece bytes result appends caused quiet refl)
