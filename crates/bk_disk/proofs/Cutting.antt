-- What is durable of a disk's logs while one of them is truncated.
use Rattle.std.proofs.Common.{◌≡◌, ◌≢◌, ℕ, ◌≤◌, ◌<◌, ◌^◌, arith, List, ◌++◌, length, take, drop, Some, None, inl, inr, Result, Ok, Err, refl, sym, ap, ◌∙◌, subst, length-take}
use Rattle.std.specs.FinMap as map
use Rattle.std.specs.Ordering.{nat_cmp}
use Rattle.std.specs.FinMap.{nat_cmp-IsAntisymmetric}
use Rattle.std.proofs.lemmas.Cmp.{nat_cmp_total}
use Rattle.std.proofs.lemmas.List.{take-append-drop, take_all}
use Rattle.std.proofs.lemmas.List.Elements.{All-take}
use Rattle.std.proofs.lemmas.Option.{same_Some}
use Rattle.bk_record.proofs.Maps.{get-insert_else}
use Rattle.bk_record.proofs.NumberMaps.{get-insert_same, insert_same}
use Rattle.bk_record.specs.Files.{Files}
use Rattle.bk_record.specs.Longer.{IsLonger}
use Rattle.bk_record.proofs.Longer.{longer_same, longer_append}
use Rattle.bk_disk.specs.Disk.{IsLogFile}
use Rattle.bk_disk.specs.Cutting.{IsCutTo, Cuts, KeepsFrontDurable}
use Rattle.bk_disk.specs.declared.fault.DiskFault.{DiskFault}
use Rattle.bk_disk.specs.declared.fault.DiskFault.TheVariants.{Disk, Exists, NoLog, PastEnd, TooLong, Memory}

-- a log goes on behind its first bytes
pub longer_than_front : (n : ℕ) (file : List ℕ) → IsLonger (take n file) file
longer_than_front n file = subst (λ (f : List ℕ). IsLonger (take n file) f) (take-append-drop n file) (longer_append (take n file) (drop n file))

-- nothing is truncated
pub uncut_keeps : (log n : ℕ) (kept gone : Files) → KeepsFrontDurable log n kept gone kept gone
uncut_keeps log n kept gone = record {
  others = λ other file apart is. (file, is, longer_same file);
  front = λ file is. (file, is, longer_than_front n file);
  back = λ other file is. is;
}

-- the log has its first bytes, on a disk that keeps all of its files
pub cut_keeps : (old : Files) (log n : ℕ) (file : List ℕ) → map.get old log ≡ Some file
    → KeepsFrontDurable log n old map.empty (map.insert old log (take n file)) map.empty
cut_keeps old log n file there = record {
  others = λ other was apart is.
      (was, get-insert_else nat_cmp_total nat_cmp-IsAntisymmetric old log (take n file) other apart ∙ is, longer_same was);
  front = λ was is.
      let same : file ≡ was = same_Some file was (sym there ∙ is) in
      (take n file, get-insert_same old log (take n file), subst (λ (f : List ℕ). IsLonger (take n f) (take n file)) same (longer_same (take n file)));
  back = λ other was is. is;
}

-- a log that is short enough has its first bytes as it is
pub short_is_cut : (old : Files) (log n : ℕ) (file : List ℕ) → map.get old log ≡ Some file → length file ≤ n → IsCutTo old log n old
short_is_cut old log n file there short =
    (file, there, sym (ap (map.insert old log) (take_all n file short) ∙ insert_same old log file there))

same_files : (log n : ℕ) (old new : Files) → new ≡ old → KeepsFrontDurable log n old map.empty new map.empty
same_files log n old new same = subst (λ (f : Files). KeepsFrontDurable log n old map.empty f map.empty) (sym same) (uncut_keeps log n old map.empty)

pub cut_files : (log n : ℕ) (old new : Files) → IsCutTo old log n new → KeepsFrontDurable log n old map.empty new map.empty
cut_files log n old new is =
    subst (λ (f : Files). KeepsFrontDurable log n old map.empty f map.empty) (sym is.2) (cut_keeps old log n is.0 is.1)

pub cuts_keep : {T : Type 0} (old new : Files) (log n : ℕ) (result : Result T DiskFault) → Cuts old log n result new
    → KeepsFrontDurable log n old map.empty new map.empty
cuts_keep old new log n (Ok x) turn = cut_files log n old new turn
cuts_keep old new log n (Err Disk) turn = elim turn [ inl same ↦ same_files log n old new same | inr is ↦ cut_files log n old new is ]
cuts_keep old new log n (Err NoLog) turn = same_files log n old new turn.1
cuts_keep old new log n (Err Memory) turn = same_files log n old new turn.1
cuts_keep old new log n (Err Exists) turn = absurd turn
cuts_keep old new log n (Err PastEnd) turn = absurd turn
cuts_keep old new log n (Err TooLong) turn = absurd turn

pub IsLogFile-take : (log n : ℕ) (file : List ℕ) → IsLogFile log file → IsLogFile log (take n file)
IsLogFile-take log n file one = record {
  id = one.id;
  size = omega (arith, length-take n file, one.size);
  bytes = All-take (λ b. b < 2 ^ 8) n file one.bytes;
}
