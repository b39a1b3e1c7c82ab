-- What a call that fails may leave, as the calls' relations say it.
use Rattle.std.proofs.Common.{Option, Some, None, ◌≡◌, ℕ, ◌≤◌, List, [], ◌++◌, length, take, drop, min, Bool, true, false, if◌then◌else◌, nat_le, Result, Ok}
use Rattle.std.proofs.Common.{Err, sym, ◌∙◌, ap, refl, arith}
use Rattle.std.specs.Option.{option_map_or}
use Rattle.std.specs.FinMap as files
use Rattle.std.proofs.lemmas.List.{append-nil, take_min, take-take, length-take, take-append-drop, length-drop}
use Rattle.std.proofs.lemmas.Bool.{leb-true}
use Rattle.std.proofs.Math.Seq.{take-add}
use Rattle.bk_record.specs.Files.{Files}
use Rattle.bk_disk.specs.Disk.{Appends, files_after_append, files_after_patch, patched_file}
use Rattle.bk_disk.specs.declared.fault.DiskFault.{DiskFault}
use Rattle.bk_disk.specs.declared.fault.DiskFault.TheVariants.{Disk, Exists, NoLog, PastEnd, TooLong, Memory}
use Rattle.bk_record.proofs.NumberMaps.{insert_same}

-- no bytes at the end of a log leave the files
pub grown-nil : (old : Files) (log : ℕ) → files_after_append old log [] ≡ old
grown-nil old log = by_file (files.get old log) refl where
  by_file : (found : Option (List ℕ)) → files.get old log ≡ found → option_map_or (λ file. files.insert old log (file ++ [])) found old ≡ old
  by_file (Some file) there = ap (files.insert old log) (append-nil file) ∙ insert_same old log file there
  by_file None there = refl

-- an append of a piece's first bytes, whatever its answer, leaves a prefix of the piece
pub grown_by_prefix : {T : Type 0} (old new : Files) (log : ℕ) (piece : List ℕ) (kept : ℕ) (answer : Result T DiskFault)
    → Appends old log (take kept piece) answer new
    → (n : ℕ) × (new ≡ files_after_append old log (take n piece))
grown_by_prefix old new log piece kept (Ok x) appends = (kept, appends.3)
grown_by_prefix old new log piece kept (Err Disk) appends =
    let n = min appends.0 (length (take kept piece)) in
    let below : n ≤ kept = omega (arith, length-take kept piece) in
    (n, appends.1 ∙ ap (files_after_append old log) (sym (take_min appends.0 (take kept piece)) ∙ take-take n kept piece below))
grown_by_prefix old new log piece kept (Err NoLog) appends = (0, appends.1 ∙ sym (grown-nil old log))
grown_by_prefix old new log piece kept (Err TooLong) appends = (0, appends.3 ∙ sym (grown-nil old log))
grown_by_prefix old new log piece kept (Err Memory) appends = (0, appends.3 ∙ sym (grown-nil old log))
grown_by_prefix old new log piece kept (Err Exists) appends = absurd appends
grown_by_prefix old new log piece kept (Err PastEnd) appends = absurd appends

-- some bytes at 8 to 20 leave a file: its own, or any where it is shorter
patched_file-own : (file some : List ℕ) → length some ≡ 12 → (left : List ℕ) × (length left ≡ 12) × (patched_file file left ≡ file)
patched_file-own file some twelve = by_length (nat_le 20 (length file)) refl where
  own : List ℕ
  own = take 12 (drop 8 file)

  by_length : (long : Bool) → nat_le 20 (length file) ≡ long
      → (left : List ℕ) × (length left ≡ 12) × ((if long then take 8 file ++ left ++ drop 20 file else file) ≡ file)
  by_length true long =
      let enough : 20 ≤ length file = leb-true 20 (length file) long in (
        own,
        omega (arith, length-take 12 (drop 8 file), length-drop 8 file),
        ap (λ front. front ++ drop 20 file) (sym (take-add 8 12 file))
            ∙ take-append-drop 20 file,
      )
  by_length false long = (some, twelve, refl)

-- files that stay are files with some twelve bytes at 8 to 20 of a log
pub patched-own : (old : Files) (log : ℕ) (some : List ℕ) → length some ≡ 12 → (left : List ℕ) × (length left ≡ 12) × (old ≡ files_after_patch old log left)
patched-own old log some twelve = by_file (files.get old log) refl where
  by_file : (found : Option (List ℕ)) → files.get old log ≡ found
      → (left : List ℕ) × (length left ≡ 12) × (old ≡ option_map_or (λ file. files.insert old log (patched_file file left)) found old)
  by_file (Some file) there =
      let own = patched_file-own file some twelve in
      (own.0, own.1, sym (ap (files.insert old log) own.2 ∙ insert_same old log file there))
  by_file None there = (some, twelve, refl)
