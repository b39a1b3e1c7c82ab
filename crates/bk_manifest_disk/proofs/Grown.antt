-- Files of which none is shorter than before, and none is new or gone.
use Rattle.std.proofs.Common.{◌≡◌, inl, inr, ℕ, ◌≤◌, List, ◌++◌, length, take, drop, Option, Some, None, Result, Ok, Err, Bool, true, false, leb, if◌then◌else◌}
use Rattle.std.proofs.Common.{refl, sym, ap, ◌∙◌, subst, arith, length-append, length-drop}
use Rattle.std.specs.Option.{option_map_or}
use Rattle.std.specs.Cmp.{nat_cmp_total}
use Rattle.std.specs.FinMap as map
use Rattle.std.specs.FinMap.{nat_cmp-IsAntisymmetric}
use Rattle.std.proofs.lemmas.Bool.{leb-true}
use Rattle.std.proofs.lemmas.List.{length-take-le}
use Rattle.bk_record.specs.Files.{Files}
use Rattle.bk_record.proofs.Maps.{key_cases, get-insert_else}
use Rattle.bk_record.proofs.NumberMaps.{get-insert_same}
use Rattle.bk_disk.specs.Disk.{files_after_append, files_after_patch, patched_file, Lists, Measures, Appends, Patches, Syncs, Reads, Views}
use Rattle.bk_disk.specs.declared.fault.DiskFault.{DiskFault}
use Rattle.bk_disk.specs.declared.fault.DiskFault.TheVariants.{Disk, Exists, NoLog, PastEnd, TooLong, Memory}

abbrev pub Grown : Option (List ℕ) → Option (List ℕ) → Type 0
Grown None None = Unit {0}
Grown None (Some now) = ⊥
Grown (Some file) None = ⊥
Grown (Some file) (Some now) = length file ≤ length now

pub record Alike (old new : Files) : Type 0 where
  pub each : (log : ℕ) → Grown (map.get old log) (map.get new log)

grown_same : (o : Option (List ℕ)) → Grown o o
grown_same None = tt
grown_same (Some file) = omega arith

pub alike_same : (old : Files) → Alike old old
alike_same old = record { each = λ log. grown_same (map.get old log) }

pub alike_equal : (old new : Files) → new ≡ old → Alike old new
alike_equal old new same = subst (λ (f : Files). Alike old f) (sym same) (alike_same old)

grown_at : (o p : Option (List ℕ)) (file now : List ℕ) → o ≡ Some file → p ≡ Some now → length file ≤ length now → Grown o p
grown_at o p file now there last within =
    subst (λ x. Grown x p) (sym there) (subst (λ x. Grown (Some file) x) (sym last) within)

pub alike_insert : (old : Files) (log : ℕ) (file now : List ℕ) → map.get old log ≡ Some file → length file ≤ length now → Alike old (map.insert old log now)
alike_insert old log file now there within = record {
  each = λ q. elim (key_cases nat_cmp_total nat_cmp-IsAntisymmetric q log) [
    | inl here ↦ grown_at (map.get old q) (map.get (map.insert old log now) q) file now (ap (map.get old) here ∙ there)
        (ap (map.get (map.insert old log now)) here ∙ get-insert_same old log now) within
    | inr apart ↦ subst (λ x. Grown (map.get old q) x) (sym (get-insert_else nat_cmp_total nat_cmp-IsAntisymmetric old log now q apart.1)) (grown_same (map.get old q))
  ];
}

after_append_alike : (old : Files) (log : ℕ) (piece : List ℕ) → Alike old (files_after_append old log piece)
after_append_alike old log piece = elim (map.get old log) as (λ o. map.get old log ≡ o → Alike old (option_map_or (λ file. map.insert old log (file ++ piece)) o old)) [
  | None ↦ λ none. alike_same old
  | Some file ↦ λ there. alike_insert old log file (file ++ piece) there (omega (arith, length-append file piece))
] refl

pub appends_alike : {T : Type 0} (old new : Files) (log : ℕ) (piece : List ℕ) (result : Result T DiskFault) → Appends old log piece result new → Alike old new
appends_alike old new log piece (Ok x) turn = subst (λ (f : Files). Alike old f) (sym turn.3) (after_append_alike old log piece)
appends_alike old new log piece (Err Disk) turn = subst (λ (f : Files). Alike old f) (sym turn.1) (after_append_alike old log (take turn.0 piece))
appends_alike old new log piece (Err NoLog) turn = alike_equal old new turn.1
appends_alike old new log piece (Err TooLong) turn = alike_equal old new turn.3
appends_alike old new log piece (Err Memory) turn = alike_equal old new turn.3
appends_alike old new log piece (Err Exists) turn = absurd turn
appends_alike old new log piece (Err PastEnd) turn = absurd turn

patched_length : (file bytes : List ℕ) → length bytes ≡ 12 → length file ≤ length (patched_file file bytes)
patched_length file bytes twelve =
    elim (leb 20 (length file)) as (λ b. leb 20 (length file) ≡ b → length file ≤ length (if b then take 8 file ++ bytes ++ drop 20 file else file)) [
      | true ↦ λ long.
          let more = leb-true 20 (length file) long in
          omega (arith, more, twelve, length-append (take 8 file ++ bytes) (drop 20 file), length-append (take 8 file) bytes, length-take-le 8 file (omega (arith, more)), length-drop 20 file)
      | false ↦ λ short. omega arith
    ] refl

after_patch_alike : (old : Files) (log : ℕ) (bytes : List ℕ) → length bytes ≡ 12 → Alike old (files_after_patch old log bytes)
after_patch_alike old log bytes twelve = elim (map.get old log) as (λ o. map.get old log ≡ o → Alike old (option_map_or (λ file. map.insert old log (patched_file file bytes)) o old)) [
  | None ↦ λ none. alike_same old
  | Some file ↦ λ there. alike_insert old log file (patched_file file bytes) there (patched_length file bytes twelve)
] refl

pub patches_alike : {T : Type 0} (old new : Files) (log : ℕ) (bytes : List ℕ) (result : Result T DiskFault) → length bytes ≡ 12 → Patches old log bytes result new → Alike old new
patches_alike old new log bytes (Ok x) twelve turn = subst (λ (f : Files). Alike old f) (sym turn.3) (after_patch_alike old log bytes twelve)
patches_alike old new log bytes (Err Disk) twelve turn = subst (λ (f : Files). Alike old f) (sym turn.2) (after_patch_alike old log turn.0 turn.1)
patches_alike old new log bytes (Err NoLog) twelve turn = alike_equal old new turn.1
patches_alike old new log bytes (Err PastEnd) twelve turn = alike_equal old new turn.3
patches_alike old new log bytes (Err Memory) twelve turn = alike_equal old new turn.3
patches_alike old new log bytes (Err Exists) twelve turn = absurd turn
patches_alike old new log bytes (Err TooLong) twelve turn = absurd turn

-- ---- calls that change no file

pub lists_equal : {T : Type 0} (ids : T → List ℕ) (old new : Files) (result : Result T DiskFault) → Lists ids old result new → new ≡ old
lists_equal ids old new (Ok found) turn = turn.1
lists_equal ids old new (Err Disk) turn = turn
lists_equal ids old new (Err Memory) turn = turn
lists_equal ids old new (Err Exists) turn = absurd turn
lists_equal ids old new (Err NoLog) turn = absurd turn
lists_equal ids old new (Err PastEnd) turn = absurd turn
lists_equal ids old new (Err TooLong) turn = absurd turn

pub measures_equal : (old new : Files) (log : ℕ) (result : Result ℕ DiskFault) → Measures old log result new → new ≡ old
measures_equal old new log (Ok n) turn = turn.3
measures_equal old new log (Err Disk) turn = turn
measures_equal old new log (Err NoLog) turn = turn.1
measures_equal old new log (Err Memory) turn = turn.1
measures_equal old new log (Err Exists) turn = absurd turn
measures_equal old new log (Err PastEnd) turn = absurd turn
measures_equal old new log (Err TooLong) turn = absurd turn

pub reads_equal : {T : Type 0} (bytes : T → List ℕ) (old new : Files) (log at n : ℕ) (result : Result T DiskFault) → Reads bytes old log at n result new → new ≡ old
reads_equal bytes old new log at n (Ok found) turn = turn.4
reads_equal bytes old new log at n (Err Disk) turn = turn
reads_equal bytes old new log at n (Err NoLog) turn = turn.1
reads_equal bytes old new log at n (Err PastEnd) turn = turn.3
reads_equal bytes old new log at n (Err Memory) turn = turn.3
reads_equal bytes old new log at n (Err Exists) turn = absurd turn
reads_equal bytes old new log at n (Err TooLong) turn = absurd turn

pub views_equal : {V : Type 0} (bytes : V → List ℕ) (honest : V → Bool) (old new : Files) (log : ℕ) (result : Result V DiskFault) → Views bytes honest old log result new → new ≡ old
views_equal bytes honest old new log (Ok view) turn = turn.2
views_equal bytes honest old new log (Err Disk) turn = turn
views_equal bytes honest old new log (Err NoLog) turn = turn.1
views_equal bytes honest old new log (Err Memory) turn = turn.1
views_equal bytes honest old new log (Err Exists) turn = absurd turn
views_equal bytes honest old new log (Err PastEnd) turn = absurd turn
views_equal bytes honest old new log (Err TooLong) turn = absurd turn

pub syncs_equal : {T : Type 0} (old new : Files) (log : ℕ) (result : Result T DiskFault) → Syncs old log result new → new ≡ old
syncs_equal old new log (Ok x) turn = turn.1
syncs_equal old new log (Err Disk) turn = turn
syncs_equal old new log (Err NoLog) turn = turn.1
syncs_equal old new log (Err Memory) turn = turn.1
syncs_equal old new log (Err Exists) turn = absurd turn
syncs_equal old new log (Err PastEnd) turn = absurd turn
syncs_equal old new log (Err TooLong) turn = absurd turn
