-- What is kept of a disk's logs, where a call leaves them, or its files are all kept.
use Rattle.std.proofs.Common.{◌≡◌, ◌≢◌, ◌⊎◌, inl, inr, ℕ, ◌+◌, ◌≤◌, ◌<◌, List, [], ◌++◌, length, take, drop, Option, Some, None, IsNone, IsSome, Bool, true, false, leb, if◌then◌else◌, Result, Ok, Err, unwrap_or, refl, sym, ap, ◌∙◌, subst, arith, length-append}
use Rattle.std.specs.FinMap as map
use Rattle.std.specs.Ordering.{nat_cmp}
use Rattle.std.specs.FinMap.{nat_cmp-IsAntisymmetric}
use Rattle.std.proofs.lemmas.Cmp.{nat_cmp_total}
use Rattle.std.proofs.lemmas.List.{append-nil, drop-drop, length-take-le}
use Rattle.std.proofs.Math.Seq.{drop-append-add}
use Rattle.std.proofs.Math.Decide.{dec_le}
use Rattle.std.proofs.lemmas.Option.{same_Some, none-some}
use Rattle.bk_record.proofs.Maps.{get-insert_else, get-remove_else}
use Rattle.bk_record.proofs.NumberMaps.{get-insert_same}
use Rattle.bk_record.specs.Files.{Files, file_of}
use Rattle.bk_record.specs.Longer.{IsLonger}
use Rattle.bk_record.proofs.Longer.{longer_same, longer_append, longer_trans}
use Rattle.bk_disk.specs.Durable.{IsDurable, IsAllDurable, DurableGrows, IsDroppedFromDurable, SyncDurability, ListDurability, RemoveDurability}
use Rattle.bk_disk.specs.Disk.{files_after_append, files_after_patch, patched_file, Appends, Patches, Creates, Syncs, Removes}
use Rattle.bk_disk.specs.declared.fault.DiskFault.{DiskFault}
use Rattle.bk_disk.specs.declared.fault.DiskFault.TheVariants.{Disk, Exists, NoLog, PastEnd, TooLong, Memory}
use Rattle.std.specs.Option.{option_map_or}
use Rattle.std.proofs.lemmas.Bool.{leb-true}

pub keeps_same : (kept gone : Files) → DurableGrows kept gone kept gone
keeps_same kept gone = record { more = λ log file is. (file, is, longer_same file); back = λ log file is. is }

pub keeps_equal : (kept gone kept' gone' : Files) → kept' ≡ kept → gone' ≡ gone → DurableGrows kept gone kept' gone'
keeps_equal kept gone kept' gone' same none =
    subst (λ (k : Files). DurableGrows kept gone k gone') (sym same) (subst (λ (g : Files). DurableGrows kept gone kept g) (sym none) (keeps_same kept gone))

pub keeps_trans : (kept gone kept' gone' kept'' gone'' : Files) → DurableGrows kept gone kept' gone' → DurableGrows kept' gone' kept'' gone''
    → DurableGrows kept gone kept'' gone''
keeps_trans kept gone kept' gone' kept'' gone'' one two = record {
  more = λ log file is.
      let now = one.more log file is in
      let last = two.more log now.0 now.1 in
      (last.0, last.1, longer_trans file now.0 last.0 now.2 last.2);
  back = λ log file is. one.back log file (two.back log file is);
}

-- where no removed file may be back, none is once the logs were listed
pub none_back : {T : Type 0} (result : Result T DiskFault) → ListDurability result map.empty
none_back (Ok x) = refl
none_back (Err fault) = tt

-- a removal that failed before it began
pub drops_nothing : (files : Files) (log : ℕ) (kept gone : Files) → IsDroppedFromDurable files log kept gone kept gone
drops_nothing files log kept gone = record { more = λ other file apart is. (file, is, longer_same file); back = λ other file is. inl is }

-- a disk whose files are all durable
pub all_durable : (files : Files) (log : ℕ) → IsAllDurable files log files
all_durable files log = λ file is. (file, is, longer_same file)

pub ruleset kept_rules = (keeps_same, keeps_equal, none_back, drops_nothing, all_durable)

-- ---- a disk that keeps all that its files have: each call

none_is : {X : Type 0} (o : Option X) → IsNone o → o ≡ None
none_is None is = refl
none_is (Some x) is = cc

same_number : (a b : ℕ) → (a ≡ b) ⊎ (a ≢ b)
same_number a b = elim (dec_le a b) [
  | no above ↦ inr (λ same. omega arith)
  | yes below ↦ elim (dec_le b a) [ no less ↦ inr (λ same. omega arith) | yes above ↦ inl (omega arith) ]
]

pub equal_keeps : (old new : Files) → new ≡ old → DurableGrows old map.empty new map.empty
equal_keeps old new same = keeps_equal old map.empty new map.empty same refl

-- one log gets another file, which goes on behind the header where the old one ended
pub changed_keeps : (old : Files) (log : ℕ) (file now : List ℕ) → map.get old log ≡ Some file → IsLonger file now
    → DurableGrows old map.empty (map.insert old log now) map.empty
changed_keeps old log file now there longer = record {
  more = λ other was is. elim (same_number other log) [
    | inl here ↦
        let same : file ≡ was = same_Some file was (sym there ∙ ap (map.get old) (sym here) ∙ is) in
        (now, ap (map.get (map.insert old log now)) here ∙ get-insert_same old log now, subst (λ (f : List ℕ). IsLonger f now) same longer)
    | inr apart ↦ (was, get-insert_else nat_cmp_total nat_cmp-IsAntisymmetric old log now other apart ∙ is, longer_same was)
  ];
  back = λ other was is. is;
}

-- a log that was not there
pub made_keeps : (old : Files) (log : ℕ) (now : List ℕ) → map.get old log ≡ None → DurableGrows old map.empty (map.insert old log now) map.empty
made_keeps old log now none = record {
  more = λ other was is. elim (same_number other log) [
    | inl here ↦ absurd (none-some was (sym none ∙ ap (map.get old) (sym here) ∙ is))
    | inr apart ↦ (was, get-insert_else nat_cmp_total nat_cmp-IsAntisymmetric old log now other apart ∙ is, longer_same was)
  ];
  back = λ other was is. is;
}

-- what a log had stays behind its header where twelve bytes are written at 8
longer_patched : (file bytes : List ℕ) → 20 ≤ length file → length bytes ≡ 12 → IsLonger file (take 8 file ++ bytes ++ drop 20 file)
longer_patched file bytes long twelve =
    let front = take 8 file ++ bytes in
    let size : length front ≡ 20 = length-append (take 8 file) bytes ∙ omega (arith, twelve, length-take-le 8 file (omega (arith, long))) in
    let there : 1024 ≡ length front + 1004 = omega (arith, size) in
    record {
      behind = [];
      is = ap (λ n. drop n (front ++ drop 20 file)) there ∙ drop-append-add front (drop 20 file) 1004 ∙ drop-drop 1004 20 file ∙ sym (append-nil (drop 1024 file));
    }

pub grown_keeps : (old : Files) (log : ℕ) (piece : List ℕ) → DurableGrows old map.empty (files_after_append old log piece) map.empty
grown_keeps old log piece = elim (map.get old log) as (λ o. map.get old log ≡ o → DurableGrows old map.empty
    (option_map_or (λ file. map.insert old log (file ++ piece)) o old) map.empty) [
      | None ↦ λ none. keeps_same old map.empty
      | Some file ↦ λ there. changed_keeps old log file (file ++ piece) there (longer_append file piece)
    ] refl

pub appends_keep : {T : Type 0} (old new : Files) (log : ℕ) (piece : List ℕ) (result : Result T DiskFault) → Appends old log piece result new
    → DurableGrows old map.empty new map.empty
appends_keep old new log piece (Ok x) turn = subst (λ (f : Files). DurableGrows old map.empty f map.empty) (sym turn.3) (grown_keeps old log piece)
appends_keep old new log piece (Err Disk) turn = subst (λ (f : Files). DurableGrows old map.empty f map.empty) (sym turn.1) (grown_keeps old log (take turn.0 piece))
appends_keep old new log piece (Err NoLog) turn = equal_keeps old new turn.1
appends_keep old new log piece (Err TooLong) turn = equal_keeps old new turn.3
appends_keep old new log piece (Err Memory) turn = equal_keeps old new turn.3
appends_keep old new log piece (Err Exists) turn = absurd turn
appends_keep old new log piece (Err PastEnd) turn = absurd turn

patched_longer : (file bytes : List ℕ) → length bytes ≡ 12 → IsLonger file (patched_file file bytes)
patched_longer file bytes twelve =
    elim (leb 20 (length file)) as (λ b. leb 20 (length file) ≡ b → IsLonger file (if b then take 8 file ++ bytes ++ drop 20 file else file)) [
      | true ↦ λ long. longer_patched file bytes (leb-true 20 (length file) long) twelve
      | false ↦ λ short. longer_same file
    ] refl

pub patched_keeps : (old : Files) (log : ℕ) (bytes : List ℕ) → length bytes ≡ 12 → DurableGrows old map.empty (files_after_patch old log bytes) map.empty
patched_keeps old log bytes twelve = elim (map.get old log) as (λ o. map.get old log ≡ o → DurableGrows old map.empty
    (option_map_or (λ file. map.insert old log (patched_file file bytes)) o old) map.empty) [
      | None ↦ λ none. keeps_same old map.empty
      | Some file ↦ λ there. changed_keeps old log file (patched_file file bytes) there (patched_longer file bytes twelve)
    ] refl

pub patches_keep : {T : Type 0} (old new : Files) (log : ℕ) (bytes : List ℕ) (result : Result T DiskFault) → length bytes ≡ 12 → Patches old log bytes result new
    → DurableGrows old map.empty new map.empty
patches_keep old new log bytes (Ok x) twelve turn = subst (λ (f : Files). DurableGrows old map.empty f map.empty) (sym turn.3) (patched_keeps old log bytes twelve)
patches_keep old new log bytes (Err Disk) twelve turn = subst (λ (f : Files). DurableGrows old map.empty f map.empty) (sym turn.2) (patched_keeps old log turn.0 turn.1)
patches_keep old new log bytes (Err NoLog) twelve turn = equal_keeps old new turn.1
patches_keep old new log bytes (Err PastEnd) twelve turn = equal_keeps old new turn.3
patches_keep old new log bytes (Err Memory) twelve turn = equal_keeps old new turn.3
patches_keep old new log bytes (Err Exists) twelve turn = absurd turn
patches_keep old new log bytes (Err TooLong) twelve turn = absurd turn

pub creates_keep : {T : Type 0} (old new : Files) (log : ℕ) (result : Result T DiskFault) → Creates old log result new → DurableGrows old map.empty new map.empty
creates_keep old new log (Ok x) turn = subst (λ (f : Files). DurableGrows old map.empty f map.empty) (sym turn.1) (made_keeps old log [] (none_is (map.get old log) turn.0))
creates_keep old new log (Err Disk) turn = equal_keeps old new turn
creates_keep old new log (Err Exists) turn = equal_keeps old new turn.1
creates_keep old new log (Err Memory) turn = equal_keeps old new turn.1
creates_keep old new log (Err NoLog) turn = absurd turn
creates_keep old new log (Err PastEnd) turn = absurd turn
creates_keep old new log (Err TooLong) turn = absurd turn

pub removed_keeps : (old : Files) (log : ℕ) → IsDroppedFromDurable old log old map.empty (map.remove old log) map.empty
removed_keeps old log = record {
  more = λ other file apart is. (file, get-remove_else nat_cmp_total nat_cmp-IsAntisymmetric old log other apart ∙ is, longer_same file);
  back = λ other file is. inl is;
}

pub removes_keep : {T : Type 0} (old new : Files) (log : ℕ) (result : Result T DiskFault) → Removes old log result new
    → RemoveDurability old log result old map.empty new map.empty
removes_keep old new log (Ok x) turn = subst (λ (f : Files). IsDroppedFromDurable old log old map.empty f map.empty) (sym turn.1) (removed_keeps old log)
removes_keep old new log (Err Disk) turn = subst (λ (f : Files). IsDroppedFromDurable old log old map.empty f map.empty) (sym turn) (drops_nothing old log old map.empty)
removes_keep old new log (Err NoLog) turn = equal_keeps old new turn.1
removes_keep old new log (Err Memory) turn = equal_keeps old new turn.1
removes_keep old new log (Err Exists) turn = absurd turn
removes_keep old new log (Err PastEnd) turn = absurd turn
removes_keep old new log (Err TooLong) turn = absurd turn

pub syncs_keep : {T : Type 0} (old : Files) (log : ℕ) (result : Result T DiskFault) → Syncs old log result old → SyncDurability old log result old
syncs_keep old log (Ok x) turn = some_kept (map.get old log) turn.0 refl where
  some_kept : (o : Option (List ℕ)) → IsSome o → map.get old log ≡ o → IsDurable old log (unwrap_or (map.get old log) [])
  some_kept None is same = cc
  some_kept (Some file) is same = (file, same, subst (λ (b : List ℕ). IsLonger b file) (sym (ap (λ (o : Option (List ℕ)). unwrap_or o []) same)) (longer_same file))
syncs_keep old log (Err fault) turn = tt
