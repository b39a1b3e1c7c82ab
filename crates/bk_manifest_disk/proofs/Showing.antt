-- The calls of a disk, on the files that limits show.
use Rattle.std.proofs.Common.{◌≡◌, ◌≢◌, ◌⊎◌, inl, inr, ℕ, ◌+◌, ◌-◌, ◌≤◌, ◌<◌, ◌^◌, Bool, true, false, List, [], ◌++◌, length, take, drop, Option, Some, None, IsNone, option_map, unwrap_or, Result, Ok, Err}
use Rattle.std.proofs.Common.{refl, sym, ap, ◌∙◌, subst, arith, length-take}
use Rattle.std.proofs.lemmas.Bool.{leb-true, leb-false}
use Rattle.std.proofs.lemmas.List.{take-take, drop-take, append-nil, length-take-le}
use Rattle.std.proofs.lemmas.Option.{same_Some, none-some}
use Rattle.std.specs.Option.{option_map_or}
use Rattle.std.specs.Cmp.{nat_cmp_total}
use Rattle.std.specs.FinMap as map
use Rattle.std.specs.FinMap.{nat_cmp-IsAntisymmetric}
use Rattle.bk_record.specs.Files.{Files, file_of}
use Rattle.bk_record.specs.Longer.{IsLonger}
use Rattle.bk_record.proofs.Longer.{longer_empty, longer_trans}
use Rattle.bk_record.proofs.Maps.{key_cases, get-insert_else, get-remove_else, get-remove_here}
use Rattle.bk_record.proofs.NumberMaps.{get-insert_same, insert_same}
use Rattle.bk_disk.specs.declared.fault.DiskFault.{DiskFault}
use Rattle.bk_disk.specs.declared.fault.DiskFault.TheVariants.{Disk, Exists, NoLog, PastEnd, TooLong, Memory}
use Rattle.bk_disk.specs.Disk.{AreLogFiles, IsLogFile, files_after_append, files_after_patch, patched_file, Lists, Measures, Creates, Appends, Patches, Syncs, Reads, Views, Removes}
use Rattle.bk_disk.specs.Durable.{IsDurable, DurableGrows, SyncDurability, IsAllDurable, IsDroppedFromDurable, RemoveDurability}
use Rattle.bk_disk.specs.Cutting.{IsCutTo, Cuts, KeepsFrontDurable}
use Rattle.bk_disk.proofs.Cutting.{IsLogFile-take}
use Rattle.bk_disk.proofs.DurableGrows.{keeps_trans}
use Rattle.bk_manifest_disk.specs.Limiting.{LogLimits, shown, shown_files, AreWithin, reaches, capped}
use Rattle.bk_manifest_disk.proofs.Fronts.{longer_fronts, longer_shown, length-shown, patched_front}
use Rattle.bk_manifest_disk.proofs.Grown.{Grown, Alike}
use Rattle.bk_manifest_disk.proofs.Shown.{get-shown, keys-shown, shown_there, shown_is, none_shown, some_shown, none_is, shown_insert, shown_remove, shown_cut, shown_freed}

-- ---- bounds and lists

log_file_shown : (limit : Option ℕ) (log : ℕ) (file : List ℕ) → IsLogFile log file → IsLogFile log (shown limit file)
log_file_shown None log file is = is
log_file_shown (Some n) log file is = IsLogFile-take log n file is

pub bounds_shown : (limits : LogLimits) (files : Files) → AreLogFiles files → AreLogFiles (shown_files limits files)
bounds_shown limits files all = record {
  each = λ log front is.
      let one = shown_there limits files log front is in
      subst (IsLogFile log) one.is (log_file_shown (map.get limits log) log one.file (all.each log one.file one.there));
}

pub lists_shown : {T : Type 0} (ids : T → List ℕ) (limits : LogLimits) (old new : Files) (result : Result T DiskFault) → Lists ids old result new
    → Lists ids (shown_files limits old) result (shown_files limits new)
lists_shown ids limits old new (Ok found) turn = (turn.0 ∙ sym (keys-shown limits old), ap (shown_files limits) turn.1)
lists_shown ids limits old new (Err Disk) turn = ap (shown_files limits) turn
lists_shown ids limits old new (Err Memory) turn = ap (shown_files limits) turn
lists_shown ids limits old new (Err Exists) turn = absurd turn
lists_shown ids limits old new (Err NoLog) turn = absurd turn
lists_shown ids limits old new (Err PastEnd) turn = absurd turn
lists_shown ids limits old new (Err TooLong) turn = absurd turn

-- ---- lengths

length_capped : (limit : Option ℕ) (file : List ℕ) → capped limit (length file) ≡ length (shown limit file)
length_capped None file = refl
length_capped (Some n) file = omega (arith, length-take n file)

pub measured_shown : (limits : LogLimits) (old new : Files) (log n : ℕ) → Measures old log (Ok n) new
    → Measures (shown_files limits old) log (Ok (capped (map.get limits log) n)) (shown_files limits new)
measured_shown limits old new log n turn = (
  shown (map.get limits log) turn.0,
  shown_is limits old log turn.0 turn.1,
  ap (capped (map.get limits log)) turn.2 ∙ length_capped (map.get limits log) turn.0,
  ap (shown_files limits) turn.3,
)

pub unmeasured_shown : (limits : LogLimits) (old new : Files) (log : ℕ) (fault : DiskFault) → Measures old log (Err fault) new
    → Measures (shown_files limits old) log (Err fault) (shown_files limits new)
unmeasured_shown limits old new log Disk turn = ap (shown_files limits) turn
unmeasured_shown limits old new log NoLog turn = (none_shown limits old log turn.0, ap (shown_files limits) turn.1)
unmeasured_shown limits old new log Memory turn = (some_shown limits old log turn.0, ap (shown_files limits) turn.1)
unmeasured_shown limits old new log Exists turn = absurd turn
unmeasured_shown limits old new log PastEnd turn = absurd turn
unmeasured_shown limits old new log TooLong turn = absurd turn

-- ---- limits that stay within the files

within_there : (limit : ℕ) (file : List ℕ) (o : Option (List ℕ)) → limit ≤ length file → Grown (Some file) o → (now : List ℕ) × (o ≡ Some now) × (limit ≤ length now)
within_there limit file None within grown = absurd grown
within_there limit file (Some now) within grown = (now, refl, omega (arith, within, grown))

pub within_alike : (limits : LogLimits) (old new : Files) → AreWithin limits old → Alike old new → AreWithin limits new
within_alike limits old new within alike = λ log limit is.
    let was = within log limit is in
    within_there limit was.0 (map.get new log) was.2 (subst (λ o. Grown o (map.get new log)) was.1 (alike.each log))

pub within_equal : (limits : LogLimits) (old new : Files) → new ≡ old → AreWithin limits old → AreWithin limits new
within_equal limits old new same within = subst (AreWithin limits) (sym same) within

pub within_insert : (limits : LogLimits) (old : Files) (log : ℕ) (file : List ℕ) → IsNone (map.get old log) → AreWithin limits old → AreWithin limits (map.insert old log file)
within_insert limits old log file none within = λ q limit is.
    let was = within q limit is in
    elim (key_cases nat_cmp_total nat_cmp-IsAntisymmetric q log) [
      | inl here ↦ absurd (none-some was.0 (sym (none_is (map.get old log) none) ∙ ap (map.get old) (sym here) ∙ was.1))
      | inr apart ↦ (was.0, get-insert_else nat_cmp_total nat_cmp-IsAntisymmetric old log file q apart.1 ∙ was.1, was.2)
    ]

unlimited : (limits : LogLimits) (old : Files) (log : ℕ) → IsNone (map.get old log) → AreWithin limits old → map.get limits log ≡ None
unlimited limits old log none within = by_limit (map.get limits log) refl where
  by_limit : (o : Option ℕ) → map.get limits log ≡ o → o ≡ None
  by_limit None is = refl
  by_limit (Some limit) is = let was = within log limit is in absurd (none-some was.0 (sym (none_is (map.get old log) none) ∙ was.1))

-- the limit of one log is forgotten, and the other files are as before
pub within_freed : (limits : LogLimits) (old new : Files) (log : ℕ) → AreWithin limits old → ((q : ℕ) → q ≢ log → map.get new q ≡ map.get old q)
    → AreWithin (map.remove limits log) new
within_freed limits old new log within others = λ q limit is. elim (key_cases nat_cmp_total nat_cmp-IsAntisymmetric q log) [
  | inl here ↦ absurd (none-some limit (sym (get-remove_here nat_cmp_total nat_cmp-IsAntisymmetric limits log) ∙ ap (map.get (map.remove limits log)) (sym here) ∙ is))
  | inr apart ↦
      let was = within q limit (sym (get-remove_else nat_cmp_total nat_cmp-IsAntisymmetric limits log q apart.1) ∙ is) in
      (was.0, others q apart.1 ∙ was.1, was.2)
]

pub within_cut : (limits : LogLimits) (old new : Files) (log limit : ℕ) → map.get limits log ≡ Some limit → AreWithin limits old
    → (new ≡ old) ⊎ IsCutTo old log limit new → AreWithin limits new
within_cut limits old new log limit limited within (inl same) = within_equal limits old new same within
within_cut limits old new log limit limited within (inr cut) = λ q n is. elim (key_cases nat_cmp_total nat_cmp-IsAntisymmetric q log) [
  | inl here ↦
      let same : limit ≡ n = same_Some limit n (sym limited ∙ ap (map.get limits) (sym here) ∙ is) in
      let was = within log limit limited in
      let file : was.0 ≡ cut.0 = same_Some _ _ (sym was.1 ∙ cut.1) in (
        take limit cut.0,
        ap (map.get new) here ∙ ap (λ fs. map.get fs log) cut.2 ∙ get-insert_same old log (take limit cut.0),
        omega (arith, same, was.2, ap length file, length-take limit cut.0),
      )
  | inr apart ↦
      let was = within q n is in
      (was.0, ap (λ fs. map.get fs q) cut.2 ∙ get-insert_else nat_cmp_total nat_cmp-IsAntisymmetric old log (take limit cut.0) q apart.1 ∙ was.1, was.2)
]

-- ---- durable bytes

pub durable_shown : (limits : LogLimits) (kept gone kept' gone' : Files) → DurableGrows kept gone kept' gone'
    → DurableGrows (shown_files limits kept) gone (shown_files limits kept') gone'
durable_shown limits kept gone kept' gone' more = record {
  more = λ log front is.
      let one = shown_there limits kept log front is in
      let now = more.more log one.file one.there in (
        shown (map.get limits log) now.0,
        shown_is limits kept' log now.0 now.1,
        subst (λ (f : List ℕ). IsLonger f (shown (map.get limits log) now.0)) one.is (longer_shown (map.get limits log) one.file now.0 now.2),
      );
  back = more.back;
}

module _ (limits : LogLimits) (log limit : ℕ) (kept gone kept' gone' : Files) (limited : map.get limits log ≡ Some limit)
    (front : KeepsFrontDurable log limit kept gone kept' gone') where
  -- the log is truncated, and its limit forgotten
  pub freed_durable : DurableGrows (shown_files limits kept) gone (shown_files (map.remove limits log) kept') gone'
  freed_durable = record {
    more = λ q part is.
        let one = shown_there limits kept q part is in
        elim (key_cases nat_cmp_total nat_cmp-IsAntisymmetric q log) [
          | inl here ↦
              let now = front.front one.file (ap (map.get kept) (sym here) ∙ one.there) in
              let same : take limit one.file ≡ part = ap (λ o. shown o one.file) (sym limited ∙ ap (map.get limits) (sym here)) ∙ one.is in (
                now.0,
                ap (map.get (shown_files (map.remove limits log) kept')) here ∙ shown_is (map.remove limits log) kept' log now.0 now.1
                    ∙ ap (λ o. Some (shown o now.0)) (get-remove_here nat_cmp_total nat_cmp-IsAntisymmetric limits log),
                subst (λ (f : List ℕ). IsLonger f now.0) same now.2,
              )
          | inr apart ↦
              let now = front.others q one.file apart.1 one.there in (
                shown (map.get limits q) now.0,
                shown_is (map.remove limits log) kept' q now.0 now.1
                    ∙ ap (λ o. Some (shown o now.0)) (get-remove_else nat_cmp_total nat_cmp-IsAntisymmetric limits log q apart.1),
                subst (λ (f : List ℕ). IsLonger f (shown (map.get limits q) now.0)) one.is (longer_shown (map.get limits q) one.file now.0 now.2),
              )
        ];
    back = front.back;
  }

  -- the log may be truncated, and its limit stays
  pub cut_durable : DurableGrows (shown_files limits kept) gone (shown_files limits kept') gone'
  cut_durable = record {
    more = λ q part is.
        let one = shown_there limits kept q part is in
        elim (key_cases nat_cmp_total nat_cmp-IsAntisymmetric q log) [
          | inl here ↦
              let now = front.front one.file (ap (map.get kept) (sym here) ∙ one.there) in
              let same : take limit one.file ≡ part = ap (λ o. shown o one.file) (sym limited ∙ ap (map.get limits) (sym here)) ∙ one.is in (
                take limit now.0,
                ap (map.get (shown_files limits kept')) here ∙ shown_is limits kept' log now.0 now.1 ∙ ap (λ o. Some (shown o now.0)) limited,
                subst (λ (f : List ℕ). IsLonger f (take limit now.0)) (take-take limit limit one.file (omega arith) ∙ same)
                    (longer_fronts limit limit (take limit one.file) now.0 (omega arith) now.2),
              )
          | inr apart ↦
              let now = front.others q one.file apart.1 one.there in (
                shown (map.get limits q) now.0,
                shown_is limits kept' q now.0 now.1,
                subst (λ (f : List ℕ). IsLonger f (shown (map.get limits q) now.0)) one.is (longer_shown (map.get limits q) one.file now.0 now.2),
              )
        ];
    back = front.back;
  }

pub shown_durable : (limits : LogLimits) (kept : Files) (log : ℕ) (file : List ℕ) → IsDurable kept log file → IsDurable (shown_files limits kept) log (shown (map.get limits log) file)
shown_durable limits kept log file has =
    (shown (map.get limits log) has.0, shown_is limits kept log has.0 has.1, longer_shown (map.get limits log) file has.0 has.2)

pub synced_shown : {T : Type 0} (limits : LogLimits) (files kept : Files) (log : ℕ) (result : Result T DiskFault) → SyncDurability files log result kept
    → SyncDurability (shown_files limits files) log result (shown_files limits kept)
synced_shown limits files kept log (Err fault) has = tt
synced_shown limits files kept log (Ok x) has = by_file (map.get files log) refl where
  by_file : (o : Option (List ℕ)) → map.get files log ≡ o → IsDurable (shown_files limits kept) log (file_of (shown_files limits files) log)
  by_file None none =
      let now = shown_durable limits kept log (file_of files log) has in (
        now.0,
        now.1,
        subst (λ (f : List ℕ). IsLonger f now.0)
            (sym (ap (λ (o : Option (List ℕ)). unwrap_or o []) (get-shown limits files log ∙ ap (option_map (shown (map.get limits log))) none))) (longer_empty now.0),
      )
  by_file (Some file) there =
      subst (IsDurable (shown_files limits kept) log)
      (sym (ap (λ (o : Option (List ℕ)). unwrap_or o []) (shown_is limits files log file there)))
      (shown_durable limits kept log file (subst (IsDurable kept log) (ap (λ (o : Option (List ℕ)). unwrap_or o []) there) has))

pub all_durable_shown : (limits : LogLimits) (files kept : Files) (log : ℕ) → IsAllDurable files log kept → IsAllDurable (shown_files limits files) log (shown_files limits kept)
all_durable_shown limits files kept log all = λ front is.
    let one = shown_there limits files log front is in
    subst (IsDurable (shown_files limits kept) log) one.is (shown_durable limits kept log one.file (all one.file one.there))

-- ---- each call

pub creates_shown : {T : Type 0} (limits : LogLimits) (old new : Files) (log : ℕ) (result : Result T DiskFault) → AreWithin limits old → Creates old log result new
    → Creates (shown_files limits old) log result (shown_files limits new)
creates_shown limits old new log (Ok x) within turn = (
  none_shown limits old log turn.0,
  ap (shown_files limits) turn.1 ∙ shown_insert limits old log [] ∙ ap (λ o. map.insert (shown_files limits old) log (shown o [])) (unlimited limits old log turn.0 within),
)
creates_shown limits old new log (Err Disk) within turn = ap (shown_files limits) turn
creates_shown limits old new log (Err Exists) within turn = (some_shown limits old log turn.0, ap (shown_files limits) turn.1)
creates_shown limits old new log (Err Memory) within turn = (none_shown limits old log turn.0, ap (shown_files limits) turn.1)
creates_shown limits old new log (Err NoLog) within turn = absurd turn
creates_shown limits old new log (Err PastEnd) within turn = absurd turn
creates_shown limits old new log (Err TooLong) within turn = absurd turn

pub created_within : {T : Type 0} (limits : LogLimits) (old new : Files) (log : ℕ) (result : Result T DiskFault) → AreWithin limits old → Creates old log result new → AreWithin limits new
created_within limits old new log (Ok x) within turn = subst (AreWithin limits) (sym turn.1) (within_insert limits old log [] turn.0 within)
created_within limits old new log (Err Disk) within turn = within_equal limits old new turn within
created_within limits old new log (Err Exists) within turn = within_equal limits old new turn.1 within
created_within limits old new log (Err Memory) within turn = within_equal limits old new turn.1 within
created_within limits old new log (Err NoLog) within turn = absurd turn
created_within limits old new log (Err PastEnd) within turn = absurd turn
created_within limits old new log (Err TooLong) within turn = absurd turn

pub syncs_shown : {T : Type 0} (limits : LogLimits) (old new : Files) (log : ℕ) (result : Result T DiskFault) → Syncs old log result new
    → Syncs (shown_files limits old) log result (shown_files limits new)
syncs_shown limits old new log (Ok x) turn = (some_shown limits old log turn.0, ap (shown_files limits) turn.1)
syncs_shown limits old new log (Err Disk) turn = ap (shown_files limits) turn
syncs_shown limits old new log (Err NoLog) turn = (none_shown limits old log turn.0, ap (shown_files limits) turn.1)
syncs_shown limits old new log (Err Memory) turn = (some_shown limits old log turn.0, ap (shown_files limits) turn.1)
syncs_shown limits old new log (Err Exists) turn = absurd turn
syncs_shown limits old new log (Err PastEnd) turn = absurd turn
syncs_shown limits old new log (Err TooLong) turn = absurd turn
