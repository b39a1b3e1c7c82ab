-- The calls that change files or read them, on the files that limits show.
use Rattle.std.proofs.Common.{◌≡◌, ◌≢◌, ◌⊎◌, inl, inr, ℕ, ◌+◌, ◌-◌, ◌≤◌, ◌<◌, ◌^◌, Bool, true, false, List, [], ◌++◌, length, take, drop, Option, Some, None, IsNone, option_map, unwrap_or, Result, Ok, Err}
use Rattle.std.proofs.Common.{refl, sym, ap, ◌∙◌, subst, arith, length-take}
use Rattle.std.proofs.lemmas.Bool.{leb-true, leb-false}
use Rattle.std.proofs.lemmas.List.{take-take, drop-take, append-nil, length-take-le}
use Rattle.std.proofs.lemmas.Option.{same_Some, none-some}
use Rattle.std.specs.Option.{option_map_or}
use Rattle.std.specs.Cmp.{nat_cmp_total}
use Rattle.std.specs.FinMap as map
use Rattle.std.specs.FinMap.{nat_cmp-IsAntisymmetric}
use Rattle.bk_record.specs.Files.{Files, file_of}
use Rattle.bk_record.specs.Longer.{IsLonger}
use Rattle.bk_record.proofs.Longer.{longer_empty, longer_trans}
use Rattle.bk_record.proofs.Maps.{key_cases, get-insert_else, get-remove_else, get-remove_here}
use Rattle.bk_record.proofs.NumberMaps.{get-insert_same, insert_same}
use Rattle.bk_disk.specs.declared.fault.DiskFault.{DiskFault}
use Rattle.bk_disk.specs.declared.fault.DiskFault.TheVariants.{Disk, Exists, NoLog, PastEnd, TooLong, Memory}
use Rattle.bk_disk.specs.Disk.{AreLogFiles, IsLogFile, files_after_append, files_after_patch, patched_file, Lists, Measures, Creates, Appends, Patches, Syncs, Reads, Views, Removes}
use Rattle.bk_disk.specs.Durable.{IsDurable, DurableGrows, SyncDurability, IsAllDurable, IsDroppedFromDurable, RemoveDurability}
use Rattle.bk_disk.specs.Cutting.{IsCutTo, Cuts, KeepsFrontDurable}
use Rattle.bk_disk.proofs.Cutting.{IsLogFile-take}
use Rattle.bk_disk.proofs.DurableGrows.{keeps_trans}
use Rattle.bk_manifest_disk.specs.Limiting.{LogLimits, shown, shown_files, AreWithin, reaches, capped}
use Rattle.bk_manifest_disk.proofs.Fronts.{longer_fronts, longer_shown, length-shown, patched_front}
use Rattle.bk_manifest_disk.proofs.Grown.{Grown, Alike}
use Rattle.bk_manifest_disk.proofs.Shown.{get-shown, keys-shown, shown_there, shown_is, none_shown, some_shown, none_is, shown_insert, shown_remove, shown_cut, shown_freed}
use Rattle.bk_manifest_disk.proofs.Showing.{within_equal, within_freed, durable_shown, freed_durable}

-- ---- append

after_append_shown : (limits : LogLimits) (old : Files) (log : ℕ) (piece : List ℕ) → map.get limits log ≡ None
    → shown_files limits (files_after_append old log piece) ≡ files_after_append (shown_files limits old) log piece
after_append_shown limits old log piece free =
    elim (map.get old log) as (λ o. map.get old log ≡ o
    → shown_files limits (option_map_or (λ file. map.insert old log (file ++ piece)) o old) ≡ files_after_append (shown_files limits old) log piece) [
      | None ↦ λ none. sym (ap (λ o. option_map_or (λ (f : List ℕ). map.insert (shown_files limits old) log (f ++ piece)) o (shown_files limits old))
          (get-shown limits old log ∙ ap (option_map (shown (map.get limits log))) none))
      | Some file ↦ λ there. shown_insert limits old log (file ++ piece) ∙ ap (λ o. map.insert (shown_files limits old) log (shown o (file ++ piece))) free
          ∙ sym (ap (λ o. option_map_or (λ (f : List ℕ). map.insert (shown_files limits old) log (f ++ piece)) o (shown_files limits old))
          (shown_is limits old log file there ∙ ap (λ o. Some (shown o file)) free))
    ] refl

shown_free : (limits : LogLimits) (old : Files) (log : ℕ) (file : List ℕ) → map.get limits log ≡ None → map.get old log ≡ Some file → map.get (shown_files limits old) log ≡ Some file
shown_free limits old log file free there = shown_is limits old log file there ∙ ap (λ o. Some (shown o file)) free

pub appends_shown : {T : Type 0} (limits : LogLimits) (old new : Files) (log : ℕ) (piece : List ℕ) (result : Result T DiskFault) → map.get limits log ≡ None
    → Appends old log piece result new → Appends (shown_files limits old) log piece result (shown_files limits new)
appends_shown limits old new log piece (Ok x) free turn =
    (turn.0, shown_free limits old log turn.0 free turn.1, turn.2, ap (shown_files limits) turn.3 ∙ after_append_shown limits old log piece free)
appends_shown limits old new log piece (Err Disk) free turn = (turn.0, ap (shown_files limits) turn.1 ∙ after_append_shown limits old log (take turn.0 piece) free)
appends_shown limits old new log piece (Err NoLog) free turn = (none_shown limits old log turn.0, ap (shown_files limits) turn.1)
appends_shown limits old new log piece (Err TooLong) free turn = (turn.0, shown_free limits old log turn.0 free turn.1, turn.2, ap (shown_files limits) turn.3)
appends_shown limits old new log piece (Err Memory) free turn = (turn.0, shown_free limits old log turn.0 free turn.1, turn.2, ap (shown_files limits) turn.3)
appends_shown limits old new log piece (Err Exists) free turn = absurd turn
appends_shown limits old new log piece (Err PastEnd) free turn = absurd turn

after_nothing : (old : Files) (log : ℕ) → files_after_append old log [] ≡ old
after_nothing old log = elim (map.get old log) as (λ o. map.get old log ≡ o → option_map_or (λ (f : List ℕ). map.insert old log (f ++ [])) o old ≡ old) [
  | None ↦ λ none. refl
  | Some file ↦ λ there. ap (map.insert old log) (append-nil file) ∙ insert_same old log file there
] refl

pub cuts_either : (old new : Files) (log limit : ℕ) (fault : DiskFault) → Cuts {T = Unit {0}} old log limit (Err fault) new → (new ≡ old) ⊎ IsCutTo old log limit new
cuts_either old new log limit Disk turn = turn
cuts_either old new log limit NoLog turn = inl turn.1
cuts_either old new log limit Memory turn = inl turn.1
cuts_either old new log limit Exists turn = absurd turn
cuts_either old new log limit PastEnd turn = absurd turn
cuts_either old new log limit TooLong turn = absurd turn

module _ (limits : LogLimits) (old : Files) (log limit : ℕ) (limited : map.get limits log ≡ Some limit) where
  pub uncut_same : (new : Files) → (new ≡ old) ⊎ IsCutTo old log limit new → shown_files limits new ≡ shown_files limits old
  uncut_same new (inl same) = ap (shown_files limits) same
  uncut_same new (inr cut) = ap (shown_files limits) cut.2 ∙ shown_cut limits old log limit cut.0 limited cut.1

  pub freed_same : (mid : Files) → IsCutTo old log limit mid → shown_files (map.remove limits log) mid ≡ shown_files limits old
  freed_same mid cut = ap (shown_files (map.remove limits log)) cut.2 ∙ shown_freed limits old log limit cut.0 limited cut.1

  pub free_now : map.get (map.remove limits log) log ≡ None
  free_now = get-remove_here nat_cmp_total nat_cmp-IsAntisymmetric limits log

  others : (mid : Files) → IsCutTo old log limit mid → (q : ℕ) → q ≢ log → map.get mid q ≡ map.get old q
  others mid cut q apart = ap (λ fs. map.get fs q) cut.2 ∙ get-insert_else nat_cmp_total nat_cmp-IsAntisymmetric old log (take limit cut.0) q apart

  pub freed_within : (mid : Files) → IsCutTo old log limit mid → AreWithin limits old → AreWithin (map.remove limits log) mid
  freed_within mid cut within = within_freed limits old mid log within (others mid cut)

  pub appends_freed : {T : Type 0} (mid new : Files) (piece : List ℕ) (result : Result T DiskFault) → IsCutTo old log limit mid → Appends mid log piece result new
      → Appends (shown_files limits old) log piece result (shown_files (map.remove limits log) new)
  appends_freed mid new piece result cut turn =
      subst (λ (f : Files). Appends f log piece result (shown_files (map.remove limits log) new)) (freed_same mid cut)
      (appends_shown (map.remove limits log) mid new log piece result free_now turn)

  pub limited_file : AreWithin limits old → (file : List ℕ) × (map.get (shown_files limits old) log ≡ Some file) × (length file ≡ limit)
  limited_file within =
      let was = within log limit limited in
      (take limit was.0, shown_is limits old log was.0 was.1 ∙ ap (λ o. Some (shown o was.0)) limited, length-take-le limit was.0 was.2)

  pub append_too_long : (piece : List ℕ) → AreWithin limits old → 2 ^ 32 ≤ limit + length piece → Appends {T = Unit {0}} (shown_files limits old) log piece (Err TooLong) (shown_files limits old)
  append_too_long piece within long = let file = limited_file within in (file.0, file.1, omega (arith, file.2, long), refl)

  pub appends_uncut : (new : Files) (piece : List ℕ) (fault : DiskFault) → AreWithin limits old → limit + length piece < 2 ^ 32
      → Cuts {T = Unit {0}} old log limit (Err fault) new → Appends {T = Unit {0}} (shown_files limits old) log piece (Err fault) (shown_files limits new)
  appends_uncut new piece Disk within short turn = (0, uncut_same new turn ∙ sym (after_nothing (shown_files limits old) log))
  appends_uncut new piece NoLog within short turn =
      let was = within log limit limited in absurd (none-some was.0 (sym (none_is (map.get old log) turn.0) ∙ was.1))
  appends_uncut new piece Memory within short turn =
      let file = limited_file within in (file.0, file.1, omega (arith, file.2, short), ap (shown_files limits) turn.1)
  appends_uncut new piece Exists within short turn = absurd turn
  appends_uncut new piece PastEnd within short turn = absurd turn
  appends_uncut new piece TooLong within short turn = absurd turn

-- ---- patch and reads

patched_shown : (limit : Option ℕ) (file bytes : List ℕ) → reaches limit 20 ≡ true → ((l : ℕ) → limit ≡ Some l → l ≤ length file) → length bytes ≡ 12
    → shown limit (patched_file file bytes) ≡ patched_file (shown limit file) bytes
patched_shown None file bytes reached within twelve = refl
patched_shown (Some l) file bytes reached within twelve = patched_front l file bytes (leb-true 20 l reached) (within l refl) twelve

length_reached : (limit : Option ℕ) (end : ℕ) (file : List ℕ) → reaches limit end ≡ true → end ≤ length file → end ≤ length (shown limit file)
length_reached None end file reached long = long
length_reached (Some l) end file reached long = omega (arith, leb-true end l reached, long, length-take l file)

read_reached : (limit : Option ℕ) (at n : ℕ) (file : List ℕ) → reaches limit (at + n) ≡ true → take n (drop at file) ≡ take n (drop at (shown limit file))
read_reached None at n file reached = refl
read_reached (Some l) at n file reached =
    let k = l - at in
    let order = leb-true (at + n) l reached in
    let sum : l ≡ at + k = omega (arith, order) in
    sym (ap (λ i. take n (drop at (take i file))) sum ∙ ap (take n) (drop-take at k file) ∙ take-take n k (drop at file) (omega (arith, order)))

file_within : (limits : LogLimits) (old : Files) (log : ℕ) (file : List ℕ) → AreWithin limits old → map.get old log ≡ Some file → (l : ℕ) → map.get limits log ≡ Some l → l ≤ length file
file_within limits old log file within there l is =
    let was = within log l is in
    let same : was.0 ≡ file = same_Some _ _ (sym was.1 ∙ there) in omega (arith, was.2, ap length same)

module _ (limits : LogLimits) (old : Files) (log : ℕ) (within : AreWithin limits old) where
  not_reached_by : (limit : Option ℕ) (end : ℕ) → map.get limits log ≡ limit → reaches limit end ≡ false
      → (file : List ℕ) × (map.get (shown_files limits old) log ≡ Some file) × (length file < end) × (shown_files limits old ≡ shown_files limits old)
  not_reached_by None end is short = cc
  not_reached_by (Some l) end is short =
      let file = limited_file limits old log l is within in (file.0, file.1, omega (arith, file.2, leb-false end l short), refl)

  pub not_reached : (end : ℕ) → reaches (map.get limits log) end ≡ false
      → (file : List ℕ) × (map.get (shown_files limits old) log ≡ Some file) × (length file < end) × (shown_files limits old ≡ shown_files limits old)
  not_reached end short = not_reached_by (map.get limits log) end refl short

  module _ (reached : reaches (map.get limits log) 20 ≡ true) where
    after_patch_shown : (bytes : List ℕ) → length bytes ≡ 12 → shown_files limits (files_after_patch old log bytes) ≡ files_after_patch (shown_files limits old) log bytes
    after_patch_shown bytes twelve =
        elim (map.get old log) as (λ o. map.get old log ≡ o
        → shown_files limits (option_map_or (λ file. map.insert old log (patched_file file bytes)) o old) ≡ files_after_patch (shown_files limits old) log bytes) [
          | None ↦ λ none. sym (ap (λ o. option_map_or (λ (f : List ℕ). map.insert (shown_files limits old) log (patched_file f bytes)) o (shown_files limits old))
              (get-shown limits old log ∙ ap (option_map (shown (map.get limits log))) none))
          | Some file ↦ λ there. shown_insert limits old log (patched_file file bytes)
              ∙ ap (map.insert (shown_files limits old) log) (patched_shown (map.get limits log) file bytes reached (file_within limits old log file within there) twelve)
              ∙ sym (ap (λ o. option_map_or (λ (f : List ℕ). map.insert (shown_files limits old) log (patched_file f bytes)) o (shown_files limits old)) (shown_is limits old log file there))
        ] refl

    pub patches_shown : {T : Type 0} (new : Files) (bytes : List ℕ) (result : Result T DiskFault) → length bytes ≡ 12 → Patches old log bytes result new
        → Patches (shown_files limits old) log bytes result (shown_files limits new)
    patches_shown new bytes (Ok x) twelve turn =
        (shown (map.get limits log) turn.0, shown_is limits old log turn.0 turn.1, length_reached (map.get limits log) 20 turn.0 reached turn.2, ap (shown_files limits) turn.3 ∙ after_patch_shown bytes twelve)
    patches_shown new bytes (Err Disk) twelve turn = (turn.0, turn.1, ap (shown_files limits) turn.2 ∙ after_patch_shown turn.0 turn.1)
    patches_shown new bytes (Err NoLog) twelve turn = (none_shown limits old log turn.0, ap (shown_files limits) turn.1)
    patches_shown new bytes (Err PastEnd) twelve turn =
        (shown (map.get limits log) turn.0, shown_is limits old log turn.0 turn.1, omega (arith, turn.2, length-shown (map.get limits log) turn.0), ap (shown_files limits) turn.3)
    patches_shown new bytes (Err Memory) twelve turn =
        (shown (map.get limits log) turn.0, shown_is limits old log turn.0 turn.1, length_reached (map.get limits log) 20 turn.0 reached turn.2, ap (shown_files limits) turn.3)
    patches_shown new bytes (Err Exists) twelve turn = absurd turn
    patches_shown new bytes (Err TooLong) twelve turn = absurd turn

pub reads_shown : {T : Type 0} (bytes : T → List ℕ) (limits : LogLimits) (old new : Files) (log at n : ℕ) (result : Result T DiskFault) → reaches (map.get limits log) (at + n) ≡ true
    → Reads bytes old log at n result new → Reads bytes (shown_files limits old) log at n result (shown_files limits new)
reads_shown bytes limits old new log at n (Ok found) reached turn = (
  shown (map.get limits log) turn.0,
  shown_is limits old log turn.0 turn.1,
  length_reached (map.get limits log) (at + n) turn.0 reached turn.2,
  turn.3 ∙ read_reached (map.get limits log) at n turn.0 reached,
  ap (shown_files limits) turn.4,
)
reads_shown bytes limits old new log at n (Err Disk) reached turn = ap (shown_files limits) turn
reads_shown bytes limits old new log at n (Err NoLog) reached turn = (none_shown limits old log turn.0, ap (shown_files limits) turn.1)
reads_shown bytes limits old new log at n (Err PastEnd) reached turn =
    (shown (map.get limits log) turn.0, shown_is limits old log turn.0 turn.1, omega (arith, turn.2, length-shown (map.get limits log) turn.0), ap (shown_files limits) turn.3)
reads_shown bytes limits old new log at n (Err Memory) reached turn =
    (shown (map.get limits log) turn.0, shown_is limits old log turn.0 turn.1, length_reached (map.get limits log) (at + n) turn.0 reached turn.2, ap (shown_files limits) turn.3)
reads_shown bytes limits old new log at n (Err Exists) reached turn = absurd turn
reads_shown bytes limits old new log at n (Err TooLong) reached turn = absurd turn

pub unviewed_shown : {V W : Type 0} (bytes : V → List ℕ) (honest : V → Bool) (bytes' : W → List ℕ) (honest' : W → Bool) (limits : LogLimits) (old new : Files) (log : ℕ) (fault : DiskFault)
    → Views bytes honest old log (Err fault) new → Views bytes' honest' (shown_files limits old) log (Err fault) (shown_files limits new)
unviewed_shown bytes honest bytes' honest' limits old new log Disk turn = ap (shown_files limits) turn
unviewed_shown bytes honest bytes' honest' limits old new log NoLog turn = (none_shown limits old log turn.0, ap (shown_files limits) turn.1)
unviewed_shown bytes honest bytes' honest' limits old new log Memory turn = (some_shown limits old log turn.0, ap (shown_files limits) turn.1)
unviewed_shown bytes honest bytes' honest' limits old new log Exists turn = absurd turn
unviewed_shown bytes honest bytes' honest' limits old new log PastEnd turn = absurd turn
unviewed_shown bytes honest bytes' honest' limits old new log TooLong turn = absurd turn

-- ---- removal

pub removes_shown : {T : Type 0} (limits : LogLimits) (old new : Files) (log : ℕ) (result : Result T DiskFault) → Removes old log result new
    → Removes (shown_files limits old) log result (shown_files limits new)
removes_shown limits old new log (Ok x) turn = (some_shown limits old log turn.0, ap (shown_files limits) turn.1 ∙ shown_remove limits old log)
removes_shown limits old new log (Err Disk) turn = ap (shown_files limits) turn
removes_shown limits old new log (Err NoLog) turn = (none_shown limits old log turn.0, ap (shown_files limits) turn.1)
removes_shown limits old new log (Err Memory) turn = (some_shown limits old log turn.0, ap (shown_files limits) turn.1)
removes_shown limits old new log (Err Exists) turn = absurd turn
removes_shown limits old new log (Err PastEnd) turn = absurd turn
removes_shown limits old new log (Err TooLong) turn = absurd turn

without_within : (limits : LogLimits) (old : Files) (log : ℕ) → map.get limits log ≡ None → AreWithin limits old → AreWithin limits (map.remove old log)
without_within limits old log free within = λ q limit is.
    let was = within q limit is in
    elim (key_cases nat_cmp_total nat_cmp-IsAntisymmetric q log) [
      | inl here ↦ absurd (none-some limit (sym free ∙ ap (map.get limits) (sym here) ∙ is))
      | inr apart ↦ (was.0, get-remove_else nat_cmp_total nat_cmp-IsAntisymmetric old log q apart.1 ∙ was.1, was.2)
    ]

pub removed_within : {T : Type 0} (limits : LogLimits) (old new : Files) (log : ℕ) (result : Result T DiskFault) → map.get limits log ≡ None → AreWithin limits old
    → Removes old log result new → AreWithin limits new
removed_within limits old new log (Ok x) free within turn = within_equal limits (map.remove old log) new turn.1 (without_within limits old log free within)
removed_within limits old new log (Err Disk) free within turn = within_equal limits old new turn within
removed_within limits old new log (Err NoLog) free within turn = within_equal limits old new turn.1 within
removed_within limits old new log (Err Memory) free within turn = within_equal limits old new turn.1 within
removed_within limits old new log (Err Exists) free within turn = absurd turn
removed_within limits old new log (Err PastEnd) free within turn = absurd turn
removed_within limits old new log (Err TooLong) free within turn = absurd turn

drops_shown : (limits : LogLimits) (files : Files) (log : ℕ) (kept gone kept' gone' : Files) → map.get limits log ≡ None → IsDroppedFromDurable files log kept gone kept' gone'
    → IsDroppedFromDurable (shown_files limits files) log (shown_files limits kept) gone (shown_files limits kept') gone'
drops_shown limits files log kept gone kept' gone' free drops = record {
  more = λ other front apart is.
      let one = shown_there limits kept other front is in
      let now = drops.more other one.file apart one.there in (
        shown (map.get limits other) now.0,
        shown_is limits kept' other now.0 now.1,
        subst (λ (f : List ℕ). IsLonger f (shown (map.get limits other) now.0)) one.is (longer_shown (map.get limits other) one.file now.0 now.2),
      );
  back = λ other file is. elim (drops.back other file is) [
    | inl was ↦ inl was
    | inr now ↦ inr (now.0, shown_is limits files other file now.1 ∙ ap (λ o. Some (shown o file)) (ap (map.get limits) now.0 ∙ free))
  ];
}

pub removal_shown : {T : Type 0} (limits : LogLimits) (files : Files) (log : ℕ) (result : Result T DiskFault) (kept gone kept' gone' : Files) → map.get limits log ≡ None
    → RemoveDurability files log result kept gone kept' gone' → RemoveDurability (shown_files limits files) log result (shown_files limits kept) gone (shown_files limits kept') gone'
removal_shown limits files log (Ok x) kept gone kept' gone' free turn = drops_shown limits files log kept gone kept' gone' free turn
removal_shown limits files log (Err Disk) kept gone kept' gone' free turn = drops_shown limits files log kept gone kept' gone' free turn
removal_shown limits files log (Err Exists) kept gone kept' gone' free turn = durable_shown limits kept gone kept' gone' turn
removal_shown limits files log (Err NoLog) kept gone kept' gone' free turn = durable_shown limits kept gone kept' gone' turn
removal_shown limits files log (Err PastEnd) kept gone kept' gone' free turn = durable_shown limits kept gone kept' gone' turn
removal_shown limits files log (Err TooLong) kept gone kept' gone' free turn = durable_shown limits kept gone kept' gone' turn
removal_shown limits files log (Err Memory) kept gone kept' gone' free turn = durable_shown limits kept gone kept' gone' turn

drops_of_grows : (files : Files) (log : ℕ) (kept gone kept' gone' : Files) → DurableGrows kept gone kept' gone' → IsDroppedFromDurable files log kept gone kept' gone'
drops_of_grows files log kept gone kept' gone' more = record { more = λ other file apart is. more.more other file is; back = λ other file is. inl (more.back other file is) }

pub removal_of_grows : (files : Files) (log : ℕ) (fault : DiskFault) (kept gone kept' gone' : Files) → DurableGrows kept gone kept' gone'
    → RemoveDurability {T = Unit {0}} files log (Err fault) kept gone kept' gone'
removal_of_grows files log Disk kept gone kept' gone' more = drops_of_grows files log kept gone kept' gone' more
removal_of_grows files log Exists kept gone kept' gone' more = more
removal_of_grows files log NoLog kept gone kept' gone' more = more
removal_of_grows files log PastEnd kept gone kept' gone' more = more
removal_of_grows files log TooLong kept gone kept' gone' more = more
removal_of_grows files log Memory kept gone kept' gone' more = more

drops_after : (files : Files) (log : ℕ) (kept gone kept' gone' kept'' gone'' : Files) → DurableGrows kept gone kept' gone' → IsDroppedFromDurable files log kept' gone' kept'' gone''
    → IsDroppedFromDurable files log kept gone kept'' gone''
drops_after files log kept gone kept' gone' kept'' gone'' one two = record {
  more = λ other file apart is.
      let now = one.more other file is in
      let last = two.more other now.0 apart now.1 in
      (last.0, last.1, longer_trans file now.0 last.0 now.2 last.2);
  back = λ other file is. elim (two.back other file is) [ inl was ↦ inl (one.back other file was) | inr now ↦ inr now ];
}

pub removal_after : {T : Type 0} (files : Files) (log : ℕ) (result : Result T DiskFault) (kept gone kept' gone' kept'' gone'' : Files) → DurableGrows kept gone kept' gone'
    → RemoveDurability files log result kept' gone' kept'' gone'' → RemoveDurability files log result kept gone kept'' gone''
removal_after files log (Ok x) kept gone kept' gone' kept'' gone'' one two = drops_after files log kept gone kept' gone' kept'' gone'' one two
removal_after files log (Err Disk) kept gone kept' gone' kept'' gone'' one two = drops_after files log kept gone kept' gone' kept'' gone'' one two
removal_after files log (Err Exists) kept gone kept' gone' kept'' gone'' one two = keeps_trans kept gone kept' gone' kept'' gone'' one two
removal_after files log (Err NoLog) kept gone kept' gone' kept'' gone'' one two = keeps_trans kept gone kept' gone' kept'' gone'' one two
removal_after files log (Err PastEnd) kept gone kept' gone' kept'' gone'' one two = keeps_trans kept gone kept' gone' kept'' gone'' one two
removal_after files log (Err TooLong) kept gone kept' gone' kept'' gone'' one two = keeps_trans kept gone kept' gone' kept'' gone'' one two
removal_after files log (Err Memory) kept gone kept' gone' kept'' gone'' one two = keeps_trans kept gone kept' gone' kept'' gone'' one two

module _ (limits : LogLimits) (old : Files) (log limit : ℕ) (limited : map.get limits log ≡ Some limit) where
  pub removes_uncut : (new : Files) (fault : DiskFault) → Cuts {T = Unit {0}} old log limit (Err fault) new
      → Removes {T = Unit {0}} (shown_files limits old) log (Err fault) (shown_files limits new)
  removes_uncut new Disk turn = uncut_same limits old log limit limited new turn
  removes_uncut new NoLog turn = (none_shown limits old log turn.0, ap (shown_files limits) turn.1)
  removes_uncut new Memory turn = (some_shown limits old log turn.0, ap (shown_files limits) turn.1)
  removes_uncut new Exists turn = absurd turn
  removes_uncut new PastEnd turn = absurd turn
  removes_uncut new TooLong turn = absurd turn

  pub removes_freed : {T : Type 0} (mid new : Files) (result : Result T DiskFault) → IsCutTo old log limit mid → Removes mid log result new
      → Removes (shown_files limits old) log result (shown_files (map.remove limits log) new)
  removes_freed mid new result cut turn =
      subst (λ (f : Files). Removes f log result (shown_files (map.remove limits log) new)) (freed_same limits old log limit limited mid cut)
      (removes_shown (map.remove limits log) mid new log result turn)

  pub removal_freed : {T : Type 0} (mid : Files) (result : Result T DiskFault) (kept gone kept' gone' kept'' gone'' : Files) → IsCutTo old log limit mid
      → KeepsFrontDurable log limit kept gone kept' gone' → RemoveDurability mid log result kept' gone' kept'' gone''
      → RemoveDurability (shown_files limits old) log result (shown_files limits kept) gone (shown_files (map.remove limits log) kept'') gone''
  removal_freed mid result kept gone kept' gone' kept'' gone'' cut front turn =
      removal_after (shown_files limits old) log result (shown_files limits kept) gone (shown_files (map.remove limits log) kept') gone' (shown_files (map.remove limits log) kept'') gone''
      (freed_durable limits log limit kept gone kept' gone' limited front)
      (subst (λ (f : Files). RemoveDurability f log result (shown_files (map.remove limits log) kept') gone' (shown_files (map.remove limits log) kept'') gone'')
      (freed_same limits old log limit limited mid cut)
      (removal_shown (map.remove limits log) mid log result kept' gone' kept'' gone'' (free_now limits old log limit limited) turn))
