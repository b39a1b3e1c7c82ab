-- The truncation of a log, on the files that limits show.
use Rattle.std.proofs.Common.{◌≡◌, ◌≢◌, ◌⊎◌, inl, inr, ℕ, ◌≤◌, List, [], ◌++◌, length, take, drop, Option, Some, None, Result, Ok, Err}
use Rattle.std.proofs.Common.{refl, sym, ap, ◌∙◌, subst, arith}
use Rattle.std.proofs.Math.Decide.{dec_le}
use Rattle.std.proofs.lemmas.List.{append-nil, take_all}
use Rattle.std.proofs.lemmas.Option.{none-some}
use Rattle.std.specs.Cmp.{nat_cmp_total}
use Rattle.std.specs.FinMap as map
use Rattle.std.specs.FinMap.{nat_cmp-IsAntisymmetric}
use Rattle.bk_record.specs.Files.{Files, header_length}
use Rattle.bk_record.specs.Longer.{IsLonger}
use Rattle.bk_record.proofs.Longer.{longer_trans}
use Rattle.bk_record.proofs.Maps.{key_cases, get-insert_else}
use Rattle.bk_disk.specs.declared.fault.DiskFault.{DiskFault}
use Rattle.bk_disk.specs.declared.fault.DiskFault.TheVariants.{Disk, Exists, NoLog, PastEnd, TooLong, Memory}
use Rattle.bk_disk.specs.Durable.{IsDurable, DurableGrows}
use Rattle.bk_disk.specs.Cutting.{IsCutTo, Cuts, KeepsFrontDurable}
use Rattle.bk_manifest_disk.specs.Limiting.{LogLimits, shown, shown_files, AreWithin}
use Rattle.bk_manifest_disk.proofs.Fronts.{longer_fronts}
use Rattle.bk_manifest_disk.proofs.Shown.{shown_there, shown_is, none_shown, some_shown, shown_insert}
use Rattle.bk_manifest_disk.proofs.Showing.{shown_durable, within_equal, freed_durable}
use Rattle.bk_manifest_disk.proofs.Changing.{uncut_same, freed_same, free_now}

-- ---- durable bytes among the first ones

longer_itself : (file : List ℕ) → IsLonger file file
longer_itself file = record { behind = []; is = sym (append-nil (drop header_length file)) }

-- the first bytes of a file, and the whole file
longer_whole : (n : ℕ) (file : List ℕ) → IsLonger (take n file) file
longer_whole n file = elim (dec_le n (length file)) [
  | yes within ↦ subst (IsLonger (take n file)) (take_all (length file) file (omega arith)) (longer_fronts n (length file) file file within (longer_itself file))
  | no past ↦ subst (λ (f : List ℕ). IsLonger f file) (sym (take_all n file (omega (arith, past)))) (longer_itself file)
]

pub front_of_grows : (log length : ℕ) (kept gone kept' gone' : Files) → DurableGrows kept gone kept' gone' → KeepsFrontDurable log length kept gone kept' gone'
front_of_grows log n kept gone kept' gone' more = record {
  others = λ other file apart is. more.more other file is;
  front = λ file is. let now = more.more log file is in (now.0, now.1, longer_trans (take n file) file now.0 (longer_whole n file) now.2);
  back = more.back;
}

pub front_after : (log length : ℕ) (kept gone kept' gone' kept'' gone'' : Files) → DurableGrows kept gone kept' gone' → KeepsFrontDurable log length kept' gone' kept'' gone''
    → KeepsFrontDurable log length kept gone kept'' gone''
front_after log n kept gone kept' gone' kept'' gone'' one two = record {
  others = λ other file apart is.
      let now = one.more other file is in
      let last = two.others other now.0 apart now.1 in
      (last.0, last.1, longer_trans file now.0 last.0 now.2 last.2);
  front = λ file is.
      let now = one.more log file is in
      let last = two.front now.0 now.1 in
      (last.0, last.1, longer_trans (take n file) (take n now.0) last.0 (longer_fronts n n file now.0 (omega arith) now.2) last.2);
  back = λ other file is. one.back other file (two.back other file is);
}

pub front_shown : (limits : LogLimits) (log length : ℕ) (kept gone kept' gone' : Files) → map.get limits log ≡ None → KeepsFrontDurable log length kept gone kept' gone'
    → KeepsFrontDurable log length (shown_files limits kept) gone (shown_files limits kept') gone'
front_shown limits log n kept gone kept' gone' free keeps = record {
  others = λ other front apart is.
      let one = shown_there limits kept other front is in
      subst (IsDurable (shown_files limits kept') other) one.is (shown_durable limits kept' other one.file (keeps.others other one.file apart one.there));
  front = λ front is.
      let one = shown_there limits kept log front is in
      let whole : one.file ≡ front = ap (λ o. shown o one.file) (sym free) ∙ one.is in
      let now = shown_durable limits kept' log (take n one.file) (keeps.front one.file one.there) in
      subst (λ (f : List ℕ). IsDurable (shown_files limits kept') log (take n f)) whole (subst (λ o. IsDurable (shown_files limits kept') log (shown o (take n one.file))) free now);
  back = keeps.back;
}

-- ---- the files

pub cuts_shown : {T : Type 0} (limits : LogLimits) (old new : Files) (log length : ℕ) (result : Result T DiskFault) → map.get limits log ≡ None → Cuts old log length result new
    → Cuts (shown_files limits old) log length result (shown_files limits new)
cuts_shown limits old new log n result free turn = by_result result turn where
  cut_shown : IsCutTo old log n new → IsCutTo (shown_files limits old) log n (shown_files limits new)
  cut_shown cut = (
    cut.0,
    shown_is limits old log cut.0 cut.1 ∙ ap (λ o. Some (shown o cut.0)) free,
    ap (shown_files limits) cut.2 ∙ shown_insert limits old log (take n cut.0) ∙ ap (λ o. map.insert (shown_files limits old) log (shown o (take n cut.0))) free,
  )

  by_result : {T : Type 0} (result : Result T DiskFault) → Cuts old log n result new → Cuts (shown_files limits old) log n result (shown_files limits new)
  by_result (Ok x) turn = cut_shown turn
  by_result (Err Disk) (inl same) = inl (ap (shown_files limits) same)
  by_result (Err Disk) (inr cut) = inr (cut_shown cut)
  by_result (Err NoLog) turn = (none_shown limits old log turn.0, ap (shown_files limits) turn.1)
  by_result (Err Memory) turn = (some_shown limits old log turn.0, ap (shown_files limits) turn.1)
  by_result (Err Exists) turn = absurd turn
  by_result (Err PastEnd) turn = absurd turn
  by_result (Err TooLong) turn = absurd turn

pub cuts_within : {T : Type 0} (limits : LogLimits) (old new : Files) (log length : ℕ) (result : Result T DiskFault) → map.get limits log ≡ None → AreWithin limits old
    → Cuts old log length result new → AreWithin limits new
cuts_within limits old new log n result free within turn = by_result result turn where
  within_else : IsCutTo old log n new → AreWithin limits new
  within_else cut = λ q limit is.
      let was = within q limit is in
      elim (key_cases nat_cmp_total nat_cmp-IsAntisymmetric q log) [
        | inl here ↦ absurd (none-some limit (sym free ∙ ap (map.get limits) (sym here) ∙ is))
        | inr apart ↦ (
          was.0,
          ap (λ fs. map.get fs q) cut.2 ∙ get-insert_else nat_cmp_total nat_cmp-IsAntisymmetric old log (take n cut.0) q apart.1 ∙ was.1,
          was.2,
        )
      ]

  by_result : {T : Type 0} (result : Result T DiskFault) → Cuts old log n result new → AreWithin limits new
  by_result (Ok x) turn = within_else turn
  by_result (Err Disk) (inl same) = within_equal limits old new same within
  by_result (Err Disk) (inr cut) = within_else cut
  by_result (Err NoLog) turn = within_equal limits old new turn.1 within
  by_result (Err Memory) turn = within_equal limits old new turn.1 within
  by_result (Err Exists) turn = absurd turn
  by_result (Err PastEnd) turn = absurd turn
  by_result (Err TooLong) turn = absurd turn

module _ (limits : LogLimits) (old : Files) (log limit length : ℕ) (limited : map.get limits log ≡ Some limit) where
  pub cuts_uncut : (new : Files) (fault : DiskFault) → Cuts {T = Unit {0}} old log limit (Err fault) new
      → Cuts {T = Unit {0}} (shown_files limits old) log length (Err fault) (shown_files limits new)
  cuts_uncut new Disk turn = inl (uncut_same limits old log limit limited new turn)
  cuts_uncut new NoLog turn = (none_shown limits old log turn.0, ap (shown_files limits) turn.1)
  cuts_uncut new Memory turn = (some_shown limits old log turn.0, ap (shown_files limits) turn.1)
  cuts_uncut new Exists turn = absurd turn
  cuts_uncut new PastEnd turn = absurd turn
  cuts_uncut new TooLong turn = absurd turn

  pub cuts_freed : {T : Type 0} (mid new : Files) (result : Result T DiskFault) → IsCutTo old log limit mid → Cuts mid log length result new
      → Cuts (shown_files limits old) log length result (shown_files (map.remove limits log) new)
  cuts_freed mid new result cut turn =
      subst (λ (f : Files). Cuts f log length result (shown_files (map.remove limits log) new)) (freed_same limits old log limit limited mid cut)
      (cuts_shown (map.remove limits log) mid new log length result (free_now limits old log limit limited) turn)

  pub front_freed : (kept gone kept' gone' kept'' gone'' : Files) → KeepsFrontDurable log limit kept gone kept' gone' → KeepsFrontDurable log length kept' gone' kept'' gone''
      → KeepsFrontDurable log length (shown_files limits kept) gone (shown_files (map.remove limits log) kept'') gone''
  front_freed kept gone kept' gone' kept'' gone'' one two =
      front_after log length (shown_files limits kept) gone (shown_files (map.remove limits log) kept') gone' (shown_files (map.remove limits log) kept'') gone''
      (freed_durable limits log limit kept gone kept' gone' limited one)
      (front_shown (map.remove limits log) log length kept' gone' kept'' gone'' (free_now limits old log limit limited) two)
