-- The durable bytes of each log by the records.
use Rattle.std.proofs.Common.{◌≡◌, ◌≢◌, ℕ, ◌≤◌, true, false, cond, List, [], ◌∷◌, length, take, Option, Some, None, option_map, unwrap_or, Result, Ok, Err}
use Rattle.std.proofs.Common.{refl, sym, ap, ◌∙◌, subst, arith}
use Rattle.std.proofs.lemmas.List.{take_all}
use Rattle.std.proofs.lemmas.Option.{same_Some, none-some}
use Rattle.std.specs.Option.{option_map_or}
use Rattle.std.specs.Ordering.{nat_cmp, eq_by_cmp, is_eq}
use Rattle.std.specs.declared.cmp.Ordering.{Ordering}
use Rattle.std.specs.declared.cmp.Ordering.TheVariants.{Less, Equal, Greater}
use Rattle.std.specs.Cmp.{nat_cmp_total}
use Rattle.std.specs.FinMap as map
use Rattle.std.specs.FinMap.{nat_cmp-IsAntisymmetric}
use Rattle.bk_record.specs.Files.{Files, file_of}
use Rattle.bk_record.specs.Longer.{IsLonger}
use Rattle.bk_disk.specs.Disk.{Removes}
use Rattle.bk_disk.specs.Durable.{IsDurable, DurableGrows, IsDroppedFromDurable, RemoveDurability}
use Rattle.bk_disk.specs.declared.fault.DiskFault.{DiskFault}
use Rattle.bk_disk.specs.declared.fault.DiskFault.TheVariants.{Disk, Exists, NoLog, PastEnd, TooLong, Memory}
use Rattle.bk_record.proofs.Maps.{get-remove_else}
use Rattle.bk_manifest.specs.Fact.{Fact}
use Rattle.bk_manifest_disk.specs.Table.{recorded}
use Rattle.bk_manifest_disk.specs.Recording.{promised, if_there, promise, each_front, durable_fronts, Rises}
use Rattle.bk_manifest_disk.proofs.Fronts.{longer_fronts}
use Rattle.bk_manifest_disk.proofs.Recorded.{rises_equal, rises_same, rises_some}

abbrev front_of : Option ℕ → Option (List ℕ) → Option (List ℕ)
front_of n None = None
front_of n (Some file) = option_map (λ m. take m file) n

none_front : (n : Option ℕ) (o : Option (List ℕ)) → n ≡ None → front_of n o ≡ None
none_front n None none = refl
none_front n (Some file) none = ap (option_map (λ m. take m file)) none

ties : (r : Ordering) → is_eq r ≡ true → r ≡ Equal
ties Less it = cc
ties Equal it = refl
ties Greater it = cc

find-front : (files : Files) (R : List Fact) (es : List (ℕ × List ℕ)) (q : ℕ) → map.find nat_cmp q (each_front files R es) ≡ front_of (promise files R q) (map.find nat_cmp q es)
find-front files R [] q = refl
find-front files R (e ∷ es) q =
    elim (eq_by_cmp nat_cmp q e.0) as (λ t. eq_by_cmp nat_cmp q e.0 ≡ t
    → map.find nat_cmp q (option_map_or (λ n. (e.0, take n e.1) ∷ each_front files R es) (promise files R e.0) (each_front files R es))
    ≡ front_of (promise files R q) (cond t (Some e.1) (map.find nat_cmp q es))) [
      | true ↦ λ tied.
          let same : q ≡ e.0 = here tied in
          elim (promise files R e.0) as (λ o. promise files R e.0 ≡ o
          → map.find nat_cmp q (option_map_or (λ n. (e.0, take n e.1) ∷ each_front files R es) o (each_front files R es)) ≡ front_of (promise files R q) (Some e.1)) [
            | None ↦ λ none.
                let gone : promise files R q ≡ None = ap (promise files R) same ∙ none in
                find-front files R es q ∙ none_front (promise files R q) (map.find nat_cmp q es) gone ∙ sym (none_front (promise files R q) (Some e.1) gone)
            | Some n ↦ λ is.
                ap (λ b. cond b (Some (take n e.1)) (map.find nat_cmp q (each_front files R es))) tied
                ∙ sym (ap (option_map (λ m. take m e.1)) (ap (promise files R) same ∙ is))
          ] refl
      | false ↦ λ apart.
          elim (promise files R e.0) as (λ o. map.find nat_cmp q (option_map_or (λ n. (e.0, take n e.1) ∷ each_front files R es) o (each_front files R es))
          ≡ front_of (promise files R q) (map.find nat_cmp q es)) [
            | None ↦ find-front files R es q
            | Some n ↦ ap (λ b. cond b (Some (take n e.1)) (map.find nat_cmp q (each_front files R es))) apart ∙ find-front files R es q
          ]
    ] refl where
      here : eq_by_cmp nat_cmp q e.0 ≡ true → q ≡ e.0
      here tied = nat_cmp-IsAntisymmetric q e.0 (ties (nat_cmp q e.0) tied)

get-front : (files : Files) (R : List Fact) (kept : Files) (log : ℕ) → map.get (durable_fronts files R kept) log ≡ front_of (promise files R log) (map.get kept log)
unfolding durable_fronts
get-front files R kept log =
    map.get-from_entries nat_cmp_total (each_front files R (map.entries kept)) log ∙ find-front files R (map.entries kept) log
    ∙ ap (front_of (promise files R log)) (sym (map.get-entries kept log))

pub front_is : (files : Files) (R : List Fact) (kept : Files) (log n : ℕ) (file : List ℕ) → map.get kept log ≡ Some file → promise files R log ≡ Some n
    → map.get (durable_fronts files R kept) log ≡ Some (take n file)
front_is files R kept log n file there is =
    get-front files R kept log ∙ ap (front_of (promise files R log)) there ∙ ap (option_map (λ m. take m file)) is

pub record IsFront (files : Files) (R : List Fact) (kept : Files) (log : ℕ) (front : List ℕ) : Type 0 where
  pub file : List ℕ
  pub n : ℕ
  pub there : map.get kept log ≡ Some file
  pub durable : promise files R log ≡ Some n
  pub is : take n file ≡ front

pub front_there : (files : Files) (R : List Fact) (kept : Files) (log : ℕ) (front : List ℕ) → map.get (durable_fronts files R kept) log ≡ Some front → IsFront files R kept log front
front_there files R kept log front is = by_file (map.get kept log) refl where
  by_length : (file : List ℕ) → map.get kept log ≡ Some file → (o : Option ℕ) → promise files R log ≡ o → option_map (λ m. take m file) o ≡ Some front → IsFront files R kept log front
  by_length file there None none now = absurd (none-some front now)
  by_length file there (Some n) durable now = record { file = file; n = n; there = there; durable = durable; is = same_Some _ _ now }

  by_file : (o : Option (List ℕ)) → map.get kept log ≡ o → IsFront files R kept log front
  by_file None none = absurd (none-some front (sym (get-front files R kept log ∙ ap (front_of (promise files R log)) none) ∙ is))
  by_file (Some file) there =
      by_length file there (promise files R log) refl (sym (get-front files R kept log ∙ ap (front_of (promise files R log)) there) ∙ is)

-- ---- calls

pub front_more : (files files' : Files) (R R' : List Fact) (kept kept' : Files) (log : ℕ) (front : List ℕ) → ((file : List ℕ) → map.get kept log ≡ Some file → IsDurable kept' log file)
    → Rises (promise files R log) (promise files' R' log) → map.get (durable_fronts files R kept) log ≡ Some front → IsDurable (durable_fronts files' R' kept') log front
front_more files files' R R' kept kept' log front more up is =
    let old = front_there files R kept log front is in
    let now = more old.file old.there in
    let m = rises_some (promise files R log) (promise files' R' log) old.n up old.durable in (
      take m.0 now.0,
      front_is files' R' kept' log m.0 now.0 now.1 m.1,
      subst (λ (f : List ℕ). IsLonger f (take m.0 now.0)) old.is (longer_fronts old.n m.0 old.file now.0 m.2 now.2),
    )

pub fronts_grow : (files files' : Files) (R R' : List Fact) (kept gone kept' gone' : Files) → DurableGrows kept gone kept' gone'
    → ((log : ℕ) → Rises (promise files R log) (promise files' R' log)) → DurableGrows (durable_fronts files R kept) gone (durable_fronts files' R' kept') gone'
fronts_grow files files' R R' kept gone kept' gone' more up = record {
  more = λ log front is. front_more files files' R R' kept kept' log front (λ file there. more.more log file there) (up log) is;
  back = more.back;
}

pub fronts_same : (files : Files) (R : List Fact) (kept gone kept' gone' : Files) → DurableGrows kept gone kept' gone'
    → DurableGrows (durable_fronts files R kept) gone (durable_fronts files R kept') gone'
fronts_same files R kept gone kept' gone' more = fronts_grow files files R R kept gone kept' gone' more (λ log. rises_same (promise files R log))

fronts_dropped : (files files' : Files) (R : List Fact) (log : ℕ) (kept gone kept' gone' : Files) → IsDroppedFromDurable files log kept gone kept' gone'
    → ((q : ℕ) → q ≢ log → map.get files' q ≡ map.get files q) → IsDroppedFromDurable files log (durable_fronts files R kept) gone (durable_fronts files' R kept') gone'
fronts_dropped files files' R log kept gone kept' gone' drops others = record {
  more = λ q front apart is. front_more files files' R R kept kept' q front (λ file there. drops.more q file apart there)
      (rises_equal _ _ (ap (λ o. if_there o (promised (recorded R q))) (others q apart))) is;
  back = drops.back;
}

fronts_equal : (files files' : Files) (R : List Fact) (kept gone kept' gone' : Files) → files' ≡ files → DurableGrows kept gone kept' gone'
    → DurableGrows (durable_fronts files R kept) gone (durable_fronts files' R kept') gone'
fronts_equal files files' R kept gone kept' gone' same more =
    fronts_grow files files' R R kept gone kept' gone' more (λ log. rises_equal _ _ (ap (λ fs. promise fs R log) same))

pub fronts_removal : (files files' : Files) (R : List Fact) (log : ℕ) (result : Result (Unit {0}) DiskFault) (kept gone kept' gone' : Files)
    → RemoveDurability files log result kept gone kept' gone' → Removes files log result files'
    → RemoveDurability files log result (durable_fronts files R kept) gone (durable_fronts files' R kept') gone'
fronts_removal files files' R log (Ok x) kept gone kept' gone' turn gives =
    fronts_dropped files files' R log kept gone kept' gone' turn (λ q apart. ap (λ fs. map.get fs q) gives.1 ∙ get-remove_else nat_cmp_total nat_cmp-IsAntisymmetric files log q apart)
fronts_removal files files' R log (Err Disk) kept gone kept' gone' turn same = fronts_dropped files files' R log kept gone kept' gone' turn (λ q apart. ap (λ fs. map.get fs q) same)
fronts_removal files files' R log (Err NoLog) kept gone kept' gone' turn gives = fronts_equal files files' R kept gone kept' gone' gives.1 turn
fronts_removal files files' R log (Err Memory) kept gone kept' gone' turn gives = fronts_equal files files' R kept gone kept' gone' gives.1 turn
fronts_removal files files' R log (Err Exists) kept gone kept' gone' turn gives = absurd gives
fronts_removal files files' R log (Err PastEnd) kept gone kept' gone' turn gives = absurd gives
fronts_removal files files' R log (Err TooLong) kept gone kept' gone' turn gives = absurd gives

-- a recorded length at or after the end of a log covers all its bytes
longer_whole : (n : ℕ) (file now : List ℕ) → length file ≤ n → IsLonger file now → IsLonger file (take n now)
longer_whole n file now within longer =
    subst (λ (f : List ℕ). IsLonger f (take n now)) (take_all n file within) (longer_fronts n n file now (omega arith) longer)

pub front_covers : (files : Files) (R : List Fact) (kept : Files) (log n : ℕ) (file : List ℕ) → map.get files log ≡ Some file → IsDurable kept log file
    → promised (recorded R log) ≡ Some n → length file ≤ n → IsDurable (durable_fronts files R kept) log (file_of files log)
front_covers files R kept log n file there has is within =
    let durable : promise files R log ≡ Some n = ap (λ o. if_there o (promised (recorded R log))) there ∙ is in
    let same : file_of files log ≡ file = ap (λ (o : Option (List ℕ)). unwrap_or o []) there in
    (take n has.0, front_is files R kept log n has.0 has.1 durable, subst (λ (f : List ℕ). IsLonger f (take n has.0)) (sym same) (longer_whole n file has.0 within has.2))
