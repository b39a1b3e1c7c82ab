-- The files that limits show: look-ups, keys, and one file changed.
use Rattle.std.proofs.Common.{◌≡◌, inl, inr, ℕ, true, false, cond, ◌&&◌, T, List, [], ◌∷◌, take, map, Option, Some, None, IsNone, IsSome, option_map}
use Rattle.std.proofs.Common.{refl, sym, ap, ◌∙◌, subst, arith}
use Rattle.std.proofs.lemmas.List.{take-take}
use Rattle.std.proofs.lemmas.Option.{same_Some, none-some}
use Rattle.std.specs.Ordering.{nat_cmp, eq_by_cmp, is_eq, is_lt}
use Rattle.std.specs.declared.cmp.Ordering.{Ordering}
use Rattle.std.specs.declared.cmp.Ordering.TheVariants.{Less, Equal, Greater}
use Rattle.std.specs.Cmp.{nat_cmp_total}
use Rattle.std.specs.FinMap as finite
use Rattle.std.specs.FinMap.{nat_cmp-IsAntisymmetric, find, is_sorted}
use Rattle.std.specs.FinMap.Entries.{below_all}
use Rattle.bk_record.specs.Files.{Files}
use Rattle.bk_record.proofs.Maps.{key_cases, get-insert_else, get-remove_else, get-remove_here}
use Rattle.bk_record.proofs.NumberMaps.{get-insert_same, same_by_get, entries-from_rising}
use Rattle.bk_record.proofs.SortedPairs.{keys_rise, is_true}
use Rattle.bk_manifest_disk.specs.Limiting.{LogLimits, shown, each_shown, shown_files}

ties : (r : Ordering) → is_eq r ≡ true → r ≡ Equal
ties Less it = cc
ties Equal it = refl
ties Greater it = cc

find-shown : (limits : LogLimits) (es : List (ℕ × List ℕ)) (q : ℕ)
    → find nat_cmp q (each_shown limits es) ≡ option_map (shown (finite.get limits q)) (find nat_cmp q es)
find-shown limits [] q = refl
find-shown limits (e ∷ es) q =
    elim (eq_by_cmp nat_cmp q e.0) as (λ t. eq_by_cmp nat_cmp q e.0 ≡ t
    → cond t (Some (shown (finite.get limits e.0) e.1)) (find nat_cmp q (each_shown limits es))
    ≡ option_map (shown (finite.get limits q)) (cond t (Some e.1) (find nat_cmp q es))) [
      | true ↦ λ tied. ap (λ k. Some (shown (finite.get limits k) e.1)) (sym (nat_cmp-IsAntisymmetric q e.0 (ties (nat_cmp q e.0) tied)))
      | false ↦ λ apart. find-shown limits es q
    ] refl

pub get-shown : (limits : LogLimits) (files : Files) (q : ℕ) → finite.get (shown_files limits files) q ≡ option_map (shown (finite.get limits q)) (finite.get files q)
unfolding shown_files
get-shown limits files q =
    finite.get-from_entries nat_cmp_total (each_shown limits (finite.entries files)) q ∙ find-shown limits (finite.entries files) q
    ∙ ap (option_map (shown (finite.get limits q))) (sym (finite.get-entries files q))

-- ---- keys

below-shown : (limits : LogLimits) (x : ℕ) (es : List (ℕ × List ℕ)) → below_all nat_cmp x (each_shown limits es) ≡ below_all nat_cmp x es
below-shown limits x [] = refl
below-shown limits x (e ∷ es) = ap (λ b. is_lt (nat_cmp x e.0) && b) (below-shown limits x es)

sorted-shown : (limits : LogLimits) (es : List (ℕ × List ℕ)) → is_sorted nat_cmp (each_shown limits es) ≡ is_sorted nat_cmp es
sorted-shown limits [] = refl
sorted-shown limits (e ∷ es) = λ i. below-shown limits e.0 es i && sorted-shown limits es i

entries-shown : (limits : LogLimits) (files : Files) → finite.entries (shown_files limits files) ≡ each_shown limits (finite.entries files)
unfolding shown_files
entries-shown limits files =
    entries-from_rising (each_shown limits (finite.entries files))
    (keys_rise nat_cmp _ (is_true _ (subst T (sym (sorted-shown limits (finite.entries files))) (finite.entries_sorted files))))

first-shown : (limits : LogLimits) (es : List (ℕ × List ℕ)) → map (λ e. e.0) (each_shown limits es) ≡ map (λ e. e.0) es
first-shown limits [] = refl
first-shown limits (e ∷ es) = ap (λ ks. e.0 ∷ ks) (first-shown limits es)

pub keys-shown : (limits : LogLimits) (files : Files) → finite.keys (shown_files limits files) ≡ finite.keys files
keys-shown limits files = ap (map (λ e. e.0)) (entries-shown limits files) ∙ first-shown limits (finite.entries files)

-- ---- one log

-- a log that is shown has a file
pub record IsShown (limits : LogLimits) (files : Files) (log : ℕ) (front : List ℕ) : Type 0 where
  pub file : List ℕ
  pub there : finite.get files log ≡ Some file
  pub is : shown (finite.get limits log) file ≡ front

pub shown_there : (limits : LogLimits) (files : Files) (log : ℕ) (front : List ℕ) → finite.get (shown_files limits files) log ≡ Some front → IsShown limits files log front
shown_there limits files log front is = by_file (finite.get files log) refl where
  by_file : (o : Option (List ℕ)) → finite.get files log ≡ o → IsShown limits files log front
  by_file None none = absurd (none-some front (sym (get-shown limits files log ∙ ap (option_map (shown (finite.get limits log))) none) ∙ is))
  by_file (Some file) there = record {
    file = file;
    there = there;
    is = same_Some _ _ (sym (get-shown limits files log ∙ ap (option_map (shown (finite.get limits log))) there) ∙ is);
  }

pub shown_is : (limits : LogLimits) (files : Files) (log : ℕ) (file : List ℕ) → finite.get files log ≡ Some file
    → finite.get (shown_files limits files) log ≡ Some (shown (finite.get limits log) file)
shown_is limits files log file there = get-shown limits files log ∙ ap (option_map (shown (finite.get limits log))) there

none_map : {X Y : Type 0} (f : X → Y) (o : Option X) → IsNone o → IsNone (option_map f o)
none_map f None is = is
none_map f (Some x) is = cc

some_map : {X Y : Type 0} (f : X → Y) (o : Option X) → IsSome o → IsSome (option_map f o)
some_map f None is = cc
some_map f (Some x) is = refl

pub none_shown : (limits : LogLimits) (files : Files) (log : ℕ) → IsNone (finite.get files log) → IsNone (finite.get (shown_files limits files) log)
none_shown limits files log is = subst IsNone (sym (get-shown limits files log)) (none_map (shown (finite.get limits log)) (finite.get files log) is)

pub some_shown : (limits : LogLimits) (files : Files) (log : ℕ) → IsSome (finite.get files log) → IsSome (finite.get (shown_files limits files) log)
some_shown limits files log is = subst IsSome (sym (get-shown limits files log)) (some_map (shown (finite.get limits log)) (finite.get files log) is)

pub none_is : {X : Type 0} (o : Option X) → IsNone o → o ≡ None
none_is None is = refl
none_is (Some x) is = cc

-- ---- one file changed

module _ (limits : LogLimits) (files : Files) (log : ℕ) where
  pub shown_insert : (file : List ℕ) → shown_files limits (finite.insert files log file) ≡ finite.insert (shown_files limits files) log (shown (finite.get limits log) file)
  shown_insert file = same_by_get _ _ (λ q. elim (key_cases nat_cmp_total nat_cmp-IsAntisymmetric q log) [
    | inl here ↦
        ap (finite.get (shown_files limits (finite.insert files log file))) here
        ∙ shown_is limits (finite.insert files log file) log file (get-insert_same files log file)
        ∙ sym (ap (finite.get (finite.insert (shown_files limits files) log (shown (finite.get limits log) file))) here
        ∙ get-insert_same (shown_files limits files) log (shown (finite.get limits log) file))
    | inr apart ↦
        get-shown limits (finite.insert files log file) q
        ∙ ap (option_map (shown (finite.get limits q))) (get-insert_else nat_cmp_total nat_cmp-IsAntisymmetric files log file q apart.1)
        ∙ sym (get-shown limits files q)
        ∙ sym (get-insert_else nat_cmp_total nat_cmp-IsAntisymmetric (shown_files limits files) log (shown (finite.get limits log) file) q apart.1)
  ])

  pub shown_remove : shown_files limits (finite.remove files log) ≡ finite.remove (shown_files limits files) log
  shown_remove = same_by_get _ _ (λ q. elim (key_cases nat_cmp_total nat_cmp-IsAntisymmetric q log) [
    | inl here ↦
        get-shown limits (finite.remove files log) q
        ∙ ap (option_map (shown (finite.get limits q))) (ap (finite.get (finite.remove files log)) here ∙ get-remove_here nat_cmp_total nat_cmp-IsAntisymmetric files log)
        ∙ sym (ap (finite.get (finite.remove (shown_files limits files) log)) here ∙ get-remove_here nat_cmp_total nat_cmp-IsAntisymmetric (shown_files limits files) log)
    | inr apart ↦
        get-shown limits (finite.remove files log) q
        ∙ ap (option_map (shown (finite.get limits q))) (get-remove_else nat_cmp_total nat_cmp-IsAntisymmetric files log q apart.1)
        ∙ sym (get-shown limits files q)
        ∙ sym (get-remove_else nat_cmp_total nat_cmp-IsAntisymmetric (shown_files limits files) log q apart.1)
  ])

  -- a log that is truncated at its limit is shown as before, with its limit and without it
  module _ (limit : ℕ) (file : List ℕ) (limited : finite.get limits log ≡ Some limit) (there : finite.get files log ≡ Some file) where
    front : finite.get (shown_files limits files) log ≡ Some (take limit file)
    front = shown_is limits files log file there ∙ ap (λ o. Some (shown o file)) limited

    pub shown_cut : shown_files limits (finite.insert files log (take limit file)) ≡ shown_files limits files
    shown_cut = same_by_get _ _ (λ q. elim (key_cases nat_cmp_total nat_cmp-IsAntisymmetric q log) [
      | inl here ↦
          ap (finite.get (shown_files limits (finite.insert files log (take limit file)))) here
          ∙ shown_is limits (finite.insert files log (take limit file)) log (take limit file) (get-insert_same files log (take limit file))
          ∙ ap (λ o. Some (shown o (take limit file))) limited
          ∙ ap Some (take-take limit limit file (omega arith))
          ∙ sym (ap (finite.get (shown_files limits files)) here ∙ front)
      | inr apart ↦
          get-shown limits (finite.insert files log (take limit file)) q
          ∙ ap (option_map (shown (finite.get limits q))) (get-insert_else nat_cmp_total nat_cmp-IsAntisymmetric files log (take limit file) q apart.1)
          ∙ sym (get-shown limits files q)
    ])

    pub shown_freed : shown_files (finite.remove limits log) (finite.insert files log (take limit file)) ≡ shown_files limits files
    shown_freed = same_by_get _ _ (λ q. elim (key_cases nat_cmp_total nat_cmp-IsAntisymmetric q log) [
      | inl here ↦
          ap (finite.get (shown_files (finite.remove limits log) (finite.insert files log (take limit file)))) here
          ∙ shown_is (finite.remove limits log) (finite.insert files log (take limit file)) log (take limit file) (get-insert_same files log (take limit file))
          ∙ ap (λ o. Some (shown o (take limit file))) (get-remove_here nat_cmp_total nat_cmp-IsAntisymmetric limits log)
          ∙ sym (ap (finite.get (shown_files limits files)) here ∙ front)
      | inr apart ↦
          get-shown (finite.remove limits log) (finite.insert files log (take limit file)) q
          ∙ (λ i. option_map (shown (get-remove_else nat_cmp_total nat_cmp-IsAntisymmetric limits log q apart.1 i))
          (get-insert_else nat_cmp_total nat_cmp-IsAntisymmetric files log (take limit file) q apart.1 i))
          ∙ sym (get-shown limits files q)
    ])
