-- The fences of pages rise, so a test of keys partitions them: the page of a key.
use Rattle.std.proofs.Common.{◌≡◌, inl, inr, ℕ, zero, suc, ◌<◌, ◌≤◌, ◌+◌, ◌-◌, Bool, true, false, List, [], ◌∷◌, ◌++◌, length, get_or, map, refl, sym, subst, ◌∙◌, arith}
use Rattle.std.specs.declared.cmp.Ordering.TheVariants.{Less}
use Rattle.std.specs.Ordering.{is_le}
use Rattle.std.specs.Bool.{IsTrue}
use mathlib.Core.Bool.{false≢true}
use Rattle.std.specs.List.{AllByRecursion, All}
use Rattle.std.specs.List.Sorted.{IsPartitionedBy, IsPartitionPoint, IsStrictlySortedBy}
use Rattle.std.specs.FinMap.{is_sorted}
use Rattle.std.proofs.lemmas.List.{length-map}
use Rattle.std.proofs.lemmas.Option.{slice_get_cases, get_or_from_slice_get}
use Rattle.bk_record.specs.Key.{EntryKey, key_cmp}
use Rattle.bk_index.specs.Pages.{first_key, all_pairs, IsHome, AreFenced}
use Rattle.bk_index.proofs.CutPairs.{each_back, head_below, sorted_back}
use Rattle.bk_index.proofs.Homes.{AreFilled, IsFenceFor, below_key, home_first, home_last}

pub each_at : {A : Type 0} (P : A → Type 0) (fs : List A) (i : ℕ) (d : A) → AllByRecursion P fs → i < length fs → P (get_or fs i d)
each_at P [] i d each within = absurd (omega arith)
each_at P (f ∷ fs) zero d each within = each.0
each_at P (f ∷ fs) (suc i) d each within = each_at P fs i d each.1 (omega arith)

-- a test that passes for all keys smaller than one for which it passes
abbrev pub IsDownward : (EntryKey → Bool) → Type 0
IsDownward p = (a b : EntryKey) → key_cmp a b ≡ Less → p b ≡ true → p a ≡ true

rising_parted : (p : EntryKey → Bool) → IsDownward p → (fs : List EntryKey) → IsStrictlySortedBy key_cmp fs → IsPartitionedBy p fs
unfolding IsStrictlySortedBy
rising_parted p down [] rise i j d order within passes = absurd (omega arith)
rising_parted p down (f ∷ fs) rise zero zero d order within passes = passes
rising_parted p down (f ∷ fs) rise zero (suc j) d order within passes = down f (get_or fs j d)
    (each_at (λ g. key_cmp f g ≡ Less) fs j d rise.0 (omega arith)) passes
rising_parted p down (f ∷ fs) rise (suc i) zero d order within passes = absurd (omega arith)
rising_parted p down (f ∷ fs) rise (suc i) (suc j) d order within passes = rising_parted p down fs rise.1 i j d (omega arith) (omega arith) passes

module _ {X : Type 0} where
  -- a property of every key holds of every first key
  each_first : (P : EntryKey → Type 0) (pages : List (List (EntryKey × X))) → AreFilled pages → AllByRecursion (λ pair. P pair.0) (all_pairs pages)
      → AllByRecursion P (map first_key pages)
  each_first P [] filled each = tt
  each_first P ([] ∷ pages) filled each = absurd (omega (arith, filled.0))
  each_first P ((e ∷ es) ∷ pages) filled each = (each.0, each_first P pages filled.1 (each_back (λ pair. P pair.0) es (all_pairs pages) each.1))

  fences_rise : (pages : List (List (EntryKey × X))) → IsTrue (is_sorted key_cmp (all_pairs pages)) → AreFilled pages
      → IsStrictlySortedBy key_cmp (map first_key pages)
  unfolding IsStrictlySortedBy
  fences_rise [] sorted filled = tt
  fences_rise ([] ∷ pages) sorted filled = absurd (omega (arith, filled.0))
  fences_rise ((e ∷ es) ∷ pages) sorted filled = (
    each_first (λ k. key_cmp e.0 k ≡ Less) pages filled.1
        (each_back (λ pair. key_cmp e.0 pair.0 ≡ Less) es (all_pairs pages) (head_below key_cmp e (es ++ all_pairs pages) sorted)),
    fences_rise pages (sorted_back key_cmp (e ∷ es) (all_pairs pages) sorted) filled.1,
  )

  pub all_filled : (pages : List (List (EntryKey × X))) → All (λ page. (1 ≤ length page) × (length page ≤ 256)) pages → AreFilled pages
  all_filled [] sized = tt
  all_filled (page ∷ pages) sized = (
    let first = sized 0 [] (omega arith) in omega (arith, first),
    all_filled pages
        (λ i d within. sized (suc i) d (omega arith)),
  )

  module _ (fences : List EntryKey) (pages : List (List (EntryKey × X))) (are : AreFenced fences pages)
      (sorted : IsTrue (is_sorted key_cmp (all_pairs pages))) where
    pub fences_parted : (p : EntryKey → Bool) → IsDownward p → IsPartitionedBy p fences
    fences_parted p down = rw are.fenced (rising_parted p down (map first_key pages) (fences_rise pages sorted (all_filled pages are.sizes)))

    -- the home of a key is the last page whose fence is not greater, else the first page
    pub home_of : (key : EntryKey) (n : ℕ) → n ≤ length pages
        → IsPartitionPoint (λ f. is_le (key_cmp f key) ≡ true) (λ f. is_le (key_cmp f key) ≡ false) fences n → IsHome key pages (n - 1)
    home_of key n bound point =
        let filled = all_filled pages are.sizes in
        let at = rw are.fenced at point in
        elim n as (λ m. m ≤ length pages → IsFenceFor key pages m → IsHome key pages (m - 1)) [
          | zero ↦ λ _ fence. home_first key pages sorted filled fence
          | suc m ↦ λ within fence. let same : m ≡ suc m - 1 = omega arith in subst (λ (at : ℕ). IsHome key pages at) same
              (home_last key pages m (omega arith) sorted filled fence)
        ] bound record {
          not_behind = λ i d before. at.0 i d (omega arith) before;
          behind = λ i d from within. at.1 i d from (omega (arith, length-map pages first_key));
        }

-- if the last fence passes the test, so do all fences
pub all_before : (p : EntryKey → Bool) (fences : List EntryKey) (last : EntryKey) → IsPartitionedBy p fences → 0 < length fences
    → last ≡ get_or fences (length fences - 1) last → p last ≡ true → IsPartitionPoint (λ f. p f ≡ true) (λ f. p f ≡ false) fences (length fences)
all_before p fences last parted some read passes = elim (slice_get_cases fences (length fences - 1)).1 [
  | inl (held, there, is, at) ↦
      let same : (d : EntryKey) → last ≡ get_or fences (length fences - 1) d = λ d.
      read ∙ get_or_from_slice_get fences (length fences - 1) held last is ∙ sym (get_or_from_slice_get fences (length fences - 1) held d is) in (
        λ i d within before. parted i (length fences - 1) d (omega arith) (omega arith) (subst (λ f. p f ≡ true) (same d) passes),
        λ i d from within. absurd (omega arith),
      )
  | inr (past, none) ↦ absurd (omega arith)
]

pub is_downward_key : (key : EntryKey) → IsDownward (λ f. is_le (key_cmp f key))
is_downward_key key a b less passes = rw (below_key key a b less passes) refl

-- what a test says of a fence that was read, it says of it by any default
pub other_read : (p : EntryKey → Bool) (fences : List EntryKey) (n : ℕ) (fence : EntryKey) (b : Bool) → n < length fences
    → fence ≡ get_or fences n fence → p fence ≡ b → (d : EntryKey) → p (get_or fences n d) ≡ b
other_read p fences n fence b within read is d = elim (slice_get_cases fences n).1 [
  | inl (held, there, held_is, at) ↦
      subst (λ f. p f ≡ b) (read ∙ get_or_from_slice_get fences n held fence held_is ∙ sym (get_or_from_slice_get fences n held d held_is)) is
  | inr (past, none) ↦ absurd (omega (arith, within, past))
]

-- if a fence passes the test and the next one does not, the next one is the point
pub point_behind : (p : EntryKey → Bool) (fences : List EntryKey) (n : ℕ) (fence : EntryKey) → IsPartitionedBy p fences → n < length fences
    → fence ≡ get_or fences n fence → p fence ≡ true → (n + 1 < length fences → (d : EntryKey) → p (get_or fences (n + 1) d) ≡ false)
    → IsPartitionPoint (λ f. p f ≡ true) (λ f. p f ≡ false) fences (n + 1)
point_behind p fences n fence parted within read passes fails = (
  λ i d inside before. parted i n d (omega arith) (omega arith) (other_read p fences n fence true within read passes d),
  λ i d from inside. failed i d from inside (p (get_or fences i d)) refl,
)
  where
    failed : (i : ℕ) (d : EntryKey) → n + 1 ≤ i → i < length fences → (b : Bool) → p (get_or fences i d) ≡ b → p (get_or fences i d) ≡ false
    failed i d from inside false is = is
    failed i d from inside true is =
        absurd (false≢true (sym (fails (omega (arith, from, inside)) d) ∙ parted (n + 1) i d (omega (arith, from)) inside is))
