-- A search over the cells of a packed page is one over its pairs.
use Rattle.std.proofs.Common.{◌≡◌, inl, inr, ℕ, ◌<◌, ◌≤◌, Bool, List, length, get_or, map, Result, Ok, Err, sym, ap, ◌∙◌, arith, refl}
use lib.ListN.{length-map}
use Rattle.std.specs.declared.cmp.Ordering.{Ordering}
use Rattle.std.specs.Ordering.{ordering_index}
use Rattle.std.specs.List.Sorted.{IsSearchInRange, IsBinarySearchResult, IsPartitionedBy}
use Rattle.std.proofs.lemmas.List.{get_or-map}
use Rattle.std.proofs.lemmas.Option.{slice_get_cases}
use Rattle.bk_index.proofs.OrderedPages.{IsCut}

module _ {X Y : Type 0} (f : X → Y) where
  -- what a function gives of an element that a place is known to have
  there : {R : Type 0} (p : X → R) (q : Y → R) → ((x : X) → q (f x) ≡ p x) → (xs : List X) (i : ℕ) (d : Y) (r : R) → i < length xs
      → ((e : X) → p (get_or xs i e) ≡ r) → q (get_or (map f xs) i d) ≡ r
  there p q same xs i d r within known = elim (slice_get_cases xs i).1 [
    | inl (e, _, _, _) ↦ ap q (get_or-map f xs i e d within) ∙ same (get_or xs i e) ∙ known e
    | inr (past, none) ↦ absurd (omega arith)
  ]

  module _ (p : X → Ordering) (q : Y → Ordering) (same : (x : X) → q (f x) ≡ p x) where
    pub search_map : (xs : List X) (r : Result ℕ ℕ) → IsSearchInRange r (length xs) → IsBinarySearchResult p xs r → IsBinarySearchResult q (map f xs) r
    search_map xs (Ok at) in_range equal = λ d. there p q same xs at d _ in_range equal
    search_map xs (Err at) in_range parted = λ rises.
        let long = length-map xs f in
        let sides = parted (λ i j d order within.
        let low = ap ordering_index (ap q (get_or-map f xs i d (f d) (omega arith)) ∙ same (get_or xs i d)) in
        let high = ap ordering_index (ap q (get_or-map f xs j d (f d) within) ∙ same (get_or xs j d)) in
        let up = rises i j (f d) order (omega (arith, long)) in
        omega (arith, low, high, up)) in (
          λ i d from before. there p q same xs i d _ (omega arith) (λ e. sides.0 i e from before),
          λ i d from within. there p q same xs i d _ (omega (arith, long)) (λ e. sides.1 i e from (omega (arith, long))),
        )

  module _ (q : Y → Bool) where
    pub parted_map : (xs : List X) → IsPartitionedBy q (map f xs) → IsPartitionedBy (λ x. q (f x)) xs
    parted_map xs parted = λ i j d order within passes.
        let long = length-map xs f in
        ap q (sym (get_or-map f xs i d (f d) (omega arith)))
        ∙ parted i j (f d) order (omega (arith, long)) (ap q (get_or-map f xs j d (f d) within) ∙ passes)

    pub cut_map : (xs : List X) (n : ℕ) → n ≤ length xs → IsCut (λ x. q (f x)) xs n → IsCut q (map f xs) n
    cut_map xs n bound cut =
        let long = length-map xs f in (
          λ i d from before. there (λ x. q (f x)) q (λ x. refl) xs i d _ (omega arith) (λ e. cut.0 i e from before),
          λ i d from within. there (λ x. q (f x)) q (λ x. refl) xs i d _ (omega (arith, long)) (λ e. cut.1 i e from (omega (arith, long))),
        )
