-- Entries of a finite map as elements of its list.
use Rattle.std.proofs.Common.{◌≡◌, ◌⊎◌, inl, inr, cond, Option, Some, None, List, [], ◌∷◌, Bool, true, false, refl, sym, ap, ◌∙◌, subst, reverse, map, T, ◌&&◌}
use Rattle.std.specs.declared.cmp.Ordering.{Ordering}
use Rattle.std.specs.Cmp.{IsTotalOrder}
use Rattle.std.specs.Ordering.{eq_by_cmp, is_eq, is_lt}
use Rattle.std.specs.FinMap as finite
use Rattle.std.specs.List.{filter, flat_map, filter_map, cons_option}
use Rattle.std.specs.FinMap.{IsAntisymmetric}
use Rattle.std.specs.FinMap.Entries.{find, is_sorted, below_all}
use Rattle.std.proofs.lemmas.Map.Views.{tells_apart}
use Rattle.std.proofs.lemmas.Cmp.{tied_itself}
use Rattle.std.proofs.lemmas.List.{reverse-append}
use Rattle.bk_record.specs.Files.{In}
use Rattle.bk_record.proofs.Growth.{In-append_left, In-append_right, In-append_cases}

pub and_left : (a b : Bool) → T (a && b) → T a
and_left true b h = tt
and_left false b h = h

pub and_right : (a b : Bool) → T (a && b) → T b
and_right true b h = h
and_right false b h = absurd h

module _ {K X : Type 0} {R : K → K → Ordering} (total : IsTotalOrder R) (same : IsAntisymmetric R) where
  -- a pair that is found is in the list
  pub find-In : (q : K) (es : List (K × X)) (x : X) → find R q es ≡ Some x → In (q, x) es
  find-In q [] x is = cc
  find-In q (e ∷ es) x is =
      elim (eq_by_cmp R q e.0) as (λ b. eq_by_cmp R q e.0 ≡ b → cond b (Some e.1) (find R q es) ≡ Some x → ((e ≡ (q, x)) ⊎ In (q, x) es)) [
        | true ↦ λ tied found. let key = tells_apart same q e.0 tied in let value : e.1 ≡ x = cc in inl (λ i. (sym key i, value i))
        | false ↦ λ _ found. inr (find-In q es x found)
      ] refl is

  -- a key that is not found is not in the list
  pub find-none : (q : K) (es : List (K × X)) (x : X) → find R q es ≡ None → In (q, x) es → ⊥
  find-none q [] x is there = absurd there
  find-none q (e ∷ es) x is there =
      elim (eq_by_cmp R q e.0) as (λ b. eq_by_cmp R q e.0 ≡ b → cond b (Some e.1) (find R q es) ≡ None → ⊥) [
        | true ↦ λ _ found. cc
        | false ↦ λ apart found. elim there [
          | inl here ↦ let tied : eq_by_cmp R q e.0 ≡ true = ap (λ (p : K × X). eq_by_cmp R q p.0) here ∙ ap is_eq (tied_itself total q) in cc
          | inr later ↦ find-none q es x found later
        ]
      ] refl is

  pub below-In : (k q : K) (x : X) (es : List (K × X)) → T (below_all R k es) → In (q, x) es → T (is_lt (R k q))
  below-In k q x [] below there = absurd there
  below-In k q x (e ∷ es) below (inl here) = subst (λ (p : K × X). T (is_lt (R k p.0))) here (and_left _ _ below)
  below-In k q x (e ∷ es) below (inr later) = below-In k q x es (and_right _ _ below) later

  -- in a sorted list each pair is found
  pub In-find : (q : K) (es : List (K × X)) (x : X) → T (is_sorted R es) → In (q, x) es → find R q es ≡ Some x
  In-find q [] x sorted there = absurd there
  In-find q (e ∷ es) x sorted (inl here) =
      ap (λ (b : Bool). cond b (Some e.1) (find R q es)) (ap (λ (p : K × X). eq_by_cmp R q p.0) here ∙ ap is_eq (tied_itself total q))
      ∙ ap (λ (p : K × X). Some p.1) here
  In-find q (e ∷ es) x sorted (inr later) =
      let less = below-In e.0 q x es (and_left _ _ sorted) later in
      elim (eq_by_cmp R q e.0) as (λ b. eq_by_cmp R q e.0 ≡ b → cond b (Some e.1) (find R q es) ≡ Some x) [
        | true ↦ λ tied. absurd (subst (λ (r : Ordering). T (is_lt r)) (ap (λ (k : K). R k q) (sym (tells_apart same q e.0 tied)) ∙ tied_itself total q) less)
        | false ↦ λ _. In-find q es x (and_right _ _ sorted) later
      ] refl

  -- a pair that a map has is one of its entries, and conversely
  pub get-In : (m : finite.FinMap R X) (q : K) (x : X) → finite.get m q ≡ Some x → In (q, x) (finite.entries m)
  get-In m q x is = find-In q (finite.entries m) x (sym (finite.get-entries m q) ∙ is)

  pub In-get : (m : finite.FinMap R X) (q : K) (x : X) → In (q, x) (finite.entries m) → finite.get m q ≡ Some x
  In-get m q x there = finite.get-entries m q ∙ In-find q (finite.entries m) x (finite.entries_sorted m) there

-- ---- lists made from lists

pub In-reverse : {X : Type 0} (x : X) (xs : List X) → In x (reverse xs) → In x xs
In-reverse {X = X} x [] there = there
In-reverse {X = X} x (z ∷ xs) there = elim (In-append_cases x (reverse xs) (z ∷ []) (subst (λ (l : List X). In x l) (reverse-append (z ∷ []) xs) there)) [
  | inl later ↦ inr (In-reverse x xs later)
  | inr here ↦ elim here [ inl e ↦ inl e | inr never ↦ absurd never ]
]

pub reverse-In : {X : Type 0} (x : X) (xs : List X) → In x xs → In x (reverse xs)
reverse-In x [] there = there
reverse-In {X = X} x (z ∷ xs) (inl e) = subst (λ (l : List X). In x l) (sym (reverse-append (z ∷ []) xs)) (In-append_right x (reverse xs) (z ∷ []) (inl e))
reverse-In {X = X} x (z ∷ xs) (inr later) = subst (λ (l : List X). In x l) (sym (reverse-append (z ∷ []) xs))
    (In-append_left x (reverse xs) (z ∷ []) (reverse-In x xs later))

pub In-flat_map : {X Y : Type 0} (f : X → List Y) (y : Y) (x : X) (xs : List X) → In x xs → In y (f x) → In y (flat_map f xs)
In-flat_map f y x [] there here = absurd there
In-flat_map {Y = Y} f y x (z ∷ xs) (inl e) here = In-append_left y (f z) (flat_map f xs) (subst (λ w. In y (f w)) (sym e) here)
In-flat_map f y x (z ∷ xs) (inr later) here = In-append_right y (f z) (flat_map f xs) (In-flat_map f y x xs later here)

pub flat_map-In : {X Y : Type 0} (f : X → List Y) (y : Y) (xs : List X) → In y (flat_map f xs) → (x : X) × (In x xs × In y (f x))
flat_map-In f y [] there = absurd there
flat_map-In f y (z ∷ xs) there = elim (In-append_cases y (f z) (flat_map f xs) there) [
  | inl here ↦ (z, (inl refl, here))
  | inr later ↦ let found = flat_map-In f y xs later in (found.0, (inr found.1.0, found.1.1))
]

pub In-map : {X Y : Type 0} (f : X → Y) (x : X) (xs : List X) → In x xs → In (f x) (map f xs)
In-map f x [] there = absurd there
In-map f x (z ∷ xs) (inl e) = inl (ap f e)
In-map f x (z ∷ xs) (inr later) = inr (In-map f x xs later)

pub map-In : {X Y : Type 0} (f : X → Y) (y : Y) (xs : List X) → In y (map f xs) → (x : X) × (In x xs × (f x ≡ y))
map-In f y [] there = absurd there
map-In f y (z ∷ xs) (inl e) = (z, (inl refl, e))
map-In f y (z ∷ xs) (inr later) = let found = map-In f y xs later in (found.0, (inr found.1.0, found.1.1))

pub In-filter_map : {X Y : Type 0} (f : X → Option Y) (y : Y) (x : X) (xs : List X) → In x xs → f x ≡ Some y → In y (filter_map f xs)
In-filter_map f y x [] there is = absurd there
In-filter_map f y x (z ∷ xs) (inl e) is = rw (ap f e ∙ is) (inl refl)
In-filter_map f y x (z ∷ xs) (inr later) is = elim (f z) as (λ o. In y (cons_option o (filter_map f xs))) [
  | None ↦ In-filter_map f y x xs later is
  | Some w ↦ inr (In-filter_map f y x xs later is)
]

pub filter_map-In : {X Y : Type 0} (f : X → Option Y) (y : Y) (xs : List X) → In y (filter_map f xs) → (x : X) × (In x xs × (f x ≡ Some y))
filter_map-In f y [] there = absurd there
filter_map-In {X = X} f y (z ∷ xs) there =
    elim (f z) as (λ o. f z ≡ o → In y (cons_option o (filter_map f xs)) → (x : X) × (In x (z ∷ xs) × (f x ≡ Some y))) [
      | None ↦ λ _ later. let found = filter_map-In f y xs later in (found.0, (inr found.1.0, found.1.1))
      | Some w ↦ λ is here. elim here [
        | inl e ↦ (z, (inl refl, is ∙ ap Some e))
        | inr later ↦ let found = filter_map-In f y xs later in (found.0, (inr found.1.0, found.1.1))
      ]
    ] refl there

pub In-filter : {X : Type 0} (p : X → Bool) (x : X) (xs : List X) → In x xs → p x ≡ true → In x (filter p xs)
In-filter p x [] there passes = absurd there
In-filter p x (z ∷ xs) (inl e) passes = rw (ap p e ∙ passes) (inl e)
In-filter p x (z ∷ xs) (inr later) passes = elim (p z) as (λ b. In x (cond b (z ∷ filter p xs) (filter p xs))) [
  | true ↦ inr (In-filter p x xs later passes)
  | false ↦ In-filter p x xs later passes
]

pub filter-In : {X : Type 0} (p : X → Bool) (x : X) (xs : List X) → In x (filter p xs) → In x xs
filter-In p x [] there = there
filter-In p x (z ∷ xs) there = elim (p z) as (λ b. In x (cond b (z ∷ filter p xs) (filter p xs)) → (z ≡ x) ⊎ In x xs) [
  | true ↦ λ some. elim some [ inl e ↦ inl e | inr later ↦ inr (filter-In p x xs later) ]
  | false ↦ λ later. inr (filter-In p x xs later)
] there
