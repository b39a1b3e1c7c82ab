-- The parts of a list around a place, and two lists of its elements and a new one.
use Rattle.std.proofs.Common.{◌≡◌, ℕ, ◌+◌, ◌-◌, ◌≤◌, List, ◌∷◌, ◌++◌, take, drop, sym, ap, ◌∙◌, arith, append_assoc, take-append-drop}
use Rattle.std.specs.List.{insert}
use Rattle.std.proofs.lemmas.List.{drop-drop, drop-take, take-take}

module _ {X : Type 0} (xs : List X) where
  behind : (p n : ℕ) → p ≤ n → take (n - p) (drop p xs) ++ drop n xs ≡ drop p xs
  behind p n order =
      let same : n ≡ p + (n - p) = omega arith in
      ap (λ k. take (n - p) (drop p xs) ++ drop k xs) same
      ∙ ap (λ ys. take (n - p) (drop p xs) ++ ys) (sym (drop-drop (n - p) p xs)) ∙ take-append-drop (n - p) (drop p xs)

  before : (n p : ℕ) → n ≤ p → take n xs ++ take (p - n) (drop n xs) ≡ take p xs
  before n p order =
      let same : n + (p - n) ≡ p = omega arith in
      ap (λ ys. ys ++ take (p - n) (drop n xs)) (sym (take-take n p xs order))
      ∙ ap (λ ys. take n (take p xs) ++ ys) (sym (drop-take n (p - n) xs) ∙ ap (λ k. drop n (take k xs)) same)
      ∙ take-append-drop n (take p xs)

  -- the new element is in the first list
  pub lower_all : (p n : ℕ) (y : X) → p ≤ n → (take p xs ++ y ∷ take (n - p) (drop p xs)) ++ drop n xs ≡ insert xs p y
  lower_all p n y order =
      append_assoc (take p xs) (y ∷ take (n - p) (drop p xs)) (drop n xs) ∙ ap (λ rest. take p xs ++ y ∷ rest) (behind p n order)

  -- the new element is in the second list
  pub upper_all : (n p : ℕ) (y : X) → n ≤ p → take n xs ++ (take (p - n) (drop n xs) ++ y ∷ drop p xs) ≡ insert xs p y
  upper_all n p y order =
      sym (append_assoc (take n xs) (take (p - n) (drop n xs)) (y ∷ drop p xs)) ∙ ap (λ front. front ++ y ∷ drop p xs) (before n p order)
