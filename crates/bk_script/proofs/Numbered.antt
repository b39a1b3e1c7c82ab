-- A text parses as at most one list of numbers. Facts about a text that is not such a list.
use Rattle.std.proofs.Common.{◌≡◌, ◌≢◌, ℕ, ◌+◌, ◌<◌, ◌≤◌, ◌^◌, List, [], ◌∷◌, ◌++◌, length, Some, All, arith, refl}
use Rattle.std.specs.Fmt.{decimal}
use Rattle.std.proofs.lemmas.List.Elements.{All-head, All-tail}
use Rattle.bk_script.specs.Line.{followed, numbered}
use Rattle.bk_script.proofs.Words.{numbers-injective}

-- The first of the numbers, and the others.
pub first_small : (n : ℕ) (numbers : List ℕ) → All (λ n. n < 2 ^ 64) (n ∷ numbers) → n < 2 ^ 64
first_small n numbers small = All-head (λ (n : ℕ). n < 2 ^ 64) n numbers small

pub others_small : (n : ℕ) (numbers : List ℕ) → All (λ n. n < 2 ^ 64) (n ∷ numbers) → All (λ n. n < 2 ^ 64) numbers
others_small n numbers small = All-tail (λ (n : ℕ). n < 2 ^ 64) n numbers small

-- A text is at most one list of numbers.
pub numbered-injective : (ms ns : List ℕ) → All (λ n. n < 2 ^ 64) ms → All (λ n. n < 2 ^ 64) ns → numbered ms ≡ numbered ns → ms ≡ ns
numbered-injective [] [] low high e = refl
numbered-injective [] (n ∷ ns) low high e = cc
numbered-injective (m ∷ ms) [] low high e = cc
numbered-injective (m ∷ ms) (n ∷ ns) low high e =
    let whole : followed (decimal m) (numbered ms) ≡ followed (decimal n) (numbered ns) = cc in
    let same = numbers-injective m n (numbered ms) (numbered ns) (first_small m ms low) (first_small n ns high) whole in
    let rest = numbered-injective ms ns (others_small m ms low) (others_small n ns high) same.1 in
    rw (same.0, rest) refl

-- The other numbers are the rest after the first one and a space.
pub record AreOthers (text : List ℕ) (numbers : List ℕ) : Type 0 where
  pub others : List ℕ
  pub is : Some text ≡ numbered others
  pub small : All (λ n. n < 2 ^ 64) others
  pub fewer : length others + 1 ≡ length numbers

pub others_of : (text behind : List ℕ) (first : ℕ) (numbers : List ℕ) → first < 2 ^ 64 → text ≡ decimal first ++ 32 ∷ behind
    → All (λ n. n < 2 ^ 64) numbers → Some text ≡ numbered numbers → AreOthers behind numbers
others_of text behind first [] low is small e = cc
others_of text behind first (n ∷ numbers) low is small e =
    let whole : followed (decimal first) (Some behind) ≡ followed (decimal n) (numbered numbers) = cc in
    let same = numbers-injective first n (Some behind) (numbered numbers) low (first_small n numbers small) whole in
    record { others = numbers; is = same.1; small = others_small n numbers small; fewer = omega arith }

-- A text whose first word is not a number is not a list of numbers.
pub no_numbers : (text : List ℕ) → ((n : ℕ) (rest : List ℕ) → n ≤ 18446744073709551615 → text ≢ decimal n ++ 32 ∷ rest)
    → ((n : ℕ) → n ≤ 18446744073709551615 → text ≢ decimal n) → (numbers : List ℕ) → All (λ n. n < 2 ^ 64) numbers → Some text ≢ numbered numbers
no_numbers text none_first none [] small e = cc
no_numbers text none_first none (n ∷ []) small e = none n (let low = first_small n [] small in omega arith) cc
no_numbers text none_first none (n ∷ m ∷ numbers) small e =
    none_first n (followed (decimal m) (numbered numbers)) (let low = first_small n (m ∷ numbers) small in omega arith) cc

-- A text that is not a number is not one number.
pub no_number : (text : List ℕ) → ((n : ℕ) → n ≤ 18446744073709551615 → text ≢ decimal n) → (numbers : List ℕ)
    → All (λ n. n < 2 ^ 64) numbers → length numbers ≤ 1 → Some text ≢ numbered numbers
no_number text none [] small few e = cc
no_number text none (n ∷ []) small few e = none n (let low = first_small n [] small in omega arith) cc
no_number text none (n ∷ m ∷ numbers) small few e = absurd (omega (arith, few))
