-- Words separated by one space: a line is cut at its first space.
use Rattle.std.proofs.Common.{◌≡◌, ◌≢◌, ℕ, ◌<◌, ◌^◌, Bool, true, false, not, cond, eqb, List, [], ◌∷◌, ◌++◌}
use Rattle.std.proofs.Common.{length, Option, Some, None, Bor, arith, refl, sym, ◌∙◌, ap}
use Rattle.std.specs.List.{list_all}
use Rattle.std.specs.Fmt.{decimal}
use Rattle.std.proofs.lemmas.Fmt.{decimal_is_IsNumeral, decimal_injective}
use Rattle.std.proofs.lemmas.Str.Parse.{not_in_digits}
use Rattle.std.proofs.lemmas.List.Elements.{All-head, All-tail, All-from_get_or, All-weaker}
use Rattle.std.proofs.lemmas.Str.Pattern.{IsSplitOnceResult, split_parts}
use Rattle.std.proofs.Math.Dec.{eqb-suc-zero}
use Rattle.std.proofs.lemmas.List.Sums.{AllPass-from_list_all}
use Rattle.std.proofs.lemmas.Bool.{ne_eqb, false≢true}
use Rattle.bk_script.specs.Line.{IsWord, followed}
use Rattle.bk_decimal.proofs.Numbers.{own}

-- A text up to its first space, and the rest after it.
cut : List ℕ → List ℕ × Option (List ℕ)
cut [] = ([], None)
cut (x ∷ xs) = cond (eqb x 32) ([], Some xs) (x ∷ (cut xs).0, (cut xs).1)

cut-followed : (word : List ℕ) (rest : Option (List ℕ)) → IsWord word → cut (followed word rest) ≡ (word, rest)
unfolding cut
cut-followed [] None h = refl
cut-followed [] (Some rest) h = refl
cut-followed (x ∷ xs) None h =
    rw (ne_eqb x 32 (All-head (λ byte. byte ≢ 32) x xs h))
    (ap (λ (p : List ℕ × Option (List ℕ)). (x ∷ p.0, p.1)) (cut-followed xs None (All-tail (λ byte. byte ≢ 32) x xs h)))
cut-followed (x ∷ xs) (Some rest) h =
    rw (ne_eqb x 32 (All-head (λ byte. byte ≢ 32) x xs h))
    (ap (λ (p : List ℕ × Option (List ℕ)). (x ∷ p.0, p.1)) (cut-followed xs (Some rest) (All-tail (λ byte. byte ≢ 32) x xs h)))

pub followed-injective : (a b : List ℕ) (x y : Option (List ℕ)) → IsWord a → IsWord b → followed a x ≡ followed b y
    → (a ≡ b) × (x ≡ y)
followed-injective a b x y h k e =
    let same = sym (cut-followed a x h) ∙ (ap cut e ∙ cut-followed b y k) in
    (ap (λ (p : List ℕ × Option (List ℕ)). p.0) same, ap (λ (p : List ℕ × Option (List ℕ)). p.1) same)

-- A test that is computed.
pub IsWord-from_test : (word : List ℕ) → list_all (λ byte. not (eqb byte 32)) word ≡ true → IsWord word
IsWord-from_test word h = All-weaker (λ byte. not (eqb byte 32) ≡ true) (λ byte. byte ≢ 32)
    (λ byte passes is. false≢true (rw is at passes)) word (AllPass-from_list_all _ word h)

pub IsWord-decimal : (n : ℕ) → n < 2 ^ 64 → IsWord (decimal n)
IsWord-decimal n small = All-from_get_or (λ byte. byte ≢ 32) (decimal n) 0
    (not_in_digits own (decimal n) 32 (decimal_is_IsNumeral n small).0.1 (λ r. omega arith))

-- A text before a space is at most one number.
pub numbers-injective : (m n : ℕ) (x y : Option (List ℕ)) → m < 2 ^ 64 → n < 2 ^ 64
    → followed (decimal m) x ≡ followed (decimal n) y → (m ≡ n) × (x ≡ y)
numbers-injective m n x y h k e =
    let same = followed-injective _ _ x y (IsWord-decimal m h) (IsWord-decimal n k) e in
    (decimal_injective m n h k same.0, same.1)

-- The rest after a number and a space.
pub behind_number : (text behind : List ℕ) (m n : ℕ) (rest : List ℕ) → m < 2 ^ 64 → n < 2 ^ 64 → text ≡ decimal m ++ 32 ∷ behind
    → text ≡ decimal n ++ 32 ∷ rest → behind ≡ rest
behind_number text behind m n rest h k is then =
    let e = (numbers-injective m n (Some behind) (Some rest) h k (sym is ∙ then)).1 in cc

-- The result of `split_once`, and a text without a space.
pub word_before : (text : List ℕ) (r : Option (Bor (List ℕ) × Bor (List ℕ))) (p : Bor (List ℕ) × Bor (List ℕ))
    → IsSplitOnceResult 32 text r → r ≡ Some p → (text ≡ p.0.now ++ 32 ∷ p.1.now) × IsWord p.0.now
word_before text r p h e = let parts = rw e at (split_parts 32 text r h (omega arith)) in
    (parts.0, All-from_get_or (λ byte. byte ≢ 32) p.0.now 0 parts.1)

pub word_without : (text : List ℕ) (r : Option (Bor (List ℕ) × Bor (List ℕ))) → IsSplitOnceResult 32 text r → r ≡ None → IsWord text
word_without text r h e = let parts = rw e at (split_parts 32 text r h (omega arith)) in
    All-from_get_or (λ byte. byte ≢ 32) text 0 parts

-- The test for an empty text.
pub empty_from_test : (text : List ℕ) (b : Bool) → b ≡ eqb (length text) 0 → b ≡ true → text ≡ []
empty_from_test [] b e h = refl
empty_from_test (x ∷ xs) b e h = absurd (false≢true (sym (eqb-suc-zero (length xs)) ∙ (sym e ∙ h)))

pub filled_from_test : (text : List ℕ) (b : Bool) → b ≡ eqb (length text) 0 → b ≡ false → text ≢ []
filled_from_test text b e h is = let e' : b ≡ true = rw is at e in false≢true (sym h ∙ e')
