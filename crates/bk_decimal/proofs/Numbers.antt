-- Decimal numbers as words: how they begin, and the result of parsing one.
use Rattle.std.proofs.Common.{◌≡◌, ◌≢◌, ℕ, ◌<◌, ◌^◌, length, get_or, List, [], ◌∷◌, Result, Ok, arith, sym, ◌∙◌, ap, inl, inr}
use Rattle.std.specs.Fmt.{decimal}
use Rattle.std.specs.Str.Parse.{AllDigits, digits_value, ParsesUnsigned}
use Rattle.std.proofs.Math.Nat.{eq-zero-or-pos}
use Rattle.std.proofs.lemmas.Str.Parse.{IsNumeralModel, numerals_by_value, tells_digits, parse_plain}
use Rattle.std.proofs.lemmas.Fmt.{decimal_digit, first_decimal, decimal-digits_value, parse-decimal}
use Rattle.std.proofs.lemmas.Result.{OkIff-at_ok}
use Rattle.std.proofs.lemmas.Bool.{cases_lt}
use Rattle.bk_decimal.specs.Number.{HasOddStart}

pub own : IsNumeralModel (AllDigits 10) (digits_value 10)
own = numerals_by_value _ tells_digits

zero_start : (word : List ℕ) → word ≡ 48 ∷ [] → HasOddStart word → ⊥
zero_start word is odd = let start : HasOddStart (48 ∷ []) = rw is at odd in
    elim start [ inl sign ↦ absurd (omega (arith, sign)) | inr pad ↦ absurd (omega (arith, pad.1)) ]

-- the digits of a number do not begin like that
pub even_start : (n : ℕ) (word : List ℕ) → n < 2 ^ 64 → word ≡ decimal n → HasOddStart word → ⊥
even_start n word small is odd = elim (eq-zero-or-pos n) [
  | inl none ↦ zero_start word (is ∙ (ap decimal none ∙ decimal_digit 0 (omega arith))) odd
  | inr some ↦
      let first : 48 < get_or word 0 0 = rw is (first_decimal n some small) in
      elim odd [ inl sign ↦ absurd (omega (arith, sign)) | inr pad ↦ absurd (omega (arith, pad.0)) ]
]

-- a word that parses is the number's digits, if it begins like a number
pub word_of_parsed : {E : Type 0} (word : List ℕ) (r : Result ℕ E) (n : ℕ) → ParsesUnsigned 64 10 word r → (HasOddStart word → ⊥)
    → r ≡ Ok n → word ≡ decimal n
word_of_parsed word r n parses even is =
    let plain : get_or word 0 0 ≢ 43 = λ e. even (inl e) in
    let read = OkIff-at_ok r _ _ n (parse_plain own 64 word r parses plain) is in
    let alone : get_or word 0 0 ≡ 48 → length word ≡ 1 = λ e. elim (cases_lt 1 (length word)) [
      | inl more ↦ absurd (even (inr (e, more)))
      | inr one ↦ omega (arith, read.0.1)
    ] in
    sym (decimal-digits_value own word read.0.0 read.0.1 alone read.0.2) ∙ ap decimal (sym read.1)

-- the digits of a number parse as the number
pub parsed_decimal : {E : Type 0} (word : List ℕ) (r : Result ℕ E) (n : ℕ) → ParsesUnsigned 64 10 word r → n < 2 ^ 64
    → word ≡ decimal n → r ≡ Ok n
parsed_decimal word r n parses small is = parse-decimal 64 n word r small small is parses
