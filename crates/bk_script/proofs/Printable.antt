-- Printable bytes are text, and numbers are printable.
use Rattle.std.proofs.Common.{◌≡◌, ℕ, ◌<◌, ◌^◌, true, List, [], ◌∷◌, ◌++◌, Result, Ok, Err, All, Bor, arith}
use Rattle.std.specs.List.{list_all}
use Rattle.std.specs.Int.{is_in_range}
use Rattle.std.specs.Fmt.{decimal}
use Rattle.std.specs.Str.{IsUtf8}
use Rattle.std.specs.Option.{MatchOption}
use Rattle.std.specs.Result.{MatchResult, result_ok}
use Rattle.std.proofs.lemmas.Fmt.{decimal_is_IsNumeral}
use Rattle.std.proofs.lemmas.Str.{IsUtf8-from_ascii}
use Rattle.std.proofs.lemmas.Str.Ascii.{IsAscii-from_all}
use Rattle.std.proofs.lemmas.Str.Parse.{digit_at}
use Rattle.std.proofs.lemmas.List.Elements.{All-cons, All-append, All-tail, All-weaker, All-from_get_or}
use Rattle.std.proofs.lemmas.List.Sums.{AllPass-from_list_all}
use Rattle.std.proofs.lemmas.Bool.Decides.{nat_tests}
use Rattle.bk_script.specs.Line.{IsPrintable}

pub printable_behind : (name rest : List ℕ) → All IsPrintable (name ++ 32 ∷ rest) → All IsPrintable rest
printable_behind [] rest h = All-tail IsPrintable 32 rest h
printable_behind (x ∷ name) rest h = printable_behind name rest (All-tail IsPrintable x (name ++ 32 ∷ rest) h)

-- Printable bytes are text.
pub text_of_printable : {E : Type 0} (line : List ℕ) (P : E → Type 0) (r : Result (Bor (List ℕ)) E)
    → MatchResult r (λ s. (s.now ≡ line) × IsUtf8 line) (λ e. ¬ (IsUtf8 line) × P e) → All IsPrintable line
    → MatchOption (result_ok r) (¬ (All IsPrintable line)) (λ text. (text.now ≡ line) × All IsPrintable line)
text_of_printable line P (Ok s) cases all = (cases.0, all)
text_of_printable line P (Err e) cases all =
    absurd (cases.0 (IsUtf8-from_ascii line (IsAscii-from_all line (All-weaker IsPrintable (λ b. b < 128) (λ b h. omega (arith, h.1)) line all))))

-- A test that is computed.
in_range_test : (b : ℕ) → is_in_range 32 126 b ≡ true → IsPrintable b
in_range_test b h = grind (arith, nat_tests)

pub printable_test : (word : List ℕ) → list_all (is_in_range 32 126) word ≡ true → All IsPrintable word
printable_test word h = All-weaker (λ b. is_in_range 32 126 b ≡ true) IsPrintable in_range_test word (AllPass-from_list_all _ word h)

pub printable_decimal : (n : ℕ) → n < 2 ^ 64 → All IsPrintable (decimal n)
printable_decimal n small = All-from_get_or IsPrintable (decimal n) 0
    (λ i inside. let digit = digit_at (decimal n) i (decimal_is_IsNumeral n (omega arith)).0.1 inside in (omega (arith, digit.0), omega (arith, digit.1)))

pub followed_by : (word rest : List ℕ) → All IsPrintable word → All IsPrintable rest → All IsPrintable (word ++ 32 ∷ rest)
followed_by word rest h k = All-append IsPrintable word (32 ∷ rest) h (All-cons IsPrintable 32 rest (omega arith, omega arith) k)
