-- Lines of a form: the words of `forms` have no space and are printable, and a word and its numbers
-- make at most one step.
use Rattle.std.proofs.Common.{◌≡◌, ℕ, ◌<◌, ◌≤◌, ◌^◌, Bool, true, not, eqb, List, [], ◌∷◌, length, Option, Some, None}
use Rattle.std.proofs.Common.{All, arith, refl, subst}
use Rattle.std.specs.Prelude.{bytes_eq, find, option_and_then, if◌then◌else◌, nat_le}
use Rattle.std.specs.List.{list_all}
use Rattle.std.specs.Int.{is_in_range}
use Rattle.std.proofs.lemmas.Bool.{and_parts, cond_both, leb-true}
use Rattle.std.proofs.lemmas.Slice.Eq.{bytes_eq-Decides}
use Rattle.std.proofs.lemmas.List.Elements.{All-cons}
use Rattle.bk_drive.specs.declared.step.Step.{Step}
use Rattle.bk_script.specs.Line.{IsPrintable, IsWord, Form, forms, form_of, fits, formed, most, Range, reader, id, log, count}
use Rattle.bk_script.proofs.Words.{IsWord-from_test}
use Rattle.bk_script.proofs.Printable.{printable_test}

-- A form that is found has the word that was searched for.
same_word : (word : List ℕ) (fs : List Form) (f : Form) → find (λ (g : Form). bytes_eq word g.word) fs ≡ Some f → word ≡ f.word
same_word word [] f is = cc
same_word word (g ∷ fs) f is =
    let P : Option Form → Type 0 = λ found. found ≡ Some f → word ≡ f.word in
    cond_both (bytes_eq word g.word) (Some g) (find (λ (h : Form). bytes_eq word h.word) fs) P
    (λ same. λ first. let e : g ≡ f = cc in subst (λ (h : Form). word ≡ h.word) e ((bytes_eq-Decides word g.word).0 same))
    (λ _. λ later. same_word word fs f later) is

-- A form that is found passes each test that all forms pass.
form_tested : (word : List ℕ) (test : Form → Bool) (fs : List Form) (f : Form) → list_all test fs ≡ true
    → find (λ (g : Form). bytes_eq word g.word) fs ≡ Some f → test f ≡ true
form_tested word test [] f all is = cc
form_tested word test (g ∷ fs) f all is =
    let parts = and_parts _ _ all in
    let P : Option Form → Type 0 = λ found. found ≡ Some f → test f ≡ true in
    cond_both (bytes_eq word g.word) (Some g) (find (λ (h : Form). bytes_eq word h.word) fs) P (λ same. λ first. let e : g ≡ f = cc in subst (λ (h : Form). test h ≡ true) e parts.0)
    (λ _. λ later. form_tested word test fs f parts.1 later) is

-- The tests of all words are one computation.
words_are : list_all (λ (g : Form). list_all (λ byte. not (eqb byte 32)) g.word) forms ≡ true
words_are = refl

words_show : list_all (λ (g : Form). list_all (is_in_range 32 126) g.word) forms ≡ true
words_show = refl

are_short : list_all (λ (g : Form). nat_le (length g.ranges) 3) forms ≡ true
are_short = refl

IsWord-form : (word : List ℕ) (f : Form) → form_of word ≡ Some f → IsWord word
IsWord-form word f is = rw (same_word word forms f is)
    (IsWord-from_test f.word (form_tested word (λ (g : Form). list_all (λ byte. not (eqb byte 32)) g.word) forms f words_are is))

printable_form : (word : List ℕ) (f : Form) → form_of word ≡ Some f → All IsPrintable word
printable_form word f is = rw (same_word word forms f is)
    (printable_test f.word (form_tested word (λ (g : Form). list_all (is_in_range 32 126) g.word) forms f words_show is))

forms_short : (word : List ℕ) (f : Form) → form_of word ≡ Some f → length f.ranges ≤ 3
forms_short word f is = leb-true _ _ (form_tested word (λ (g : Form). nat_le (length g.ranges) 3) forms f are_short is)

most_small : (readers : ℕ) (range : Range) → readers < 2 ^ 32 → most readers range < 2 ^ 64
most_small readers reader few = omega (arith, few)
most_small readers id few = omega arith
most_small readers log few = omega arith
most_small readers count few = omega arith

-- There are as many fitting numbers as ranges, and none exceeds 64 bits.
fit_small : (readers : ℕ) (ranges : List Range) (numbers : List ℕ) → readers < 2 ^ 32 → fits readers ranges numbers ≡ true
    → All (λ n. n < 2 ^ 64) numbers × (length numbers ≡ length ranges)
fit_small readers [] [] few fit = (λ k d inside. absurd (omega (arith, inside)), refl)
fit_small readers [] (n ∷ numbers) few fit = cc
fit_small readers (range ∷ ranges) [] few fit = cc
fit_small readers (range ∷ ranges) (n ∷ numbers) few fit =
    let parts = and_parts _ _ fit in
    let rest = fit_small readers ranges numbers few parts.1 in
    let low : n ≤ most readers range = leb-true _ _ parts.0 in
    let top = most_small readers range few in
    (All-cons (λ (n : ℕ). n < 2 ^ 64) n numbers (omega (arith, low, top)) rest.0, omega (arith, rest.1))

found_form : (readers : ℕ) (numbers : List ℕ) (step : Step) (o : Option Form)
    → option_and_then (λ (f : Form). if fits readers f.ranges numbers then Some (f.step numbers) else None) o ≡ Some step
    → (f : Form) × (o ≡ Some f) × (fits readers f.ranges numbers ≡ true)
found_form readers numbers step None is = cc
found_form readers numbers step (Some f) is =
    let P : Option Step → Type 0 = λ made. made ≡ Some step → (g : Form) × (Some f ≡ Some g) × (fits readers g.ranges numbers ≡ true) in
    cond_both (fits readers f.ranges numbers) (Some (f.step numbers)) None P (λ fit. λ _. (f, refl, fit)) (λ _. λ none. cc) is

-- Facts about a word and numbers that make a step.
pub record HasForm (name numbers : List ℕ) : Type 0 where
  pub word : IsWord name
  pub shown : All IsPrintable name
  pub small : All (λ n. n < 2 ^ 64) numbers
  pub short : length numbers ≤ 3

pub formed_has : (readers : ℕ) (word numbers : List ℕ) (step : Step) → readers < 2 ^ 32 → formed readers word numbers ≡ Some step
    → HasForm word numbers
formed_has readers word numbers step few is =
    let found = found_form readers numbers step (form_of word) is in
    let f = found.0 in
    let fit = fit_small readers f.ranges numbers few found.2 in
    let few_ranges = forms_short word f found.1 in
    record {
      word = IsWord-form word f found.1;
      shown = printable_form word f found.1;
      small = fit.0;
      short = omega (arith, fit.1, few_ranges);
    }
