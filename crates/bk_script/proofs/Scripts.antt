-- A script read line by line: the steps of the lines so far, and the first bad line.
use Rattle.std.proofs.Common.{◌≡◌, ◌≢◌, ℕ, ◌+◌, ◌<◌, true, Option, Some, None, IfSome, List, [], ◌∷◌, ◌++◌, length}
use Rattle.std.proofs.Common.{take, drop, get_or, All, arith, refl, sym, ◌∙◌, ap, subst, zero-add}
use Rattle.std.specs.Io.KnownBytes.{Consumes, IsAtEnd}
use Rattle.std.specs.List.{AllZip, filter, enumerate_from}
use Rattle.std.proofs.lemmas.List.{drop_more, take_all, take-append-drop, length-take, append-nil}
use Rattle.std.proofs.lemmas.List.Elements.{filter_more, All-more}
use Rattle.std.proofs.lemmas.List.FromFn.{length-enumerate_from, get_or-enumerate_from}
use Rattle.std.proofs.Math.Dec.{eqb-suc-zero}
use Rattle.bk_drive.specs.declared.step.Step.{Step}
use Rattle.bk_script.specs.Line.{Spells}
use Rattle.bk_script.specs.Script.{lines_in, has_bytes, last_reader, IsScript, IsGood, IsBad, IsFirstBad}

-- Each non-empty line encodes a step, and these are the steps.
abbrev pub Spell : List (List ℕ) → List Step → Type 0
Spell lines steps = AllZip (Spells last_reader) (filter has_bytes lines) steps

zip_push : (lines : List (List ℕ)) (steps : List Step) (line : List ℕ) (step : Step) → AllZip (Spells last_reader) lines steps → Spells last_reader line step
    → AllZip (Spells last_reader) (lines ++ line ∷ []) (steps ++ step ∷ [])
zip_push [] [] line step all one = (one, tt)
zip_push [] (s ∷ steps) line step all one = absurd all
zip_push (l ∷ lines) [] line step all one = absurd all
zip_push (l ∷ lines) (s ∷ steps) line step all one = (all.0, zip_push lines steps line step all.1 one)

filled_test : (line : List ℕ) → line ≢ [] → has_bytes line ≡ true
filled_test [] filled = absurd (filled refl)
filled_test (x ∷ xs) filled = rw (eqb-suc-zero (length xs)) refl

-- Line n is empty and encodes no step.
pub spell_skip : (lines : List (List ℕ)) (n : ℕ) (line : List ℕ) (steps : List Step) → n < length lines → line ≡ get_or lines n line
    → line ≡ [] → Spell (take n lines) steps → Spell (take (n + 1) lines) steps
spell_skip lines n line steps inside here empty so_far =
    let at_n : get_or lines n line ≡ [] = sym here ∙ empty in
    let same : filter has_bytes (take (n + 1) lines) ≡ filter has_bytes (take n lines) =
    filter_more has_bytes lines n line inside ∙ rw at_n (append-nil (filter has_bytes (take n lines))) in
    rw same so_far

-- Line n encodes a step.
pub spell_more : (lines : List (List ℕ)) (n : ℕ) (line : List ℕ) (steps : List Step) (step : Step) → n < length lines → line ≡ get_or lines n line
    → line ≢ [] → Spells last_reader line step → Spell (take n lines) steps → Spell (take (n + 1) lines) (steps ++ step ∷ [])
spell_more lines n line steps step inside here filled one so_far =
    let test : has_bytes (get_or lines n line) ≡ true = rw (← here) (filled_test line filled) in
    let longer : filter has_bytes (take (n + 1) lines) ≡ filter has_bytes (take n lines) ++ line ∷ [] =
    filter_more has_bytes lines n line inside ∙ rw (test, ← here) refl in
    rw longer (zip_push (filter has_bytes (take n lines)) steps line step so_far one)

-- All lines so far are good.
pub good_more : (lines : List (List ℕ)) (n : ℕ) (line : List ℕ) → n < length lines → line ≡ get_or lines n line
    → IsGood line → All IsGood (take n lines) → All IsGood (take (n + 1) lines)
good_more lines n line inside here good so_far = All-more IsGood lines n line inside so_far (subst IsGood here good)

-- Line n is the first bad line.
pub first_bad : (input : List ℕ) (n : ℕ) (line : List ℕ) → n < length (lines_in input) → line ≡ get_or (lines_in input) n line
    → IsBad line → All IsGood (take n (lines_in input)) → IsFirstBad input (n + 1)
first_bad input n line inside here bad so_far = record {
  before = take n (lines_in input);
  line = line;
  behind = drop (n + 1) (lines_in input);
  whole = sym (take-append-drop n (lines_in input)) ∙ ap (λ (rest : List (List ℕ)). take n (lines_in input) ++ rest)
      (drop_more (lines_in input) n line inside ∙ ap (λ (x : List ℕ). x ∷ drop (n + 1) (lines_in input)) (sym here));
  good = so_far;
  bad = bad;
  counted = omega (arith, length-take n (lines_in input));
}

-- The line of an iteration is the one with its number.
pub numbered_turn : (lines : List (List ℕ)) (n index : ℕ) (line : List ℕ)
    → (n < length (enumerate_from 0 lines)) × ((index, line) ≡ get_or (enumerate_from 0 lines) n (index, line))
    → (n < length lines) × (index ≡ n) × (line ≡ get_or lines n line)
numbered_turn lines n index line turn =
    let inside : n < length lines = omega (arith, turn.0, length-enumerate_from 0 lines) in
    let same = turn.1 ∙ get_or-enumerate_from 0 lines n (index, line) inside in
    (inside, ap (λ (p : ℕ × List ℕ). p.0) same ∙ zero-add n, ap (λ (p : ℕ × List ℕ). p.1) same)

-- At the end every line has been read.
pub spell_all : (lines : List (List ℕ)) (n : ℕ) (steps : List Step) → n ≡ length (enumerate_from 0 lines) → Spell (take n lines) steps → Spell lines steps
spell_all lines n steps all so_far = rw (take_all n lines (omega (arith, all, length-enumerate_from 0 lines))) at so_far

-- An input that was read to its end and encodes steps has no bad line.
pub spelled_never_bad : (Q : Type 0) (unread read : Option (List ℕ)) (input : List ℕ) (steps : List Step) → Consumes unread read input → IsAtEnd read
    → IsScript input steps → IfSome unread (λ xs. ((ss : List Step) → ¬ (IsScript xs ss)) → Q)
spelled_never_bad Q None read input steps taken ended spells = tt
spelled_never_bad Q (Some xs) None input steps taken ended spells = absurd taken
spelled_never_bad Q (Some xs) (Some ys) input steps taken ended spells = λ bad.
    let whole : xs ≡ input = taken ∙ (ap (λ (l : List ℕ). input ++ l) ended ∙ append-nil input) in
    absurd (bad steps (subst (λ (l : List ℕ). IsScript l steps) (sym whole) spells))
