-- The rest of a line that encodes a step, after its first word and a space.
use Rattle.std.proofs.Common.{◌≡◌, ◌≢◌, ℕ, ◌<◌, ◌≤◌, ◌^◌, List, [], ◌∷◌, ◌++◌, codes, slice_index, Option, Some}
use Rattle.std.proofs.Common.{None, All, arith, refl, sym, ◌∙◌, ap, subst}
use Rattle.std.specs.Fmt.{decimal}
use Rattle.std.proofs.lemmas.List.Elements.{All-cons}
use Rattle.std.specs.Option.{MatchOption}
use Rattle.bk_record.specs.Limits.{max_pad}
use Rattle.bk_drive.specs.declared.step.Step.{Step}
use Rattle.bk_store.specs.declared.adding.AddKind.{AddKind}
use Rattle.bk_store.specs.declared.adding.AddKind.TheVariants.{Ordinary, Recovery}
use Rattle.bk_script.specs.Line.{IsWord, IsPrintable, followed, numbered, formed, IsFormed, add_word, Spells, form, add, add_text, pad}
use Rattle.bk_script.proofs.Words.{IsWord-from_test, followed-injective}
use Rattle.bk_script.proofs.Printable.{printable_test, printable_decimal, followed_by}
use Rattle.bk_script.proofs.Numbered.{first_small, others_small, numbered-injective}
use Rattle.bk_script.proofs.Forms.{HasForm, formed_has}

-- The rest of an add.
pub record IsAddText (text : List ℕ) : Type 0 where
  pub ledger : ℕ
  pub entry : ℕ
  pub rest : Option (List ℕ)
  pub ledger_fits : ledger < 2 ^ 63
  pub entry_fits : entry < 2 ^ 63
  pub some : rest ≢ Some []
  pub is : text ≡ followed (decimal ledger) (Some (followed (decimal entry) rest))

-- The rest of a `pad`.
pub record IsPadText (text : List ℕ) : Type 0 where
  pub ledger : ℕ
  pub entry : ℕ
  pub size : ℕ
  pub ledger_fits : ledger < 2 ^ 63
  pub entry_fits : entry < 2 ^ 63
  pub size_fits : size ≤ max_pad
  pub is : Some text ≡ numbered (ledger ∷ entry ∷ size ∷ [])

-- The kinds of lines.
data Kinds (readers : ℕ) (line : List ℕ) (step : Step) : Type 0 where
  is_form : IsFormed readers line step → Kinds readers line step
  is_add : (kind : AddKind) (text : List ℕ) → line ≡ followed (add_word kind) (Some text) → IsAddText text → Kinds readers line step
  is_pad : (text : List ℕ) → line ≡ followed (codes "pad") (Some text) → IsPadText text → Kinds readers line step

parted : {readers : ℕ} {line : List ℕ} {step : Step} → Spells readers line step → Kinds readers line step
parted (form is) = is_form is
parted (add kind {ledger = ledger} {entry = entry} low high is) =
    is_add kind _ refl (record { ledger = ledger; entry = entry; rest = None; ledger_fits = low; entry_fits = high; some = λ e. cc; is = refl })
parted (add_text kind {ledger = ledger} {entry = entry} {text = text} low high some all is) =
    is_add kind _ refl (record { ledger = ledger; entry = entry; rest = Some text; ledger_fits = low; entry_fits = high; some = λ e. some cc; is = refl })
parted (pad {ledger = ledger} {entry = entry} {size = size} low high small is) =
    is_pad _ refl (record { ledger = ledger; entry = entry; size = size; ledger_fits = low; entry_fits = high; size_fits = small; is = refl })

IsWord-add : (kind : AddKind) → IsWord (add_word kind)
IsWord-add Ordinary = IsWord-from_test (codes "add") refl
IsWord-add Recovery = IsWord-from_test (codes "radd") refl

printable_add : (kind : AddKind) → All IsPrintable (add_word kind)
printable_add Ordinary = printable_test (codes "add") refl
printable_add Recovery = printable_test (codes "radd") refl

-- The word of an add is not the word of a form, and not `pad`.
add_unformed : (readers : ℕ) (kind : AddKind) (numbers : List ℕ) (step : Step) → ¬ (formed readers (add_word kind) numbers ≡ Some step)
add_unformed readers Ordinary numbers step is = let none : None ≡ Some step = is in cc
add_unformed readers Recovery numbers step is = let none : None ≡ Some step = is in cc

add-pad : (kind : AddKind) → add_word kind ≢ codes "pad"
add-pad Ordinary same = let first = ap (λ (w : List ℕ). slice_index w 0) same in absurd (omega (arith, first))
add-pad Recovery same = let first = ap (λ (w : List ℕ). slice_index w 0) same in absurd (omega (arith, first))

pub no_add : (name : List ℕ) → name ≢ codes "add" → name ≢ codes "radd" → (kind : AddKind) → name ≢ add_word kind
no_add name not_add not_radd Ordinary = not_add
no_add name not_add not_radd Recovery = not_radd

IsWord-pad : IsWord (codes "pad")
IsWord-pad = IsWord-from_test (codes "pad") refl

-- A word and the rest of a line of a form.
pub record IsNumbered (readers : ℕ) (name : List ℕ) (rest : Option (List ℕ)) (step : Step) : Type 0 where
  pub numbers : List ℕ
  pub made : formed readers name numbers ≡ Some step
  pub behind : rest ≡ numbered numbers
  pub has : HasForm name numbers

pub numbered_of : (readers : ℕ) (name : List ℕ) (rest : Option (List ℕ)) (step : Step) → readers < 2 ^ 32 → IsWord name
    → IsFormed readers (followed name rest) step → IsNumbered readers name rest step
numbered_of readers name rest step few word is =
    let has = formed_has readers is.word is.numbers step few is.made in
    let same = followed-injective is.word name (numbered is.numbers) rest has.word word (sym is.spelled) in
    let N : List ℕ → Type 0 = λ w. (formed readers w is.numbers ≡ Some step) × HasForm w is.numbers in
    let moved = subst N same.0 (is.made, has) in
    record { numbers = is.numbers; made = moved.0; behind = sym same.1; has = moved.1 }

-- The step of a line, from the form of its word and its numbers.
pub told : (readers : ℕ) (name : List ℕ) (rest : Option (List ℕ)) (numbers : List ℕ) (result : Option Step) → readers < 2 ^ 32 → IsWord name
    → rest ≡ numbered numbers → All (λ n. n < 2 ^ 64) numbers → result ≡ formed readers name numbers
    → MatchOption result ((step : Step) → ¬ (IsFormed readers (followed name rest) step)) (IsFormed readers (followed name rest))
told readers name rest numbers (Some step) few word behind small is =
    record { word = name; numbers = numbers; made = sym is; spelled = ap (followed name) behind }
told readers name rest numbers None few word behind small is = λ step formed_line.
    let n = numbered_of readers name rest step few word formed_line in
    let same : numbers ≡ n.numbers = numbered-injective numbers n.numbers small n.has.small (sym behind ∙ n.behind) in
    let made : formed readers name numbers ≡ Some step = rw same n.made in
    let none : None ≡ Some step = is ∙ made in cc

-- The rest of an add, and of a `pad`.
pub add_text_of : (readers : ℕ) (kind : AddKind) (text : List ℕ) (step : Step) → readers < 2 ^ 32 → Spells readers (add_word kind ++ 32 ∷ text) step
    → IsAddText text
add_text_of readers kind text step few spells = elim (parted spells) [
  | is_form is ↦ let n = numbered_of readers (add_word kind) (Some text) step few (IsWord-add kind) is in
      absurd (add_unformed readers kind n.numbers step n.made)
  | is_add other t e h ↦
      let same = (followed-injective (add_word kind) (add_word other) (Some text) (Some t) (IsWord-add kind) (IsWord-add other) e).1 in
      let is : t ≡ text = cc in subst IsAddText is h
  | is_pad t e h ↦ absurd (add-pad kind (followed-injective (add_word kind) (codes "pad") (Some text) (Some t) (IsWord-add kind) IsWord-pad e).0)
]

pub pad_text_of : (readers : ℕ) (text : List ℕ) (step : Step) → readers < 2 ^ 32 → Spells readers (codes "pad" ++ 32 ∷ text) step → IsPadText text
pad_text_of readers text step few spells = elim (parted spells) [
  | is_form is ↦ let n = numbered_of readers (codes "pad") (Some text) step few IsWord-pad is in
      let none : None ≡ Some step = n.made in cc
  | is_add kind t e h ↦ absurd (add-pad kind (sym (followed-injective (codes "pad") (add_word kind) (Some text) (Some t) IsWord-pad (IsWord-add kind) e).0))
  | is_pad t e h ↦ let same = (followed-injective (codes "pad") (codes "pad") (Some text) (Some t) IsWord-pad IsWord-pad e).1 in
      let is : t ≡ text = cc in subst IsPadText is h
]

-- A line with another first word, or without a space, is of a form.
pub form_with : (readers : ℕ) (name text : List ℕ) (step : Step) → IsWord name → ((kind : AddKind) → name ≢ add_word kind) → name ≢ codes "pad"
    → Spells readers (name ++ 32 ∷ text) step → IsFormed readers (name ++ 32 ∷ text) step
form_with readers name text step word none no_pad spells = elim (parted spells) [
  | is_form is ↦ is
  | is_add kind t e h ↦ absurd (none kind (followed-injective name (add_word kind) (Some text) (Some t) word (IsWord-add kind) e).0)
  | is_pad t e h ↦ absurd (no_pad (followed-injective name (codes "pad") (Some text) (Some t) word IsWord-pad e).0)
]

pub form_alone : (readers : ℕ) (name : List ℕ) (step : Step) → IsWord name → Spells readers name step → IsFormed readers name step
form_alone readers name step word spells = elim (parted spells) [
  | is_form is ↦ is
  | is_add kind t e h ↦ let none : None ≡ Some t = (followed-injective name (add_word kind) None (Some t) word (IsWord-add kind) e).1 in cc
  | is_pad t e h ↦ let none : None ≡ Some t = (followed-injective name (codes "pad") None (Some t) word IsWord-pad e).1 in cc
]

pub small_two : (a b : ℕ) → a < 2 ^ 64 → b < 2 ^ 64 → All (λ n. n < 2 ^ 64) (a ∷ b ∷ [])
small_two a b first second = All-cons (λ (n : ℕ). n < 2 ^ 64) a (b ∷ []) first
    (All-cons (λ (n : ℕ). n < 2 ^ 64) b [] second (λ k d inside. absurd (omega (arith, inside))))

pub small_three : (a b c : ℕ) → a < 2 ^ 64 → b < 2 ^ 64 → c < 2 ^ 64 → All (λ n. n < 2 ^ 64) (a ∷ b ∷ c ∷ [])
small_three a b c first second third = All-cons (λ (n : ℕ). n < 2 ^ 64) a (b ∷ c ∷ []) first (small_two b c second third)

-- Each byte of a line that encodes a step is printable.
printable_numbered : (word : List ℕ) (numbers : List ℕ) → All IsPrintable word → All (λ n. n < 2 ^ 64) numbers
    → All IsPrintable (followed word (numbered numbers))
printable_numbered word [] shown small = shown
printable_numbered word (n ∷ numbers) shown small =
    followed_by word _ shown (printable_numbered (decimal n) numbers (printable_decimal n (first_small n numbers small)) (others_small n numbers small))

pub printable_line : {readers : ℕ} {line : List ℕ} {step : Step} → readers < 2 ^ 32 → Spells readers line step → All IsPrintable line
printable_line {readers = readers} {step = step} few (form is) =
    let has = formed_has readers is.word is.numbers step few is.made in
    rw is.spelled (printable_numbered is.word is.numbers has.shown has.small)
printable_line few (add kind {ledger = ledger} {entry = entry} low high is) =
    printable_numbered (add_word kind) (ledger ∷ entry ∷ []) (printable_add kind)
    (small_two ledger entry (omega (arith, low)) (omega (arith, high)))
printable_line few (add_text kind {ledger = ledger} {entry = entry} {text = text} low high some all is) =
    followed_by (add_word kind) _ (printable_add kind)
    (followed_by (decimal ledger) _ (printable_decimal ledger (omega (arith, low)))
    (followed_by (decimal entry) text (printable_decimal entry (omega (arith, high))) all))
printable_line few (pad {ledger = ledger} {entry = entry} {size = size} low high small is) =
    printable_numbered (codes "pad") (ledger ∷ entry ∷ size ∷ []) (printable_test (codes "pad") refl)
    (small_three ledger entry size (omega (arith, low)) (omega (arith, high)) (omega (arith, small)))
