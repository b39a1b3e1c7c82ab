-- The digits of an id, one after another from the last.
use Rattle.std.proofs.Common.{◌≡◌, ℕ, zero, suc, ◌+◌, ◌-◌, ◌⊎◌, inl, inr, Some, None, length, take, get_or, ◌*◌, ◌/◌, ◌%◌, ◌^◌, ◌<◌, ◌≤◌, Bool, true, false}
use Rattle.std.proofs.Common.{if◌then◌else◌, ◌==◌, List, [], ◌∷◌, ◌++◌, sym, ◌∙◌, ap, refl, subst, arith, append_assoc}
use Rattle.std.specs.Fmt.{digits, digits_onto, digit_glyph}
use Rattle.std.proofs.Math.Nat.{pow-suc, div-eq_of_lt}
use Rattle.std.proofs.lemmas.Nat.{div_below, le-div, div-mul-add, mod-mul-add, div-add-mod'}
use Rattle.std.proofs.lemmas.List.{same_from_push, take_more, take_all, nil_from_length}
use Rattle.std.proofs.lemmas.Bool.{eq-eqb, ne_eqb, cases_lt}
use Rattle.std.proofs.lemmas.Fmt.{hex_one_digit, digits_is_IsNumeral}
use Rattle.bk_disk.specs.Names.{id_text}

-- digits before other bytes
onto-append : (k n : ℕ) (acc : List ℕ) → digits_onto k 16 false n acc ≡ digits_onto k 16 false n [] ++ acc
onto-append zero n acc = refl
onto-append (suc k) n acc =
    let last = digit_glyph false (n % 16) ∷ [] in
    by_test (n / 16 == 0)
    (onto-append k (n / 16) (digit_glyph false (n % 16) ∷ acc)
    ∙ sym (append_assoc (digits_onto k 16 false (n / 16) []) last acc)
    ∙ ap (λ xs. xs ++ acc) (sym (onto-append k (n / 16) last))) where
      by_test : (b : Bool) → digits_onto k 16 false (n / 16) (digit_glyph false (n % 16) ∷ acc)
          ≡ digits_onto k 16 false (n / 16) (digit_glyph false (n % 16) ∷ []) ++ acc
          → (if b then digit_glyph false (n % 16) ∷ acc else digits_onto k 16 false (n / 16) (digit_glyph false (n % 16) ∷ acc))
          ≡ (if b then digit_glyph false (n % 16) ∷ [] else digits_onto k 16 false (n / 16) (digit_glyph false (n % 16) ∷ [])) ++ acc
      by_test true step = refl
      by_test false step = step

-- room for more digits than there are changes nothing
onto-more : (k n : ℕ) (acc : List ℕ) → n < 16 ^ suc k → digits_onto (suc (suc k)) 16 false n acc ≡ digits_onto (suc k) 16 false n acc
onto-more zero n acc low =
    let none : (n / 16 == 0) ≡ true = eq-eqb (n / 16) 0 (div-eq_of_lt low) in
    let here = digit_glyph false (n % 16) ∷ acc in
    ap (λ b. if b then here else digits_onto 1 16 false (n / 16) here) none ∙ sym (ap (λ b. if b then here else digits_onto 0 16 false (n / 16) here) none)
onto-more (suc k) n acc low =
    let here = digit_glyph false (n % 16) ∷ acc in
    ap (λ rest. if n / 16 == 0 then here else rest) (onto-more k (n / 16) here (div_below n 16 (16 ^ suc k) (omega arith)
    (subst (λ m. n < m) (pow-suc 16 (suc k)) low)))

-- an id of one digit
pub id_text-one : (n : ℕ) → n < 16 → id_text n ≡ digit_glyph false n ∷ []
id_text-one n low = hex_one_digit false n low

-- an id of more than one digit
pub id_text-more : (n : ℕ) → 16 ≤ n → n < 2 ^ 31 → id_text n ≡ id_text (n / 16) ++ digit_glyph false (n % 16) ∷ []
unfolding digits
id_text-more n high low =
    let some : 1 ≤ n / 16 = le-div 1 n 16 (omega arith) high in
    let test : (n / 16 == 0) ≡ false = ne_eqb (n / 16) 0 (λ none. omega (arith, none)) in
    let last = digit_glyph false (n % 16) ∷ [] in
    let less : n / 16 < 16 ^ 63 = div_below n 16 (16 ^ 63) (omega arith) (omega arith) in
    ap (λ b. if b then last else digits_onto 63 16 false (n / 16) last) test
    ∙ sym (onto-more 62 (n / 16) last less) ∙ onto-append 64 (n / 16) last

-- an id has a digit
pub id_text-some : (n : ℕ) → n < 2 ^ 31 → 0 < length (id_text n)
id_text-some n low = (digits_is_IsNumeral 16 false (omega arith) (omega arith) n (omega arith)).0.0

-- the bytes before the last, and the last
abbrev pub front_of : List ℕ → List ℕ
front_of text = take (length text - 1) text

abbrev pub last_of : List ℕ → ℕ
last_of text = get_or text (length text - 1) 0

pub front-last : (text : List ℕ) → 0 < length text → front_of text ++ last_of text ∷ [] ≡ text
front-last text some =
    sym (take_more text (length text - 1) 0 (omega arith)) ∙ take_all (length text - 1 + 1) text (omega arith)

-- the text of an id, by whether it has one digit
pub by_digits : {P : Type 0} (text : List ℕ) (n : ℕ) → 0 < length text → n < 2 ^ 31 → text ≡ id_text n
    → (n < 16 → length (front_of text) ≡ 0 → last_of text ≡ digit_glyph false n → P)
    → (16 ≤ n → front_of text ≡ id_text (n / 16) → last_of text ≡ digit_glyph false (n % 16) → P) → P
by_digits {P} text n some low is one more = by_size (cases_lt n 16) where
  by_size : (n < 16) ⊎ (16 ≤ n) → P
  by_size (inl less) =
      let cut = same_from_push (front_of text) [] (last_of text) (digit_glyph false n) (front-last text some ∙ is ∙ id_text-one n less) in
      one less (ap length cut.0) cut.1
  by_size (inr high) =
      let cut = same_from_push (front_of text) (id_text (n / 16)) (last_of text) (digit_glyph false (n % 16))
      (front-last text some ∙ is ∙ id_text-more n high low) in
      more high cut.0 cut.1

-- a text of one digit
pub id_text-from_one : (text : List ℕ) (low : ℕ) → 0 < length text → length (front_of text) ≡ 0 → low < 16 → last_of text ≡ digit_glyph false low
    → text ≡ id_text low
id_text-from_one text low some none digit is =
    sym (front-last text some) ∙ ap (λ xs. xs ++ last_of text ∷ []) (nil_from_length (front_of text) none) ∙ ap (λ d. d ∷ []) is ∙ sym (id_text-one low digit)

-- a text of more than one
pub id_text-from_more : (text : List ℕ) (high low : ℕ) → 0 < length text → 0 < high → high < 2 ^ 27 → low < 16 → front_of text ≡ id_text high
    → last_of text ≡ digit_glyph false low → text ≡ id_text (high * 16 + low)
id_text-from_more text high low some first short digit front last =
    sym (front-last text some)
    ∙ ap (λ xs. xs ++ last_of text ∷ []) (front ∙ ap id_text (sym (div-mul-add high 16 low digit)))
    ∙ ap (λ d. id_text ((high * 16 + low) / 16) ++ d ∷ []) (last ∙ ap (digit_glyph false) (sym (mod-mul-add high 16 low digit)))
    ∙ sym (id_text-more (high * 16 + low) (omega arith) (omega arith))

-- a number is made of its digits
pub joined_digits : (n high low : ℕ) → high ≡ n / 16 → low ≡ n % 16 → high * 16 + low ≡ n
joined_digits n high low front last = ap (λ h. h * 16 + low) front ∙ ap (λ d. n / 16 * 16 + d) last ∙ div-add-mod' n 16

-- what is there is not nothing
pub not_none : {X P : Type 0} (x : X) → None ≡ Some x → P
not_none x is = absurd cc
