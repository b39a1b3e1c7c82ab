-- Numbers of eight bytes, and fields of a layout: what was written is read, and what is read was written.
use Rattle.std.proofs.Common.{◌≡◌, ℕ, zero, suc, ◌+◌, ◌*◌, ◌^◌, ◌<◌, ◌≤◌, Bool, true, false, cond, List, [], ◌∷◌, ◌++◌, length, take, drop, Result, Ok, Err, refl, sym, ap, subst, ◌∙◌, append_assoc, arith, inl, inr}
use Rattle.bk_serve_core.specs.declared.fault.Fault.{Fault}
use Rattle.std.specs.List.{flat_map, AllByRecursion}
use Rattle.std.specs.Int.{w64, from_be_bytes, to_be_bytes}
use Rattle.std.proofs.lemmas.Bool.{cases_lt, and_parts, leb-true}
use Rattle.std.proofs.lemmas.List.{take_at, take-append-drop, length-take, length-drop, drop-drop, get_or-drop, get_or-take, get_or_past}
use Rattle.std.proofs.lemmas.Nat.{be_bytes_8, from_be_bytes-to_be_bytes_8}
use Rattle.bk_serve_core.specs.declared.layout.Layout.{Layout}
use Rattle.std.specs.Prelude.{slice_index}
use Rattle.bk_serve_core.specs.Encoding.{AreNumbers}
use Rattle.bk_serve_core.specs.Layouts.{fits, numbers, then_bytes}
use Rattle.bk_serve_core.specs.Fields.{IsBytes, fields, word, parts, body_of, FitsLayout}

pub IsBytes-drop : (n : ℕ) (bytes : List ℕ) → IsBytes bytes → IsBytes (drop n bytes)
IsBytes-drop n bytes each i = rw get_or-drop (each (n + i))

pub IsBytes-take : (n : ℕ) (bytes : List ℕ) → IsBytes bytes → IsBytes (take n bytes)
IsBytes-take n bytes each i =
    elim (cases_lt i n) [
      | inl lt ↦ rw (get_or-take n bytes i 0 lt) (each i)
      | inr le ↦ rw (get_or_past (take n bytes) i 0 (omega (arith, length-take n bytes))) (omega arith)
    ]

-- the number in the first eight bytes
first_8 : (bytes : List ℕ) → from_be_bytes w64 (take 8 bytes) ≡ from_be_bytes w64 bytes
first_8 bytes =
    rw (
      get_or-take 8 bytes 0 0 (omega arith),
      get_or-take 8 bytes 1 0 (omega arith),
      get_or-take 8 bytes 2 0 (omega arith),
      get_or-take 8 bytes 3 0 (omega arith),
      get_or-take 8 bytes 4 0 (omega arith),
      get_or-take 8 bytes 5 0 (omega arith),
      get_or-take 8 bytes 6 0 (omega arith),
      get_or-take 8 bytes 7 0 (omega arith),
    ) refl

-- encoding the number of the first eight bytes gives these bytes
front_8 : (bytes : List ℕ) → IsBytes bytes → 8 ≤ length bytes → to_be_bytes w64 (from_be_bytes w64 bytes) ≡ take 8 bytes
front_8 bytes each long = be_bytes_8 (take 8 bytes) (from_be_bytes w64 bytes) (omega (arith, length-take 8 bytes)) (IsBytes-take 8 bytes each) (sym (first_8 bytes))

word_below : (i : ℕ) (body : List ℕ) → IsBytes body → word i body < 2 ^ 64
word_below i body each =
    let e : IsBytes (drop (8 * i) body) = IsBytes-drop (8 * i) body each in
    omega (arith, e 0, e 1, e 2, e 3, e 4, e 5, e 6, e 7)

-- so many numbers from a field on
abbrev pub words_at : ℕ → ℕ → List ℕ → List ℕ
words_at i zero body = []
words_at i (suc n) body = word i body ∷ words_at (suc i) n body

pub words_below : (i n : ℕ) (body : List ℕ) → IsBytes body → AllByRecursion (λ w. w < 2 ^ 64) (words_at i n body)
words_below i zero body each = tt
words_below i (suc n) body each = (word_below i body each, words_below (suc i) n body each)

words_same : (i n : ℕ) (body rest : List ℕ) → IsBytes body → 8 * (i + n) ≤ length body → rest ≡ drop (8 * (i + n)) body
    → fields (words_at i n body) rest ≡ drop (8 * i) body
words_same i zero body rest each long is = is ∙ ap (λ (k : ℕ). drop k body) (omega arith)
words_same i (suc n) body rest each long is =
    let here : List ℕ = drop (8 * i) body in
    let size : 8 ≤ length here = omega (arith, length-drop (8 * i) body) in
    let front : to_be_bytes w64 (word i body) ≡ take 8 here = front_8 here (IsBytes-drop (8 * i) body each) size in
    let next : fields (words_at (suc i) n body) rest ≡ drop (8 * suc i) body =
    words_same (suc i) n body rest each (omega arith) (is ∙ ap (λ (k : ℕ). drop k body) (omega arith)) in
    let step : drop (8 * suc i) body ≡ drop 8 here = ap (λ (k : ℕ). drop k body) (omega arith) ∙ sym (drop-drop 8 (8 * i) body) in
    append_assoc (to_be_bytes w64 (word i body)) (flat_map (to_be_bytes w64) (words_at (suc i) n body)) rest
    ∙ ap (λ (x : List ℕ). to_be_bytes w64 (word i body) ++ x) (next ∙ step)
    ∙ ap (λ (x : List ℕ). x ++ drop 8 here) front ∙ take-append-drop 8 here

pub record IsInside (layout : Layout) (n : ℕ) : Type 0 where
  pub least : 8 * layout.numbers + layout.least ≤ n
  pub most : n ≤ 8 * layout.numbers + layout.most

pub inside : (layout : Layout) (n : ℕ) → fits layout n ≡ true → IsInside layout n
inside layout n is =
    let a = and_parts _ _ is in
    let b = and_parts _ _ a.1 in
    record { least = leb-true _ _ a.0; most = leb-true _ _ b.0 }

none_left : (n : ℕ) (bytes : List ℕ) → length bytes ≤ n → [] ≡ drop n bytes
none_left zero [] le = refl
none_left (suc n) [] le = refl
none_left zero (b ∷ bytes) le = absurd (omega arith)
none_left (suc n) (b ∷ bytes) le = none_left n bytes (omega arith)

-- fields that are numbers alone
pub exact : (n : ℕ) (body : List ℕ) → IsBytes body → fits (numbers n) (length body) ≡ true → fields (words_at 0 n body) [] ≡ body
exact n body each is =
    let in_it = inside (numbers n) (length body) is in
    let at : 8 * (0 + n) ≡ 8 * n = omega arith in
    let none : [] ≡ drop (8 * (0 + n)) body = none_left (8 * (0 + n)) body (omega (arith, in_it.most)) in
    words_same 0 n body [] each (omega (arith, in_it.least)) none

-- numbers, and bytes after them
pub tailed : (n least most : ℕ) (body : List ℕ) → IsBytes body → fits (then_bytes n least most) (length body) ≡ true
    → fields (words_at 0 n body) (drop (8 * n) body) ≡ body
tailed n least most body each is =
    let in_it = inside (then_bytes n least most) (length body) is in
    let same : drop (8 * n) body ≡ drop (8 * (0 + n)) body = ap (λ (k : ℕ). drop k body) (omega arith) in
    words_same 0 n body (drop (8 * n) body) each (omega (arith, in_it.least)) same

-- what was read has the same bytes, and its fields fit
pub written : (layout : ℕ → Layout) (kind : ℕ) (ws tail body : List ℕ) → fields ws tail ≡ body → AllByRecursion (λ w. w < 2 ^ 64) ws
    → fits (layout kind) (length body) ≡ true → (body_of (parts kind ws tail) ≡ kind ∷ body) × FitsLayout layout (parts kind ws tail)
written layout kind ws tail body same below is =
    (ap (λ (x : List ℕ). kind ∷ x) same, (below, subst (λ (b : List ℕ). fits (layout kind) (length b) ≡ true) (sym same) is))

-- ---- a number that was written is read

abbrev pub back : ℕ → ℕ
back n = from_be_bytes w64 (to_be_bytes w64 n)

abbrev pub Below : List ℕ → Type 0
Below numbers = AllByRecursion (λ n. n < 2 ^ 64) numbers

pub back_is : (n : ℕ) → n < 2 ^ 64 → back n ≡ n
back_is n lt = from_be_bytes-to_be_bytes_8 n lt

-- a test that holds
pub chosen : {A : Type 0} (b : Bool) (x y z : A) → b ≡ true → x ≡ z → cond b x y ≡ z
chosen true x y z is same = same
chosen false x y z is same = absurd cc

-- what was appended to is still the front
pub front_stays : (xs ys : List ℕ) → take (length xs) (xs ++ ys) ≡ xs
front_stays xs ys = take_at xs ys (length xs) refl

-- every case of the first so many numbers
abbrev pub Each : (ℕ → Type 0) → ℕ → Type 0
Each P zero = Unit {0}
Each P (suc n) = Each P n × P n

the_last : (n k : ℕ) → k < suc n → n ≤ k → n ≡ k
the_last n k lt le = omega arith

pub each_below : (P : ℕ → Type 0) (n k : ℕ) → Each P n → k < n → P k
each_below P zero k all lt = absurd (omega arith)
each_below P (suc n) k all lt =
    elim (cases_lt k n) [
      | inl less ↦ each_below P n k all.0 less
      | inr le ↦ subst P (the_last n k lt le) all.1
    ]

abbrev given : {A : Type 0} → A → Result A Fault
given a = Ok a

-- a value that was given, behind two tests
pub record IsTaken {A : Type 0} (first second : Bool) (x a : A) (wanted : Bool) : Type 0 where
  pub known : first ≡ wanted
  pub fit : second ≡ true
  pub same : x ≡ a

pub taken_else : {A : Type 0} (b c : Bool) (d e : Fault) (x a : A) → cond b (Err d) (cond c (Ok x) (Err e)) ≡ given a → IsTaken b c x a false
taken_else true c d e x a is = absurd cc
taken_else false true d e x a is = record { known = refl; fit = refl; same = cc }
taken_else false false d e x a is = absurd cc

pub taken_then : {A : Type 0} (b c : Bool) (d e : Fault) (x a : A) → cond b (cond c (Ok x) (Err e)) (Err d) ≡ given a → IsTaken b c x a true
taken_then false c d e x a is = absurd cc
taken_then true true d e x a is = record { known = refl; fit = refl; same = cc }
taken_then true false d e x a is = absurd cc

-- numbers of a value, each written and read
pub by_1 : {A : Type 0} (g : ℕ → A) (a0 : ℕ) → Below (a0 ∷ []) → g (back a0) ≡ g a0
by_1 g a0 f = ap (λ (t : ℕ). g t) (back_is a0 f.0)

pub by_2 : {A : Type 0} (g : ℕ → ℕ → A) (a0 a1 : ℕ) → Below (a0 ∷ a1 ∷ []) → g (back a0) (back a1) ≡ g a0 a1
by_2 g a0 a1 f = ap (λ (t : ℕ). g t (back a1)) (back_is a0 f.0) ∙ ap (λ (t : ℕ). g a0 t) (back_is a1 f.1.0)

pub by_3 : {A : Type 0} (g : ℕ → ℕ → ℕ → A) (a0 a1 a2 : ℕ) → Below (a0 ∷ a1 ∷ a2 ∷ []) → g (back a0) (back a1) (back a2) ≡ g a0 a1 a2
by_3 g a0 a1 a2 f = ap (λ (t : ℕ). g t (back a1) (back a2)) (back_is a0 f.0) ∙ ap (λ (t : ℕ). g a0 t (back a2)) (back_is a1 f.1.0) ∙ ap (λ (t : ℕ). g a0 a1 t) (back_is a2 f.1.1.0)

pub by_4 : {A : Type 0} (g : ℕ → ℕ → ℕ → ℕ → A) (a0 a1 a2 a3 : ℕ) → Below (a0 ∷ a1 ∷ a2 ∷ a3 ∷ []) → g (back a0) (back a1) (back a2) (back a3) ≡ g a0 a1 a2 a3
by_4 g a0 a1 a2 a3 f = ap (λ (t : ℕ). g t (back a1) (back a2) (back a3)) (back_is a0 f.0) ∙ ap (λ (t : ℕ). g a0 t (back a2) (back a3)) (back_is a1 f.1.0) ∙ ap (λ (t : ℕ). g a0 a1 t (back a3)) (back_is a2 f.1.1.0) ∙ ap (λ (t : ℕ). g a0 a1 a2 t) (back_is a3 f.1.1.1.0)

pub by_10 : {A : Type 0} (g : ℕ → ℕ → ℕ → ℕ → ℕ → ℕ → ℕ → ℕ → ℕ → ℕ → A) (a0 a1 a2 a3 a4 a5 a6 a7 a8 a9 : ℕ) → Below (a0 ∷ a1 ∷ a2 ∷ a3 ∷ a4 ∷ a5 ∷ a6 ∷ a7 ∷ a8 ∷ a9 ∷ []) → g (back a0) (back a1) (back a2) (back a3) (back a4) (back a5) (back a6) (back a7) (back a8) (back a9) ≡ g a0 a1 a2 a3 a4 a5 a6 a7 a8 a9
by_10 g a0 a1 a2 a3 a4 a5 a6 a7 a8 a9 f = ap (λ (t : ℕ). g t (back a1) (back a2) (back a3) (back a4) (back a5) (back a6) (back a7) (back a8) (back a9)) (back_is a0 f.0) ∙ ap (λ (t : ℕ). g a0 t (back a2) (back a3) (back a4) (back a5) (back a6) (back a7) (back a8) (back a9)) (back_is a1 f.1.0) ∙ ap (λ (t : ℕ). g a0 a1 t (back a3) (back a4) (back a5) (back a6) (back a7) (back a8) (back a9)) (back_is a2 f.1.1.0) ∙ ap (λ (t : ℕ). g a0 a1 a2 t (back a4) (back a5) (back a6) (back a7) (back a8) (back a9)) (back_is a3 f.1.1.1.0) ∙ ap (λ (t : ℕ). g a0 a1 a2 a3 t (back a5) (back a6) (back a7) (back a8) (back a9)) (back_is a4 f.1.1.1.1.0) ∙ ap (λ (t : ℕ). g a0 a1 a2 a3 a4 t (back a6) (back a7) (back a8) (back a9)) (back_is a5 f.1.1.1.1.1.0) ∙ ap (λ (t : ℕ). g a0 a1 a2 a3 a4 a5 t (back a7) (back a8) (back a9)) (back_is a6 f.1.1.1.1.1.1.0) ∙ ap (λ (t : ℕ). g a0 a1 a2 a3 a4 a5 a6 t (back a8) (back a9)) (back_is a7 f.1.1.1.1.1.1.1.0) ∙ ap (λ (t : ℕ). g a0 a1 a2 a3 a4 a5 a6 a7 t (back a9)) (back_is a8 f.1.1.1.1.1.1.1.1.0) ∙ ap (λ (t : ℕ). g a0 a1 a2 a3 a4 a5 a6 a7 a8 t) (back_is a9 f.1.1.1.1.1.1.1.1.1.0)

-- number of bytes of fields
pub length_fields : (ns tail : List ℕ) → length (fields ns tail) ≡ 8 * length ns + length tail
length_fields [] tail = omega arith
length_fields (n ∷ ns) tail = omega (arith, length_fields ns tail)

-- numbers that each have eight bytes
pub are_numbers : (ns : List ℕ) → ((i : ℕ) → slice_index ns i < 2 ^ 64) → AreNumbers ns
are_numbers [] each = tt
are_numbers (n ∷ ns) each = (each 0, are_numbers ns (λ i. each (suc i)))
