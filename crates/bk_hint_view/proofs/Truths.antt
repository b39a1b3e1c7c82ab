-- The test whether entries are records of a file.
use Rattle.std.proofs.Common.{◌≡◌, ◌∙◌, ℕ, zero, suc, ◌-◌, eqb, true, List, [], ◌∷◌, ◌++◌, drop, refl, sym, ap, arith}
use Rattle.std.proofs.lemmas.Bool.{and_parts, eq-eqb, eqb-true}
use Rattle.bk_disk.specs.Blocks.{HasPrefix}
use Rattle.bk_hint.specs.declared.listed.Listed.{Listed}
use Rattle.bk_hint_view.specs.Rows.{head_of, is_front, are_records, AreRecords}

front_has : (front bytes : List ℕ) → is_front front bytes ≡ true → HasPrefix bytes front
front_has [] bytes is = (bytes, refl)
front_has (b ∷ front) [] is = absurd cc
front_has (b ∷ front) (c ∷ bytes) is =
    let parts = and_parts (eqb b c) (is_front front bytes) is in
    let rest = front_has front bytes parts.1 in
    let same : b ≡ c = eqb-true b c parts.0 in
    (rest.0, ap (λ (n : ℕ). n ∷ bytes) (sym same) ∙ ap (λ (l : List ℕ). b ∷ l) rest.1)

has_front : (front behind : List ℕ) → is_front front (front ++ behind) ≡ true
has_front [] behind = refl
has_front (b ∷ front) behind = rw (eq-eqb b b refl) (has_front front behind)

pub test_true : (file : List ℕ) (entries : List Listed) → are_records file entries ≡ true → AreRecords file entries
test_true file [] is k d within = absurd (omega arith)
test_true file (entry ∷ entries) is zero d within =
    front_has (head_of entry) (drop (entry.at - 4) file)
    (and_parts (is_front (head_of entry) (drop (entry.at - 4) file)) (are_records file entries) is).0
test_true file (entry ∷ entries) is (suc k) d within =
    test_true file entries (and_parts (is_front (head_of entry) (drop (entry.at - 4) file)) (are_records file entries) is).1 k d (omega arith)

pub true_test : (file : List ℕ) (entries : List Listed) → AreRecords file entries → are_records file entries ≡ true
true_test file [] holds = refl
true_test file (entry ∷ entries) holds =
    let here : HasPrefix (drop (entry.at - 4) file) (head_of entry) = holds 0 entry (omega arith) in
    let first : is_front (head_of entry) (drop (entry.at - 4) file) ≡ true = ap (is_front (head_of entry)) here.1 ∙ has_front (head_of entry) here.0 in
    rw first (true_test file entries (λ k d within. holds (suc k) d (omega arith)))
