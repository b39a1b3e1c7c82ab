-- Numbers, heads and steps as bytes: writing and reading are inverse.
use Rattle.std.proofs.Common.{◌≡◌, ℕ, zero, suc, ◌*◌, ◌^◌, ◌<◌, ◌≤◌, List, [], ◌∷◌, ◌++◌, length, take, drop, refl, sym, ap, ◌∙◌, arith}
use Rattle.std.specs.Int.{w32, w64, to_be_bytes, from_be_bytes}
use Rattle.std.specs.List.{flat_map, AllByRecursion}
use Rattle.std.proofs.lemmas.List.{length-append, length-take, length-drop, get_or-take, take-append-drop, drop_at, drop-drop, nil_from_length}
use Rattle.std.proofs.lemmas.Nat.{be_bytes_4, be_bytes_8, from_be_bytes-to_be_bytes_4, from_be_bytes-to_be_bytes_8}
use Rattle.bk_record.specs.Spelling.{IsBytes}
use Rattle.bk_record.proofs.Records.{bytes_take, bytes_drop}
use Rattle.bk_hint.specs.declared.head.Head.{Head}
use Rattle.bk_hint.specs.Hint.{head_bytes, step_bytes, HeadFits, StepFits}
use Rattle.bk_hint.specs.Decoding.{head_at, heads_in, steps_in}

-- ---- numbers

from_be_bytes-take-4 : (bytes : List ℕ) → from_be_bytes w32 (take 4 bytes) ≡ from_be_bytes w32 bytes
from_be_bytes-take-4 bytes = rw (
  get_or-take 4 bytes 0 0 (omega arith),
  get_or-take 4 bytes 1 0 (omega arith),
  get_or-take 4 bytes 2 0 (omega arith),
  get_or-take 4 bytes 3 0 (omega arith),
) refl

from_be_bytes-take-8 : (bytes : List ℕ) → from_be_bytes w64 (take 8 bytes) ≡ from_be_bytes w64 bytes
from_be_bytes-take-8 bytes = rw (
  get_or-take 8 bytes 0 0 (omega arith),
  get_or-take 8 bytes 1 0 (omega arith),
  get_or-take 8 bytes 2 0 (omega arith),
  get_or-take 8 bytes 3 0 (omega arith),
  get_or-take 8 bytes 4 0 (omega arith),
  get_or-take 8 bytes 5 0 (omega arith),
  get_or-take 8 bytes 6 0 (omega arith),
  get_or-take 8 bytes 7 0 (omega arith),
) refl

pub below_4 : (bytes : List ℕ) → IsBytes bytes → from_be_bytes w32 bytes < 2 ^ 32
below_4 bytes each = omega (arith, each 0, each 1, each 2, each 3)

pub below_8 : (bytes : List ℕ) → IsBytes bytes → from_be_bytes w64 bytes < 2 ^ 64
below_8 bytes each = omega (arith, each 0, each 1, each 2, each 3, each 4, each 5, each 6, each 7)

-- bytes begin with the number that they are read as
pub cut_4 : (bytes : List ℕ) → IsBytes bytes → 4 ≤ length bytes → bytes ≡ to_be_bytes w32 (from_be_bytes w32 bytes) ++ drop 4 bytes
cut_4 bytes each long =
    sym (take-append-drop 4 bytes)
    ∙ ap (λ (front : List ℕ). front ++ drop 4 bytes)
    (sym (be_bytes_4 (take 4 bytes) (from_be_bytes w32 bytes) (omega (arith, length-take 4 bytes)) (bytes_take 4 bytes each) (sym (from_be_bytes-take-4 bytes))))

pub cut_8 : (bytes : List ℕ) → IsBytes bytes → 8 ≤ length bytes → bytes ≡ to_be_bytes w64 (from_be_bytes w64 bytes) ++ drop 8 bytes
cut_8 bytes each long =
    sym (take-append-drop 8 bytes)
    ∙ ap (λ (front : List ℕ). front ++ drop 8 bytes)
    (sym (be_bytes_8 (take 8 bytes) (from_be_bytes w64 bytes) (omega (arith, length-take 8 bytes)) (bytes_take 8 bytes each) (sym (from_be_bytes-take-8 bytes))))

-- a number that was written is read, whatever follows it
pub again_4 : (n : ℕ) (rest : List ℕ) → n < 2 ^ 32 → from_be_bytes w32 (to_be_bytes w32 n ++ rest) ≡ n
again_4 n rest fits = from_be_bytes-to_be_bytes_4 n fits

pub again_8 : (n : ℕ) (rest : List ℕ) → n < 2 ^ 64 → from_be_bytes w64 (to_be_bytes w64 n ++ rest) ≡ n
again_8 n rest fits = from_be_bytes-to_be_bytes_8 n fits

-- ---- heads

pub length-head_bytes : (head : Head) → length (head_bytes head) ≡ 24
unfolding head_bytes
length-head_bytes head = refl

pub length-heads : (heads : List Head) → length (flat_map head_bytes heads) ≡ 24 * length heads
length-heads [] = refl
length-heads (head ∷ heads) = omega (arith, length-append (head_bytes head) (flat_map head_bytes heads), length-head_bytes head, length-heads heads)

pub head_cut : (bytes : List ℕ) → IsBytes bytes → 24 ≤ length bytes → bytes ≡ head_bytes (head_at bytes) ++ drop 24 bytes
unfolding head_bytes
head_cut bytes each long =
    let ledger : List ℕ = to_be_bytes w64 (from_be_bytes w64 bytes) in
    let entry : List ℕ = to_be_bytes w64 (from_be_bytes w64 (drop 8 bytes)) in
    let at : List ℕ = to_be_bytes w32 (from_be_bytes w32 (drop 16 bytes)) in
    let size : List ℕ = to_be_bytes w32 (from_be_bytes w32 (drop 20 bytes)) in
    let first : bytes ≡ ledger ++ drop 8 bytes = cut_8 bytes each (omega arith) in
    let second : drop 8 bytes ≡ entry ++ drop 16 bytes =
    cut_8 (drop 8 bytes) (bytes_drop 8 bytes each) (omega (arith, length-drop 8 bytes)) ∙ ap (λ (b : List ℕ). entry ++ b) (drop-drop 8 8 bytes) in
    let third : drop 16 bytes ≡ at ++ drop 20 bytes =
    cut_4 (drop 16 bytes) (bytes_drop 16 bytes each) (omega (arith, length-drop 16 bytes)) ∙ ap (λ (b : List ℕ). at ++ b) (drop-drop 4 16 bytes) in
    let fourth : drop 20 bytes ≡ size ++ drop 24 bytes =
    cut_4 (drop 20 bytes) (bytes_drop 20 bytes each) (omega (arith, length-drop 20 bytes)) ∙ ap (λ (b : List ℕ). size ++ b) (drop-drop 4 20 bytes) in
    first ∙ ap (λ (b : List ℕ). ledger ++ b) (second ∙ ap (λ (b : List ℕ). entry ++ b) (third ∙ ap (λ (b : List ℕ). at ++ b) fourth))

pub head_fits : (bytes : List ℕ) → IsBytes bytes → HeadFits (head_at bytes)
head_fits bytes each = record {
  ledger = below_8 bytes each;
  entry = below_8 (drop 8 bytes) (bytes_drop 8 bytes each);
  at = below_4 (drop 16 bytes) (bytes_drop 16 bytes each);
  size = below_4 (drop 20 bytes) (bytes_drop 20 bytes each);
}

pub head_again : (head : Head) (rest : List ℕ) → HeadFits head → head_at (head_bytes head ++ rest) ≡ head
unfolding head_bytes
head_again head rest fits =
    let ledger = again_8 head.ledger (to_be_bytes w64 head.entry ++ (to_be_bytes w32 head.at ++ (to_be_bytes w32 head.size ++ rest))) fits.ledger in
    let entry = again_8 head.entry (to_be_bytes w32 head.at ++ (to_be_bytes w32 head.size ++ rest)) fits.entry in
    let at = again_4 head.at (to_be_bytes w32 head.size ++ rest) fits.at in
    let size = again_4 head.size rest fits.size in
    λ i. record { ledger = ledger i; entry = entry i; at = at i; size = size i }

-- heads that are read
pub heads_cut : (count : ℕ) (bytes : List ℕ) → IsBytes bytes → length bytes ≡ 24 * count → flat_map head_bytes (heads_in count bytes) ≡ bytes
unfolding heads_in
heads_cut zero bytes each long = sym (nil_from_length bytes (omega (arith, long)))
heads_cut (suc count) bytes each long =
    let rest = heads_cut count (drop 24 bytes) (bytes_drop 24 bytes each) (omega (arith, length-drop 24 bytes, long)) in
    ap (λ (b : List ℕ). head_bytes (head_at bytes) ++ b) rest ∙ sym (head_cut bytes each (omega (arith, long)))

pub heads_in_fit : (count : ℕ) (bytes : List ℕ) → IsBytes bytes → AllByRecursion HeadFits (heads_in count bytes)
unfolding heads_in
heads_in_fit zero bytes each = tt
heads_in_fit (suc count) bytes each = (head_fits bytes each, heads_in_fit count (drop 24 bytes) (bytes_drop 24 bytes each))

pub length-heads_in : (count : ℕ) (bytes : List ℕ) → length (heads_in count bytes) ≡ count
unfolding heads_in
length-heads_in zero bytes = refl
length-heads_in (suc count) bytes = ap suc (length-heads_in count (drop 24 bytes))

-- equal bytes are of equal heads
pub same_heads : (heads others : List Head) → AllByRecursion HeadFits heads → AllByRecursion HeadFits others
    → flat_map head_bytes heads ≡ flat_map head_bytes others → heads ≡ others
same_heads [] [] fit fit_others is = refl
same_heads [] (other ∷ others) fit fit_others is = absurd (omega (arith, ap length is, length-heads (other ∷ others)))
same_heads (head ∷ heads) [] fit fit_others is = absurd (omega (arith, ap length is, length-heads (head ∷ heads)))
same_heads (head ∷ heads) (other ∷ others) fit fit_others is =
    let first : head ≡ other = sym (head_again head (flat_map head_bytes heads) fit.0) ∙ ap head_at is ∙ head_again other (flat_map head_bytes others) fit_others.0 in
    let behind : flat_map head_bytes heads ≡ flat_map head_bytes others =
    sym (drop_at (head_bytes head) (flat_map head_bytes heads) 24 (length-head_bytes head)) ∙ ap (drop 24) is
    ∙ drop_at (head_bytes other) (flat_map head_bytes others) 24 (length-head_bytes other) in
    let rest = same_heads heads others fit.1 fit_others.1 behind in
    λ i. first i ∷ rest i

-- ---- steps

pub length-steps : (steps : List ℕ) → length (flat_map step_bytes steps) ≡ 4 * length steps
length-steps [] = refl
length-steps (step ∷ steps) = omega (arith, length-append (step_bytes step) (flat_map step_bytes steps), length-steps steps)

pub steps_cut : (count : ℕ) (bytes : List ℕ) → IsBytes bytes → length bytes ≡ 4 * count → flat_map step_bytes (steps_in count bytes) ≡ bytes
unfolding steps_in
steps_cut zero bytes each long = sym (nil_from_length bytes (omega (arith, long)))
steps_cut (suc count) bytes each long =
    let rest = steps_cut count (drop 4 bytes) (bytes_drop 4 bytes each) (omega (arith, length-drop 4 bytes, long)) in
    ap (λ (b : List ℕ). step_bytes (from_be_bytes w32 bytes) ++ b) rest ∙ sym (cut_4 bytes each (omega (arith, long)))

pub steps_in_fit : (count : ℕ) (bytes : List ℕ) → IsBytes bytes → AllByRecursion StepFits (steps_in count bytes)
unfolding steps_in
steps_in_fit zero bytes each = tt
steps_in_fit (suc count) bytes each = (below_4 bytes each, steps_in_fit count (drop 4 bytes) (bytes_drop 4 bytes each))

pub length-steps_in : (count : ℕ) (bytes : List ℕ) → length (steps_in count bytes) ≡ count
unfolding steps_in
length-steps_in zero bytes = refl
length-steps_in (suc count) bytes = ap suc (length-steps_in count (drop 4 bytes))

pub same_steps : (steps others : List ℕ) → AllByRecursion StepFits steps → AllByRecursion StepFits others → flat_map step_bytes steps ≡ flat_map step_bytes others
    → steps ≡ others
same_steps [] [] fit fit_others is = refl
same_steps [] (other ∷ others) fit fit_others is = absurd (omega (arith, ap length is, length-steps (other ∷ others)))
same_steps (step ∷ steps) [] fit fit_others is = absurd (omega (arith, ap length is, length-steps (step ∷ steps)))
same_steps (step ∷ steps) (other ∷ others) fit fit_others is =
    let first : step ≡ other = sym (again_4 step (flat_map step_bytes steps) fit.0) ∙ ap (from_be_bytes w32) is ∙ again_4 other (flat_map step_bytes others) fit_others.0 in
    let behind : flat_map step_bytes steps ≡ flat_map step_bytes others =
    sym (drop_at (step_bytes step) (flat_map step_bytes steps) 4 refl) ∙ ap (drop 4) is ∙ drop_at (step_bytes other) (flat_map step_bytes others) 4 refl in
    let rest = same_steps steps others fit.1 fit_others.1 behind in
    λ i. first i ∷ rest i
