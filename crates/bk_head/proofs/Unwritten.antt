-- Writing a map pair by pair: the bytes written and those still to be written are the whole.
use Rattle.std.proofs.Common.{◌≡◌, ℕ, zero, suc, ◌+◌, ◌-◌, ◌*◌, ◌<◌, ◌≤◌, min, List, [], ◌∷◌, ◌++◌, length, take, drop, inl, inr}
use Rattle.std.proofs.Common.{refl, sym, ap, subst, ◌∙◌, append_assoc, arith}
use Rattle.std.specs.Int.{w32, to_be_bytes}
use Rattle.std.specs.List.{flat_map}
use Rattle.std.proofs.lemmas.Bool.{cases_lt}
use Rattle.std.proofs.lemmas.List.{length-append, length-take, length-drop, take-append-drop, take_all, drop_all, take_min, drop_min, append-nil}
use Rattle.bk_record.specs.Record.{record_of}
use Rattle.bk_head.specs.Ledgers.{batch_ids, pair_bytes, batch_payload, batch_of}
use Rattle.bk_head.specs.Written.{batch_pairs, written_pairs, AreWritten}
use Rattle.bk_head.specs.Parts.{batch_head}
use Rattle.bk_head.proofs.Spelling.{written_pairs-cons, written_pairs-nil, length-batch_payload}

-- bytes of the remaining pairs, while the current batch has room for `room` more
abbrev pub unwritten : ℕ → List (ℕ × ℕ) → List ℕ
unwritten room ps = flat_map pair_bytes (take room ps) ++ written_pairs (drop room ps)

pub batch_of-head : (ps : List (ℕ × ℕ)) → batch_of ps ≡ batch_head (length ps) ++ flat_map pair_bytes ps
unfolding record_of batch_head batch_payload
batch_of-head ps =
    ap (λ (n : ℕ). to_be_bytes w32 n ++ (batch_ids ++ to_be_bytes w32 (length ps) ++ flat_map pair_bytes ps)) (length-batch_payload ps)
    ∙ sym (append_assoc (to_be_bytes w32 (20 + 16 * length ps)) (batch_ids ++ to_be_bytes w32 (length ps)) (flat_map pair_bytes ps))

-- beginning a batch
pub unwritten-begin : (p : ℕ × ℕ) (ps : List (ℕ × ℕ)) (n : ℕ) → n ≡ min (length (p ∷ ps)) batch_pairs → unwritten 0 (p ∷ ps)
    ≡ batch_head n ++ unwritten n (p ∷ ps)
unwritten-begin p ps n is =
    let front = take batch_pairs (p ∷ ps) in
    let rest = drop batch_pairs (p ∷ ps) in
    let few : n ≡ min batch_pairs (length (p ∷ ps)) = omega (arith, is) in
    let front-is : front ≡ take n (p ∷ ps) = sym (take_min batch_pairs (p ∷ ps)) ∙ ap (λ (k : ℕ). take k (p ∷ ps)) (sym few) in
    let rest-is : rest ≡ drop n (p ∷ ps) = sym (drop_min batch_pairs (p ∷ ps)) ∙ ap (λ (k : ℕ). drop k (p ∷ ps)) (sym few) in
    let count : length front ≡ n = length-take batch_pairs (p ∷ ps) ∙ sym few in
    written_pairs-cons p ps
    ∙ ap (λ (x : List ℕ). x ++ written_pairs rest) (batch_of-head front ∙ ap (λ (k : ℕ). batch_head k ++ flat_map pair_bytes front) count)
    ∙ append_assoc (batch_head n) (flat_map pair_bytes front) (written_pairs rest)
    ∙ ap (λ (x : List (ℕ × ℕ)). batch_head n ++ (flat_map pair_bytes x ++ written_pairs rest)) front-is
    ∙ ap (λ (x : List (ℕ × ℕ)). batch_head n ++ (flat_map pair_bytes (take n (p ∷ ps)) ++ written_pairs x)) rest-is

-- writing a pair
pub unwritten-pair : (room : ℕ) (p : ℕ × ℕ) (ps : List (ℕ × ℕ)) → unwritten (suc room) (p ∷ ps) ≡ pair_bytes p ++ unwritten room ps
unwritten-pair room p ps = append_assoc (pair_bytes p) (flat_map pair_bytes (take room ps)) (written_pairs (drop room ps))

-- ---- the written form as a relation

written_as : (ps qs : List (ℕ × ℕ)) (x y : List ℕ) → ps ≡ qs → x ≡ y → AreWritten ps x → AreWritten qs y
written_as ps qs x y same-pairs same-bytes h = subst (λ (z : List ℕ). AreWritten qs z) same-bytes (subst (λ (z : List (ℕ × ℕ)). AreWritten z x) same-pairs h)

pub are_written : (m : ℕ) (ps : List (ℕ × ℕ)) → length ps ≤ m → AreWritten ps (written_pairs ps)
are_written m [] few = subst (λ (x : List ℕ). AreWritten [] x) (sym written_pairs-nil) AreWritten.none
are_written zero (p ∷ ps) few = absurd (omega arith)
are_written (suc m) (p ∷ ps) few =
    let front = take batch_pairs (p ∷ ps) in
    let rest = drop batch_pairs (p ∷ ps) in
    let long : length front ≡ min batch_pairs (length (p ∷ ps)) = length-take batch_pairs (p ∷ ps) in
    let left : length rest ≡ length (p ∷ ps) - batch_pairs = length-drop batch_pairs (p ∷ ps) in
    elim (cases_lt batch_pairs (length (p ∷ ps))) [
      | inl many ↦
          written_as (front ++ rest) (p ∷ ps) (batch_of front ++ written_pairs rest) (written_pairs (p ∷ ps)) (take-append-drop batch_pairs (p ∷ ps))
          (sym (written_pairs-cons p ps))
          (AreWritten.full front (omega (arith, long)) (omega (arith, left)) (are_written m rest (omega (arith, left))))
      | inr few' ↦
          let nothing : rest ≡ [] = drop_all batch_pairs (p ∷ ps) few' in
          let all : front ≡ p ∷ ps = take_all batch_pairs (p ∷ ps) few' in
          let bytes : written_pairs (p ∷ ps) ≡ batch_of (p ∷ ps) =
          written_pairs-cons p ps ∙ ap (λ (x : List (ℕ × ℕ)). batch_of front ++ written_pairs x) nothing
          ∙ ap (λ (x : List ℕ). batch_of front ++ x) written_pairs-nil ∙ append-nil (batch_of front) ∙ ap (λ (x : List (ℕ × ℕ)). batch_of x) all in
          written_as (p ∷ ps) (p ∷ ps) (batch_of (p ∷ ps)) (written_pairs (p ∷ ps)) refl (sym bytes) (AreWritten.last (p ∷ ps) (omega arith) few')
    ]

-- ---- the loop

-- loop invariant: the bytes written, the room of the current batch, and the remaining pairs
pub record Goes (out old : List ℕ) (room left : ℕ) (rest all : List (ℕ × ℕ)) : Type 0 where
  pub whole : out ++ unwritten room rest ≡ old ++ written_pairs all
  pub left_is : left ≡ length rest
  pub within : room ≤ left

pub goes_start : (out old : List ℕ) (left : ℕ) (rest all : List (ℕ × ℕ)) → out ≡ old → left ≡ length all → rest ≡ all → Goes out old 0 left rest all
goes_start out old left rest all same many is =
    record {
      whole = ap (λ (x : List ℕ). x ++ written_pairs rest) same ∙ ap (λ (x : List (ℕ × ℕ)). old ++ written_pairs x) is;
      left_is = many
          ∙ sym (ap length is);
      within = omega arith;
    }

pub goes_begin : (out old : List ℕ) (left n : ℕ) (p : ℕ × ℕ) (rest ps all : List (ℕ × ℕ)) → rest ≡ p ∷ ps → n ≡ min left batch_pairs
    → Goes out old 0 left rest all
    → Goes (out ++ batch_head n) old n left rest all × (0 < n)
goes_begin out old left n p rest ps all is few g =
    let many : left ≡ length (p ∷ ps) = g.left_is ∙ ap length is in
    let begun : unwritten 0 rest ≡ batch_head n ++ unwritten n rest =
    subst (λ (x : List (ℕ × ℕ)). unwritten 0 x ≡ batch_head n ++ unwritten n x) (sym is)
    (unwritten-begin p ps n (few ∙ ap (λ (k : ℕ). min k batch_pairs) many)) in (
      record {
        whole = append_assoc out (batch_head n) (unwritten n rest) ∙ ap (λ (x : List ℕ). out ++ x) (sym begun)
            ∙ g.whole;
        left_is = g.left_is;
        within = omega (arith, few);
      },
      omega (arith, few, many),
    )

pub goes_pair : (out old : List ℕ) (room left : ℕ) (p : ℕ × ℕ) (rest ps all : List (ℕ × ℕ)) → rest ≡ p ∷ ps → 0 < room
    → Goes out old room left rest all → Goes (out ++ pair_bytes p) old (room - 1) (left - 1) ps all
goes_pair out old room left p rest ps all is some g =
    let one : room ≡ suc (room - 1) = omega arith in
    let next : unwritten room rest ≡ pair_bytes p ++ unwritten (room - 1) ps =
    ap (λ (x : List (ℕ × ℕ)). unwritten room x) is ∙ ap (λ (k : ℕ). unwritten k (p ∷ ps)) one ∙ unwritten-pair (room - 1) p ps in
    record {
      whole = append_assoc out (pair_bytes p) (unwritten (room - 1) ps) ∙ ap (λ (x : List ℕ). out ++ x) (sym next) ∙ g.whole;
      left_is = omega (arith, g.left_is, ap length is);
      within = omega (arith, g.within);
    }

pub goes_end : (out old : List ℕ) (room left : ℕ) (rest all : List (ℕ × ℕ)) → rest ≡ [] → Goes out old room left rest all → out ≡ old ++ written_pairs all
goes_end out old room left rest all is g =
    let none : room ≡ 0 = omega (arith, g.within, g.left_is, ap length is) in
    let nothing : unwritten room rest ≡ [] = ap (λ (k : ℕ). unwritten k rest) none ∙ ap (λ (x : List (ℕ × ℕ)). written_pairs x) is ∙ written_pairs-nil in
    sym (append-nil out) ∙ ap (λ (x : List ℕ). out ++ x) (sym nothing) ∙ g.whole

-- the bytes written and those still to be written have the length of the written form
whole_length : (out old : List ℕ) (room left : ℕ) (rest all : List (ℕ × ℕ)) → Goes out old room left rest all
    → length out + length (unwritten room rest) ≡ length old + length (written_pairs all)
whole_length out old room left rest all g = omega (arith, ap length g.whole, length-append out (unwritten room rest), length-append old (written_pairs all))

pub room_for_head : (out old : List ℕ) (left n : ℕ) (p : ℕ × ℕ) (rest ps all : List (ℕ × ℕ)) → rest ≡ p ∷ ps → n ≡ min left batch_pairs
    → Goes out old 0 left rest all
    → length out + length (batch_head n) ≤ length old + length (written_pairs all)
room_for_head out old left n p rest ps all is few g =
    let after = (goes_begin out old left n p rest ps all is few g).0 in
    omega (arith, whole_length (out ++ batch_head n) old n left rest all after, length-append out (batch_head n))

pub room_for_pair : (out old : List ℕ) (room left : ℕ) (p : ℕ × ℕ) (rest ps all : List (ℕ × ℕ)) → rest ≡ p ∷ ps → 0 < room → Goes out old room left rest all
    → length out + length (pair_bytes p) ≤ length old + length (written_pairs all)
room_for_pair out old room left p rest ps all is some g =
    let after = goes_pair out old room left p rest ps all is some g in
    omega (arith, whole_length (out ++ pair_bytes p) old (room - 1) (left - 1) ps all after, length-append out (pair_bytes p))

-- the same after a batch has begun, with room for the rest of the map
pub record Wants (out old : List ℕ) (room left : ℕ) (rest all : List (ℕ × ℕ)) (capacity : ℕ) : Type 0 where
  pub goes : Goes out old room left rest all
  pub some : 0 < room
  pub fits : length old + length (written_pairs all) ≤ capacity

pub wants_begun : (out old now head : List ℕ) (room left n : ℕ) (p : ℕ × ℕ) (rest ps all : List (ℕ × ℕ)) (capacity : ℕ) → rest ≡ p ∷ ps → room ≡ 0
    → n ≡ min left batch_pairs
    → Goes out old room left rest all → now ≡ out ++ head → head ≡ batch_head n → length old + length (written_pairs all) ≤ capacity
    → Wants now old n left rest all capacity
wants_begun out old now head room left n p rest ps all capacity is none few g now-is head-is fits =
    let begun = goes_begin out old left n p rest ps all is few (subst (λ (k : ℕ). Goes out old k left rest all) none g) in
    let same : out ++ batch_head n ≡ now = ap (λ (x : List ℕ). out ++ x) (sym head-is) ∙ sym now-is in
    record { goes = subst (λ (x : List ℕ). Goes x old n left rest all) same begun.0; some = begun.1; fits = fits }

pub head_fits : (out old head : List ℕ) (room left n : ℕ) (p : ℕ × ℕ) (rest ps all : List (ℕ × ℕ)) (capacity : ℕ) → rest ≡ p ∷ ps → room ≡ 0 → n
    ≡ min left batch_pairs
    → Goes out old room left rest all → head ≡ batch_head n → length old + length (written_pairs all) ≤ capacity → length out + length head ≤ capacity
head_fits out old head room left n p rest ps all capacity is none few g head-is fits =
    omega (arith, room_for_head out old left n p rest ps all is few (subst (λ (k : ℕ). Goes out old k left rest all) none g), ap length head-is)

pub pair_fits : (out old pair : List ℕ) (room left : ℕ) (p : ℕ × ℕ) (rest ps all : List (ℕ × ℕ)) (capacity : ℕ) → rest ≡ p ∷ ps
    → Wants out old room left rest all capacity → pair ≡ pair_bytes p
    → length out + length pair ≤ capacity
pair_fits out old pair room left p rest ps all capacity is w pair-is =
    omega (arith, room_for_pair out old room left p rest ps all is w.some w.goes, ap length pair-is, w.fits)

pub wants_pair : (out old now pair : List ℕ) (room left : ℕ) (p : ℕ × ℕ) (rest ps all : List (ℕ × ℕ)) (capacity : ℕ) → rest ≡ p ∷ ps
    → Wants out old room left rest all capacity → now ≡ out ++ pair → pair ≡ pair_bytes p
    → Goes now old (room - 1) (left - 1) ps all
wants_pair out old now pair room left p rest ps all capacity is w now-is pair-is =
    let same : out ++ pair_bytes p ≡ now = ap (λ (x : List ℕ). out ++ x) (sym pair-is) ∙ sym now-is in
    subst (λ (x : List ℕ). Goes x old (room - 1) (left - 1) ps all) same (goes_pair out old room left p rest ps all is w.some w.goes)
