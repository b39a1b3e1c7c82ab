-- There is one piece at each position.
use Rattle.std.proofs.Common.{◌≡◌, ℕ, ◌+◌, ◌≤◌, ℤ, pos, ◌<ℤ◌, List, [], length, take, drop, IsSome, IsNone, refl, sym, ap, ◌∙◌, subst, arith}
use Rattle.std.proofs.lemmas.List.{take_at}
use Rattle.bk_record.specs.Record.{length_field, signed_field, key_of}
use Rattle.bk_record.specs.Body.{IsTorn}
use Rattle.bk_record.specs.Body.IsTorn.{short, cut}
use Rattle.bk_record.specs.Piece.{BeginsWith, IsPieceAt}
use Rattle.bk_record.specs.declared.piece.Piece.{Piece}
use Rattle.bk_record.specs.declared.piece.Piece.TheVariants.{Whole, Foreign, Torn, Bad, End}
use Rattle.bk_record.proofs.Records.{Starts, starts_only, starts-record_of, length_field-record_of, drop_field}
use Rattle.bk_record.proofs.Spellings.{not_below}

-- a length below 16 in the first four bytes
record Low (left : List ℕ) (value : ℤ) : Type 0 where
  four : 4 ≤ length left
  value_is : value ≡ signed_field left
  below : value <ℤ pos 16

low : (left : List ℕ) (value : ℤ) → (4 ≤ length left) × ((value ≡ signed_field left) × (value <ℤ pos 16)) → Low left value
low left value is = record { four = is.0; value_is = is.1.0; below = is.1.1 }

module _ (left : List ℕ) where
  begins-starts : (payload : List ℕ) → BeginsWith left payload → Starts left
  begins-starts payload b = subst Starts (sym b.is) (starts_only _ (starts-record_of payload b.behind b.legal))

  -- the payload is the part that the length field delimits
  begins-payload : (payload : List ℕ) → BeginsWith left payload → payload ≡ take (length_field left) (drop 4 left)
  begins-payload payload b =
      let field : length_field left ≡ length payload = ap length_field b.is ∙ length_field-record_of payload b.behind (omega (arith, b.legal.1)) in
      sym (ap (λ (n : ℕ). take n (drop 4 left)) field ∙ ap (λ (l : List ℕ). take (length payload) (drop 4 l)) b.is
      ∙ ap (take (length payload)) (drop_field payload b.behind) ∙ take_at payload b.behind (length payload) refl)

  one_payload : (p q : List ℕ) → BeginsWith left p → BeginsWith left q → p ≡ q
  one_payload p q b c = begins-payload p b ∙ sym (begins-payload q c)

  whole_torn : (p : List ℕ) → BeginsWith left p → IsTorn left → ⊥
  whole_torn p b t = torn_starts t (begins-starts p b)
    where
      torn_starts : IsTorn left → Starts left → ⊥
      torn_starts (short some less) s = omega (arith, s.field)
      torn_starts (cut four least most less) s = omega (arith, s.whole)

  whole_low : (p : List ℕ) (value : ℤ) → BeginsWith left p → Low left value → ⊥
  whole_low p value b l =
      let s = begins-starts p b in not_below left s.least s.most (subst (λ (v : ℤ). v <ℤ pos 16) l.value_is l.below)

  whole_end : (p : List ℕ) → BeginsWith left p → left ≡ [] → ⊥
  whole_end p b none = let s = begins-starts p b in omega (arith, s.field, ap length none)

  torn_low : (value : ℤ) → IsTorn left → Low left value → ⊥
  torn_low value (short some less) l = omega (arith, l.four)
  torn_low value (cut four least most less) l = not_below left least most (subst (λ (v : ℤ). v <ℤ pos 16) l.value_is l.below)

  torn_end : IsTorn left → left ≡ [] → ⊥
  torn_end (short some less) none = omega (arith, ap length none)
  torn_end (cut four least most less) none = omega (arith, ap length none)

  low_end : (value : ℤ) → Low left value → left ≡ [] → ⊥
  low_end value l none = omega (arith, l.four, ap length none)

  some_none : (p q : List ℕ) → BeginsWith left p → BeginsWith left q → IsSome (key_of p) → IsNone (key_of q) → ⊥
  some_none p q b c some none = let same = ap key_of (one_payload p q b c) in cc

pub one_piece : (bytes : List ℕ) (at : ℕ) (first second : Piece) → IsPieceAt bytes at first → IsPieceAt bytes at second → first ≡ second
one_piece bytes at (Whole f t) (Whole g u) a b =
    let same = one_payload _ _ _ a.1.0 b.1.0 in
    let from : f ≡ g = a.1.1.1.0 ∙ sym b.1.1.1.0 in
    let to : t ≡ u = a.1.1.1.1 ∙ ap (λ (p : List ℕ). at + 4 + length p) same ∙ sym b.1.1.1.1 in
    λ i. Whole (from i) (to i)
one_piece bytes at (Foreign t) (Foreign u) a b =
    ap Foreign (a.1.1.1 ∙ ap (λ (p : List ℕ). at + 4 + length p) (one_payload _ _ _ a.1.0 b.1.0) ∙ sym b.1.1.1)
one_piece bytes at (Torn n) (Torn m) a b = ap Torn (a.1 ∙ sym b.1)
one_piece bytes at (Bad p v) (Bad q w) a b =
    let place : p ≡ q = a.0 ∙ sym b.0 in
    let value : v ≡ w = a.1.1.0 ∙ sym b.1.1.0 in
    λ i. Bad (place i) (value i)
one_piece bytes at End End a b = refl
one_piece bytes at (Whole f t) (Foreign u) a b = absurd (some_none _ _ _ a.1.0 b.1.0 a.1.1.0 b.1.1.0)
one_piece bytes at (Whole f t) (Torn m) a b = absurd (whole_torn _ _ a.1.0 b.0)
one_piece bytes at (Whole f t) (Bad q w) a b = absurd (whole_low _ _ _ a.1.0 (low _ _ b.1))
one_piece bytes at (Whole f t) End a b = absurd (whole_end _ _ a.1.0 b)
one_piece bytes at (Foreign t) (Whole g u) a b = absurd (some_none _ _ _ b.1.0 a.1.0 b.1.1.0 a.1.1.0)
one_piece bytes at (Foreign t) (Torn m) a b = absurd (whole_torn _ _ a.1.0 b.0)
one_piece bytes at (Foreign t) (Bad q w) a b = absurd (whole_low _ _ _ a.1.0 (low _ _ b.1))
one_piece bytes at (Foreign t) End a b = absurd (whole_end _ _ a.1.0 b)
one_piece bytes at (Torn n) (Whole g u) a b = absurd (whole_torn _ _ b.1.0 a.0)
one_piece bytes at (Torn n) (Foreign u) a b = absurd (whole_torn _ _ b.1.0 a.0)
one_piece bytes at (Torn n) (Bad q w) a b = absurd (torn_low _ _ a.0 (low _ _ b.1))
one_piece bytes at (Torn n) End a b = absurd (torn_end _ a.0 b)
one_piece bytes at (Bad p v) (Whole g u) a b = absurd (whole_low _ _ _ b.1.0 (low _ _ a.1))
one_piece bytes at (Bad p v) (Foreign u) a b = absurd (whole_low _ _ _ b.1.0 (low _ _ a.1))
one_piece bytes at (Bad p v) (Torn m) a b = absurd (torn_low _ _ b.0 (low _ _ a.1))
one_piece bytes at (Bad p v) End a b = absurd (low_end _ _ (low _ _ a.1) b)
one_piece bytes at End (Whole g u) a b = absurd (whole_end _ _ b.1.0 a)
one_piece bytes at End (Foreign u) a b = absurd (whole_end _ _ b.1.0 a)
one_piece bytes at End (Torn m) a b = absurd (torn_end _ b.0 a)
one_piece bytes at End (Bad q w) a b = absurd (low_end _ _ (low _ _ b.1) a)
