-- The order of places is strict and total, and one record is at each place.
use Rattle.std.proofs.Common.{◌≡◌, ◌⊎◌, inl, inr, ℕ, ◌+◌, List, [], ◌∷◌, ◌++◌, refl, sym, ap, ◌∙◌, subst, arith}
use Rattle.std.proofs.Math.Decide.{dec_le}
use Rattle.bk_record.specs.Location.{Place, Precedes}
use Rattle.bk_record.specs.Files.{Files, HasRecord, all_records, In}
use Rattle.bk_record.specs.Latest.{AreInOrder}
use Rattle.bk_record.proofs.Growth.{In-append_right}
use Rattle.bk_record.proofs.Orders.{all_records_in_order}
use Rattle.bk_record.proofs.Scans.{record-all}

pub same_place : (p q : Place) → p.log ≡ q.log → p.at ≡ q.at → p ≡ q
same_place p q log at = λ i. record { log = log i; at = at i }

pub precedes_not_itself : (p : Place) → Precedes p p → ⊥
precedes_not_itself p (inl less) = omega arith
precedes_not_itself p (inr later) = omega (arith, later.1)

pub precedes_trans : (p q r : Place) → Precedes p q → Precedes q r → Precedes p r
precedes_trans p q r (inl a) (inl b) = inl (omega arith)
precedes_trans p q r (inl a) (inr b) = inl (omega (arith, b.0))
precedes_trans p q r (inr a) (inl b) = inl (omega (arith, a.0))
precedes_trans p q r (inr a) (inr b) = inr (a.0 ∙ b.0, omega (arith, a.1, b.1))

pub precedes_one_way : (p q : Place) → Precedes p q → Precedes q p → ⊥
precedes_one_way p q a b = precedes_not_itself p (precedes_trans p q p a b)

-- two places are equal, or one precedes the other
pub precedes_cases : (p q : Place) → Precedes p q ⊎ ((p ≡ q) ⊎ Precedes q p)
precedes_cases p q = elim (dec_le (p.log + 1) q.log) [
  | yes less ↦ inl (inl (omega arith))
  | no not_less ↦ elim (dec_le (q.log + 1) p.log) [
    | yes more ↦ inr (inr (inl (omega arith)))
    | no not_more ↦
        let log : p.log ≡ q.log = omega arith in
        elim (dec_le (p.at + 1) q.at) [
          | yes before ↦ inl (inr (log, omega arith))
          | no not_before ↦ elim (dec_le (q.at + 1) p.at) [
            | yes behind ↦ inr (inr (inr (sym log, omega arith)))
            | no not_behind ↦ let at : p.at ≡ q.at = omega arith in inr (inl (same_place p q log at))
          ]
        ]
  ]
]

-- ---- one record at a place

one_in_order : (xs : List (Place × List ℕ)) → AreInOrder xs → (place : Place) (a b : List ℕ) → In (place, a) xs → In (place, b) xs → a ≡ b
one_in_order [] order place a b here there = absurd here
one_in_order (r ∷ xs) order place a b (inl e) (inl f) = ap (λ (x : Place × List ℕ). x.1) (sym e ∙ f)
one_in_order (r ∷ xs) order place a b (inl e) (inr later) =
    absurd (precedes_not_itself place (subst (λ (x : Place × List ℕ). Precedes x.0 place) e (order.0 place b later)))
one_in_order (r ∷ xs) order place a b (inr later) (inl f) =
    absurd (precedes_not_itself place (subst (λ (x : Place × List ℕ). Precedes x.0 place) f (order.0 place a later)))
one_in_order (r ∷ xs) order place a b (inr here) (inr there) = one_in_order xs order.1 place a b here there

pub one_record : (files : Files) (place : Place) (a b : List ℕ) → HasRecord files place a → HasRecord files place b → a ≡ b
one_record files place a b here there =
    one_in_order (all_records files) (all_records_in_order files) place a b (record-all files place a here) (record-all files place b there)

-- what is before an element of a list in order precedes it
pub before-precedes : (before behind : List (Place × List ℕ)) (place : Place) (payload : List ℕ) → AreInOrder (before ++ (place, payload) ∷ behind)
    → (other : Place) (held : List ℕ) → In (other, held) before → Precedes other place
before-precedes [] behind place payload order other held there = absurd there
before-precedes (r ∷ before) behind place payload order other held (inl e) =
    subst (λ (x : Place × List ℕ). Precedes x.0 place) e
    (order.0 place payload (In-append_right (place, payload) before ((place, payload) ∷ behind) (inl refl)))
before-precedes (r ∷ before) behind place payload order other held (inr later) = before-precedes before behind place payload order.1 other held later
