-- Lists without repetition, and look-up of a ledger among pairs.
use Rattle.std.proofs.Common.{◌≡◌, ℕ, true, cond, List, [], ◌∷◌, ◌++◌, Some, None, sym, ap, ◌∙◌, inl, inr}
use Rattle.std.specs.Ordering.{nat_cmp, eq_by_cmp}
use Rattle.std.specs.Cmp.{unsigned_tied}
use Rattle.std.specs.FinMap.{find}
use Rattle.std.proofs.lemmas.Bool.{cases_Bool, both_ways, eqb-true, eq-eqb}
use Rattle.std.proofs.lemmas.List.{map-append}
use Rattle.std.proofs.lemmas.Option.{none-some}
use Rattle.bk_record.specs.Files.{In}
use Rattle.bk_record.proofs.Growth.{In-append_left, In-append_right, In-push_cases}
use Rattle.bk_head.specs.Ledgers.{ledgers_of, AreDistinct}

-- appending an element that is not in the list
pub AreDistinct-push : (xs : List ℕ) (y : ℕ) → AreDistinct xs → ¬ (In y xs) → AreDistinct (xs ++ y ∷ [])
AreDistinct-push [] y d fresh = ((λ h. h), tt)
AreDistinct-push (x ∷ xs) y d fresh =
    ((λ h. elim (In-push_cases x y xs h) [ inl g ↦ d.0 g | inr e ↦ fresh (inl (sym e)) ]), AreDistinct-push xs y d.1 (λ h. fresh (inr h)))

pub AreDistinct-front : (xs ys : List ℕ) → AreDistinct (xs ++ ys) → AreDistinct xs
AreDistinct-front [] ys d = tt
AreDistinct-front (x ∷ xs) ys d = ((λ h. d.0 (In-append_left x xs ys h)), AreDistinct-front xs ys d.1)

-- an element after others of a distinct list is not among them
pub AreDistinct-apart : (xs : List ℕ) (y : ℕ) (ys : List ℕ) → AreDistinct (xs ++ y ∷ ys) → ¬ (In y xs)
AreDistinct-apart [] y ys d h = h
AreDistinct-apart (x ∷ xs) y ys d (inl e) = d.0 (In-append_right x xs (y ∷ ys) (inl (sym e)))
AreDistinct-apart (x ∷ xs) y ys d (inr h) = AreDistinct-apart xs y ys d.1 h

pub ledgers_of-append : (ps qs : List (ℕ × ℕ)) → ledgers_of (ps ++ qs) ≡ ledgers_of ps ++ ledgers_of qs
ledgers_of-append ps qs = map-append (λ p. p.0) ps qs

pub tied : (q k : ℕ) → eq_by_cmp nat_cmp q k ≡ true → q ≡ k
tied q k e = eqb-true q k (sym (unsigned_tied q k) ∙ e)

pub tied_itself : (q k : ℕ) → k ≡ q → eq_by_cmp nat_cmp q k ≡ true
tied_itself q k e = unsigned_tied q k ∙ eq-eqb q k (sym e)

-- a ledger is found exactly if it is in the list
pub In-from_find : (q : ℕ) (ps : List (ℕ × ℕ)) (v : ℕ) → find nat_cmp q ps ≡ Some v → In q (ledgers_of ps)
In-from_find q [] v e = absurd (none-some v e)
In-from_find q (p ∷ ps) v e =
    elim (cases_Bool (eq_by_cmp nat_cmp q p.0)) [
      | inl y ↦ inl (sym (tied q p.0 y))
      | inr n ↦ inr (In-from_find q ps v (ap (λ b. cond b (Some p.1) (find nat_cmp q ps)) (sym n) ∙ e))
    ]

pub find_none : (q : ℕ) (ps : List (ℕ × ℕ)) → find nat_cmp q ps ≡ None → ¬ (In q (ledgers_of ps))
find_none q [] e h = h
find_none q (p ∷ ps) e h =
    elim (cases_Bool (eq_by_cmp nat_cmp q p.0)) [
      | inl y ↦ none-some p.1 (sym e ∙ ap (λ b. cond b (Some p.1) (find nat_cmp q ps)) y)
      | inr n ↦ elim h [
        | inl same ↦ both_ways _ n (tied_itself q p.0 same)
        | inr g ↦ find_none q ps (ap (λ b. cond b (Some p.1) (find nat_cmp q ps)) (sym n) ∙ e) g
      ]
    ]
