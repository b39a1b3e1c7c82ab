-- The set of a list, one ledger after another.
use Rattle.std.proofs.Common.{◌≡◌, ℕ, ◌+◌, ◌<◌, Bool, true, false, cond, ◌||◌, ◌==◌, List, [], ◌∷◌, length, arith, take, get_or, refl, sym, ap, ◌∙◌}
use Rattle.std.proofs.lemmas.List.Folds.{list_any_more}
use Rattle.std.specs.List.{list_any}
use Rattle.std.specs.Ordering.{nat_cmp}
use Rattle.std.specs.Cmp.{unsigned_tied}
use Rattle.std.specs.BTreeMap.{is_at}
use Rattle.bk_deleted.specs.Deleting.{is_among}

-- a key that passes a test is one
pub some_key : (p : ℕ → Bool) (keys : List ℕ) → list_any p keys ≡ true → 0 < length keys
some_key p [] found = cc
some_key p (key ∷ keys) found = omega arith

either : (t h : Bool) → cond t true h ≡ (h || t)
either true true = refl
either true false = refl
either false true = refl
either false false = refl

-- what an insertion makes of a ledger is whether it is among one ledger more
pub one_more : (ledgers : List ℕ) (i d ledger : ℕ) → i < length ledgers
    → (was : Bool) → was ≡ is_among (take i ledgers) ledger
    → cond (is_at (nat_cmp (get_or ledgers i d)) ledger) true was ≡ is_among (take (i + 1) ledgers) ledger
one_more ledgers i d ledger inside was before =
    either (is_at (nat_cmp (get_or ledgers i d)) ledger) was
    ∙ ap (λ b. was || b) (unsigned_tied (get_or ledgers i d) ledger)
    ∙ ap (λ b. b || (get_or ledgers i d == ledger)) before
    ∙ sym (list_any_more (λ one. one == ledger) ledgers i d inside)
