-- The answer of a close, read off the word that its step found.
use Rattle.std.proofs.Common.{◌≡◌, ◌≢◌, ℕ, ◌%◌, ◌^◌, Bool, true, false, if◌then◌else◌, eqb, Result, Ok, Err, refl, sym, ap, ◌∙◌, subst, eq-eqb, ne_eqb}
use mathlib.Core.Logic.{dite}
use mathlib.Core.Option.{none}
use native.Mathlib.Decide.{ℕ_discrete}
use Rattle.atomic_table.specs.Table.{step}
use Rattle.bk_lease.specs.Leases.{open_word, closed_word}
use Rattle.bk_lease.specs.Steps.{SeatView, close_made, close_result, close_step}

-- the answer if the test for the word without leases is `b`
by_test : ℕ → Bool → Result (Unit {0}) ℕ
by_test found b = if b then Ok tt else Err (found % 2 ^ 32)

pub result_closed : (log found : ℕ) → found ≡ open_word log 0 → Ok tt ≡ close_result log found
unfolding by_test
result_closed log found hit = ap (by_test found) (sym (eq-eqb found (open_word log 0) hit))

pub result_leased : (log found count : ℕ) → found ≢ open_word log 0 → count ≡ found % 2 ^ 32 → Err count ≡ close_result log found
unfolding by_test
result_leased log found count miss read = ap Err read ∙ ap (by_test found) (sym (ne_eqb found (open_word log 0) miss))

closed_test : (b : Bool) (found : ℕ) → Ok tt ≡ by_test found b → b ≡ true
unfolding by_test
closed_test true found told = refl
closed_test false found told = cc

leased_test : (b : Bool) (found count : ℕ) → Err count ≡ by_test found b → (b ≡ false) × (count ≡ found % 2 ^ 32)
unfolding by_test
leased_test true found count told = cc
leased_test false found count told = let same : count ≡ found % 2 ^ 32 = cc in (refl, same)

not_both : (b : Bool) → b ≡ true → b ≡ false → ⊥
not_both b one other = cc

pub closed_found : (log found : ℕ) → Ok tt ≡ close_result log found → found ≡ open_word log 0
unfolding by_test
closed_found log found told = dite (ℕ_discrete found (open_word log 0)) (λ hit. hit)
    (λ miss. absurd (not_both (eqb found (open_word log 0)) (closed_test (eqb found (open_word log 0)) found told) (ne_eqb found (open_word log 0) miss)))

pub leased_found : (log found count : ℕ) → Err count ≡ close_result log found → (found ≢ open_word log 0) × (count ≡ found % 2 ^ 32)
unfolding by_test
leased_found log found count told = let test = leased_test (eqb found (open_word log 0)) found count told in
    (λ hit. not_both (eqb found (open_word log 0)) (eq-eqb found (open_word log 0) hit) test.0, test.1)

-- the operation, with words that were computed
pub close_by : (slots i log old new found : ℕ) (me me' : SeatView) → old ≡ open_word log 0 → new ≡ closed_word log
    → close_step (step slots i old new none) me found me' → close_step (close_made slots i log) me found me'
close_by slots i log old new found me me' asked stored is =
    subst (λ (z : ℕ × ℕ). close_step (step slots i z.0 z.1 none) me found me') (λ j. (asked j, stored j)) is
