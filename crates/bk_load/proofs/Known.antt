-- Consequence of `unknown` being 0: every entry has a receipt.
use Rattle.std.proofs.Common.{◌≡◌, ℕ, ◌+◌, ◌≤◌, Bool, true, false, not, ◌&&◌, cond, nat_lt, List, [], ◌∷◌, refl, arith}
use Rattle.std.specs.List.{All, Contains, count_by}
use Rattle.std.specs.BTreeSet.{BTreeSet, IsFromIterResult, contains}
use Rattle.std.specs.FinMap as finite
use Rattle.std.proofs.lemmas.List.Elements.{All-nil, All-cons}
use Rattle.std.proofs.lemmas.List.Sums.{sum_by-cons}
use Rattle.std.proofs.lemmas.Map.Views.{btree_set_contains_from_list}
use Rattle.bk_record.specs.Key.{EntryKey, key_cmp}
use Rattle.bk_record.specs.Keyed.{Places}
use Rattle.bk_record.proofs.Keys.{key_cmp_total, key_cmp_antisymmetric}
use Rattle.bk_store.proofs.Ledgers.{below_false}
use Rattle.bk_store.specs.declared.mark.Receipt.{Receipt}
use Rattle.bk_load.specs.Known.{keys_of, AreKnown}

unset : (b : Bool) (n : ℕ) → cond b 1 0 + n ≡ 0 → b ≡ false
unset true n none = absurd (omega (arith, none))
unset false n none = refl

-- If the count is 0, no element passes the test.
none_counted : {X : Type 0} (p : X → Bool) (P : X → Type 0) → ((x : X) → p x ≡ false → P x) → (xs : List X) → count_by p xs ≡ 0 → All P xs
none_counted p P holds [] none = All-nil P
none_counted p P holds (x ∷ xs) none =
    let parts = sum_by-cons (λ y. cond (p y) 1 0) x xs in
    All-cons P x xs (holds x (unset (p x) (count_by p xs) (omega (arith, parts, none)))) (none_counted p P holds xs (omega (arith, parts, none)))

passed : (a b : Bool) → (not a && not b) ≡ false → a ≡ false → b ≡ true
passed a true is above = refl
passed true false is above = cc
passed false false is above = cc

pub known : (first : ℕ) (receipts : List Receipt) (index : Places) (keys : BTreeSet EntryKey) → IsFromIterResult key_cmp (keys_of receipts) keys
    → count_by (λ e. not (nat_lt e.0.ledger first) && not (contains key_cmp keys e.0)) (finite.entries index) ≡ 0 → AreKnown first receipts index
known first receipts index keys made none =
    none_counted (λ e. not (nat_lt e.0.ledger first) && not (contains key_cmp keys e.0)) (λ e. first ≤ e.0.ledger → Contains (keys_of receipts) e.0)
    (λ e is above. (btree_set_contains_from_list key_cmp_total key_cmp_antisymmetric (keys_of receipts) keys made e.0).0
    (passed (nat_lt e.0.ledger first) (contains key_cmp keys e.0) is (below_false e.0.ledger first above)))
    (finite.entries index) none
