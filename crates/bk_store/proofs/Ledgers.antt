-- A set of ledgers, as the keys of a tree, and what one has of a ledger after one is added or
-- removed.
use Rattle.std.proofs.Common.{◌≡◌, ◌≢◌, ℕ, ◌+◌, ◌<◌, ◌≤◌, ◌^◌, arith, nat_lt, true, false, cond, ◌||◌, ◌&&◌, not, Bool, List, []}
use Rattle.std.proofs.Common.{◌∷◌, ◌++◌, length, take, get_or, refl, sym, ap, ◌∙◌, add-one}
use Rattle.std.specs.List.{filter}
use Rattle.std.proofs.lemmas.Bool.{ltb-true}
use Rattle.std.proofs.lemmas.List.{append-nil}
use Rattle.std.proofs.lemmas.List.Elements.{filter-append}
use Rattle.std.proofs.Math.Seq.{take-suc}
use Rattle.std.proofs.lemmas.Cmp.{tied_itself}
use Rattle.std.proofs.lemmas.Map.Views.{tells_apart}
use Rattle.std.specs.Ordering.{nat_cmp, eq_by_cmp, is_eq}
use Rattle.std.specs.Cmp.{nat_cmp_total, eq_by_cmp_equiv}
use Rattle.std.specs.BTreeSet.{BTreeSet, contains, Updates}
use Rattle.std.specs.FinSet as set
use Rattle.std.specs.FinMap.{nat_cmp-IsAntisymmetric}
use Rattle.bk_record.specs.Scan.{Ledgers}
use Rattle.bk_store.specs.Transitions.{valid_ledgers}

either : (b c : Bool) → cond b true c ≡ (b || c)
either true c = refl
either false c = refl

-- a ledger that comes in
pub ledgers-insert : (old new : BTreeSet ℕ) (ledger : ℕ) → Updates nat_cmp old new ledger true
    → set.from_list {R = nat_cmp} new.keys ≡ set.insert (set.from_list old.keys) ledger
ledgers-insert old new ledger updates = set.same_set nat_cmp_total nat_cmp-IsAntisymmetric _ _ (λ q.
    set.contains-from_list nat_cmp_total new.keys q ∙ updates.0 q ∙ either (eq_by_cmp nat_cmp ledger q) (contains nat_cmp old q)
    ∙ ap (λ b. b || contains nat_cmp old q) ((eq_by_cmp_equiv nat_cmp_total).symm ledger q)
    ∙ ap (λ b. eq_by_cmp nat_cmp q ledger || b) (sym (set.contains-from_list nat_cmp_total old.keys q))
    ∙ sym (set.contains-insert nat_cmp_total (set.from_list old.keys) ledger q))

without : (b c : Bool) → cond b false c ≡ (not b && c)
without true c = refl
without false c = refl

-- a ledger that is removed
pub ledgers-remove : (old new : BTreeSet ℕ) (ledger : ℕ) → Updates nat_cmp old new ledger false
    → set.from_list {R = nat_cmp} new.keys ≡ set.remove (set.from_list old.keys) ledger
ledgers-remove old new ledger updates = set.same_set nat_cmp_total nat_cmp-IsAntisymmetric _ _ (λ q.
    set.contains-from_list nat_cmp_total new.keys q ∙ updates.0 q ∙ without (eq_by_cmp nat_cmp ledger q) (contains nat_cmp old q)
    ∙ ap (λ b. not b && contains nat_cmp old q) ((eq_by_cmp_equiv nat_cmp_total).symm ledger q)
    ∙ ap (λ b. not (eq_by_cmp nat_cmp q ledger) && b) (sym (set.contains-from_list nat_cmp_total old.keys q))
    ∙ sym (set.contains-remove nat_cmp_total (set.from_list old.keys) ledger q))

-- ---- one ledger of a set

itself : (ledger : ℕ) → eq_by_cmp nat_cmp ledger ledger ≡ true
itself ledger = ap is_eq (tied_itself nat_cmp_total ledger)

apart_tested : (q ledger : ℕ) → q ≢ ledger → eq_by_cmp nat_cmp q ledger ≡ false
apart_tested q ledger apart = elim (eq_by_cmp nat_cmp q ledger) as (λ b. eq_by_cmp nat_cmp q ledger ≡ b → b ≡ false) [
  | true ↦ λ tied. absurd (apart (tells_apart nat_cmp-IsAntisymmetric q ledger tied))
  | false ↦ λ _. refl
] refl

pub inserted_is : (s : Ledgers) (ledger : ℕ) → set.contains (set.insert s ledger) ledger ≡ true
inserted_is s ledger = set.contains-insert nat_cmp_total s ledger ledger ∙ ap (λ b. b || set.contains s ledger) (itself ledger)

pub inserted_else : (s : Ledgers) (ledger q : ℕ) → q ≢ ledger → set.contains (set.insert s ledger) q ≡ set.contains s q
inserted_else s ledger q apart = set.contains-insert nat_cmp_total s ledger q ∙ ap (λ b. b || set.contains s q) (apart_tested q ledger apart)

pub removed_is : (s : Ledgers) (ledger : ℕ) → set.contains (set.remove s ledger) ledger ≡ false
removed_is s ledger = set.contains-remove nat_cmp_total s ledger ledger ∙ ap (λ b. not b && set.contains s ledger) (itself ledger)

pub removed_else : (s : Ledgers) (ledger q : ℕ) → q ≢ ledger → set.contains (set.remove s ledger) q ≡ set.contains s q
removed_else s ledger q apart = set.contains-remove nat_cmp_total s ledger q ∙ ap (λ b. not b && set.contains s q) (apart_tested q ledger apart)

-- ---- the ledgers of a list

-- a list with one ledger more, which is one, or is past the greatest
pub listed_push : (listed : List ℕ) (ledger : ℕ) → nat_lt ledger (2 ^ 63) ≡ true
    → valid_ledgers (listed ++ ledger ∷ []) ≡ set.insert (valid_ledgers listed) ledger
listed_push listed ledger is =
    ap set.from_list (filter-append (λ l. nat_lt l (2 ^ 63)) listed (ledger ∷ [])
    ∙ ap (λ b. filter (λ l. nat_lt l (2 ^ 63)) listed ++ cond b (ledger ∷ []) []) is)
    ∙ set.from_list_push nat_cmp_total nat_cmp-IsAntisymmetric (filter (λ l. nat_lt l (2 ^ 63)) listed) ledger

pub listed_skip : (listed : List ℕ) (ledger : ℕ) → nat_lt ledger (2 ^ 63) ≡ false → valid_ledgers (listed ++ ledger ∷ []) ≡ valid_ledgers listed
listed_skip listed ledger is =
    ap set.from_list (filter-append (λ l. nat_lt l (2 ^ 63)) listed (ledger ∷ [])
    ∙ ap (λ b. filter (λ l. nat_lt l (2 ^ 63)) listed ++ cond b (ledger ∷ []) []) is ∙ append-nil (filter (λ l. nat_lt l (2 ^ 63)) listed))

-- one more of the first
pub one_more : (listed : List ℕ) (i : ℕ) → i < length listed → take (i + 1) listed ≡ take i listed ++ get_or listed i 0 ∷ []
one_more listed i within = ap (λ n. take n listed) (add-one i) ∙ take-suc listed i 0 within

pub below_false : (a b : ℕ) → b ≤ a → nat_lt a b ≡ false
below_false a b above =
    elim (nat_lt a b) as (λ v. nat_lt a b ≡ v → v ≡ false) [ false ↦ λ _. refl | true ↦ λ is. absurd (let less = ltb-true a b is in omega arith) ] refl
