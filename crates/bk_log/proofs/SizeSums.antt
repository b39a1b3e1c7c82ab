-- The sizes of records by ledger are sums.
use Rattle.std.proofs.Common.{◌≡◌, ℕ, ◌+◌, Bool, true, false, cond, ◌||◌, eqb, eq-eqb, true≢false, List, [], ◌∷◌, length, Option, Some, None, is_some, nat_cmp}
use Rattle.std.proofs.Common.{fold, filter, sum_by, unwrap_or, refl, sym, ap, ◌∙◌, arith}
use Rattle.std.proofs.lemmas.Bool.{eqb-true, false_from_ne_true}
use Rattle.std.proofs.lemmas.List.Sums.{sum_by-cons}
use Rattle.std.proofs.lemmas.Map.Lookups.{exact_unsigned}
use Rattle.std.proofs.lemmas.Map.Views.{tells_apart}
use Rattle.std.specs.Cmp.{nat_cmp_total, tied_itself}
use Rattle.std.proofs.Math.Bool.{or-false}
use Rattle.std.specs.List.{list_any}
use Rattle.std.specs.Ordering.{eq_by_cmp, is_eq}
use Rattle.std.specs.FinMap.{get, empty, contains_key, get-insert, get-empty}
use Rattle.bk_record.specs.Record.{ledger_field}
use Rattle.bk_log.specs.Sizes.{Sizes, size_in, with_record, sizes_of, is_of, AddsUp}

some_by : (b : Bool) (n : ℕ) (o : Option ℕ) → is_some (cond b (Some n) o) ≡ (is_some o || b)
some_by true n (Some x) = refl
some_by true n None = refl
some_by false n o = sym (or-false (is_some o))

or_in : (a b c : Bool) → ((b || a) || c) ≡ (b || (a || c))
or_in a true c = refl
or_in a false c = refl

same_test : (q l : ℕ) → eq_by_cmp nat_cmp q l ≡ eqb l q
same_test q l =
    elim (eq_by_cmp nat_cmp q l) as (λ b. eq_by_cmp nat_cmp q l ≡ b → b ≡ eqb l q) [
      | true ↦ λ is. sym (eq-eqb l q (sym (tells_apart exact_unsigned q l is)))
      | false ↦ λ apart. sym (false_from_ne_true (eqb l q) (λ is.
          true≢false (sym (ap is_eq (tied_itself nat_cmp_total l)) ∙ ap (λ n. eq_by_cmp nat_cmp n l) (eqb-true l q is) ∙ apart)))
    ] refl

-- size of a ledger after one more record
get-with_record : (sizes : Sizes) (payload : List ℕ) (q : ℕ)
    → get (with_record sizes payload) q ≡ cond (eqb (ledger_field payload) q) (Some (size_in sizes (ledger_field payload) + (4 + length payload))) (get sizes q)
get-with_record sizes payload q =
    get-insert nat_cmp_total sizes (ledger_field payload) (size_in sizes (ledger_field payload) + (4 + length payload)) q
    ∙ ap (λ b. cond b (Some (size_in sizes (ledger_field payload) + (4 + length payload))) (get sizes q)) (same_test q (ledger_field payload))

-- sizes of records, added to earlier sizes
sums_from : (sizes : Sizes) (records : List (ℕ × List ℕ)) (q : ℕ)
    → size_in (fold (λ s r. with_record s r.1) sizes records) q ≡ size_in sizes q + sum_by (λ r. 4 + length r.1) (filter (is_of q) records)
sums_from sizes [] q = omega arith
sums_from sizes (r ∷ records) q =
    let more = get-with_record sizes r.1 q in
    sums_from (with_record sizes r.1) records q
    ∙ elim (eqb (ledger_field r.1) q) as (λ b. eqb (ledger_field r.1) q ≡ b
    → size_in (with_record sizes r.1) q + sum_by (λ x. 4 + length x.1) (filter (is_of q) records)
    ≡ size_in sizes q + sum_by (λ x. 4 + length x.1) (cond b (r ∷ filter (is_of q) records) (filter (is_of q) records))) [
      | true ↦ λ is.
          let here : size_in (with_record sizes r.1) q ≡ size_in sizes (ledger_field r.1) + (4 + length r.1) =
          ap (λ o. unwrap_or o 0) (more ∙ ap (λ b. cond b (Some (size_in sizes (ledger_field r.1) + (4 + length r.1))) (get sizes q)) is) in
          let named : size_in sizes (ledger_field r.1) ≡ size_in sizes q = ap (size_in sizes) (eqb-true (ledger_field r.1) q is) in
          omega (arith, here, named, sum_by-cons (λ x. 4 + length x.1) r (filter (is_of q) records))
      | false ↦ λ apart.
          let here : size_in (with_record sizes r.1) q ≡ size_in sizes q =
          ap (λ o. unwrap_or o 0) (more ∙ ap (λ b. cond b (Some (size_in sizes (ledger_field r.1) + (4 + length r.1))) (get sizes q)) apart) in
          omega (arith, here)
    ] refl

present_from : (sizes : Sizes) (records : List (ℕ × List ℕ)) (q : ℕ)
    → contains_key (fold (λ s r. with_record s r.1) sizes records) q ≡ (contains_key sizes q || list_any (is_of q) records)
present_from sizes [] q = sym (or-false (contains_key sizes q))
present_from sizes (r ∷ records) q =
    present_from (with_record sizes r.1) records q
    ∙ ap (λ b. b || list_any (is_of q) records) (ap is_some (get-with_record sizes r.1 q) ∙ some_by (eqb (ledger_field r.1) q) _ (get sizes q))
    ∙ or_in (eqb (ledger_field r.1) q) (contains_key sizes q) (list_any (is_of q) records)

pub adds_up : (records : List (ℕ × List ℕ)) (ledger : ℕ) → AddsUp records ledger
unfolding sizes_of
adds_up records ledger = record {
  sum_is = sums_from empty records ledger ∙ ap (λ o. unwrap_or o 0 + sum_by (λ r. 4 + length r.1) (filter (is_of ledger) records)) (get-empty nat_cmp ledger)
      ∙ (omega arith);
  present = present_from empty records ledger ∙ ap (λ o. is_some o || list_any (is_of ledger) records) (get-empty nat_cmp ledger);
}
