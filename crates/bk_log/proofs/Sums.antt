-- The sizes by ledger after one more record.
use Rattle.std.proofs.Common.{◌≡◌, ℕ, ◌+◌, ◌<◌, ◌≤◌, ◌^◌, true, false, cond, List, [], ◌∷◌, ◌++◌, Some, IsSome, nat_cmp, refl, sym, ap, subst, ◌∙◌, arith}
use Rattle.std.proofs.Common.{is_some, unwrap_or}
use Rattle.std.specs.Cmp.{nat_cmp_total}
use Rattle.std.specs.Ordering.{eq_by_cmp}
use Rattle.std.specs.FinMap.{empty, get, len, contains_key, get-empty, get-insert, len-empty, len-insert}
use Rattle.std.proofs.lemmas.Bool.{false≢true}
use Rattle.std.proofs.lemmas.List.Sums.{fold-append}
use Rattle.std.proofs.lemmas.Map.Lookups.{exact_unsigned}
use Rattle.std.proofs.lemmas.Map.Views.{tells_apart}
use Rattle.bk_head.specs.Written.{IsWritable}
use Rattle.bk_log.specs.Sizes.{Sizes, size_in, with_bytes, with_record, sizes_of}
use Rattle.bk_log.specs.Writing.{IsCounted}

-- no ledger exceeds its bytes before plus the new ones
pub size_in-with_bytes : (sizes : Sizes) (ledger size most other : ℕ) → ((q : ℕ) → size_in sizes q ≤ most)
    → size_in (with_bytes sizes ledger size) other ≤ most + size
size_in-with_bytes sizes ledger size most other within =
    elim (eq_by_cmp nat_cmp other ledger) as (λ b. eq_by_cmp nat_cmp other ledger ≡ b → size_in (with_bytes sizes ledger size) other ≤ most + size) [
      | true ↦ λ here. rw (get-insert nat_cmp_total sizes ledger (size_in sizes ledger + size) other, here) (omega (arith, within ledger))
      | false ↦ λ apart. rw (get-insert nat_cmp_total sizes ledger (size_in sizes ledger + size) other, apart) (omega (arith, within other))
    ] refl

-- there are at most as many ledgers as records
few_more : (sizes : Sizes) (ledger size count : ℕ) → len sizes ≤ count → len (with_bytes sizes ledger size) ≤ count + 1
few_more sizes ledger size count few =
    rw (len-insert nat_cmp_total sizes ledger (size_in sizes ledger + size))
    (elim (contains_key sizes ledger) as (λ b. cond b (len sizes) (len sizes + 1) ≤ count + 1) [ true ↦ omega arith | false ↦ omega arith ])

-- every ledger id is below 2 ^ 63
keyed_more : (sizes : Sizes) (ledger size other : ℕ) → ledger < 2 ^ 63 → ((q : ℕ) → IsSome (get sizes q) → q < 2 ^ 63)
    → IsSome (get (with_bytes sizes ledger size) other) → other < 2 ^ 63
keyed_more sizes ledger size other low keyed =
    elim (eq_by_cmp nat_cmp other ledger) as (λ b. eq_by_cmp nat_cmp other ledger ≡ b → IsSome (get (with_bytes sizes ledger size) other) → other < 2 ^ 63) [
      | true ↦ λ here some. subst (λ q. q < 2 ^ 63) (sym (tells_apart exact_unsigned other ledger here)) low
      | false ↦ λ apart some. keyed other (sym (ap is_some (get-insert nat_cmp_total sizes ledger (size_in sizes ledger + size) other
          ∙ ap (λ b. cond b (Some (size_in sizes ledger + size)) (get sizes other)) apart)) ∙ some)
    ] refl

-- invariant of a writer's numbers after one more record
pub counted_put : (log end count size ledger : ℕ) (sizes sizes' : Sizes) → IsCounted log end count sizes → 20 ≤ size → ledger < 2 ^ 63
    → sizes' ≡ with_bytes sizes ledger size → IsCounted log (end + size) (count + 1) sizes'
counted_put log end count size ledger sizes sizes' counted least low is = record {
  named = counted.named;
  room = omega (arith, counted.room);
  within = λ q. rw is (size_in-with_bytes sizes ledger size end q counted.within);
  few = rw is (few_more sizes ledger size count counted.few);
  keyed = λ q. rw is (keyed_more sizes ledger size q low counted.keyed);
}

-- invariant of the numbers of a log without records
pub counted_none : (log end : ℕ) (sizes : Sizes) → log < 2 ^ 31 → 1024 ≤ end → sizes ≡ empty → IsCounted log end 0 sizes
counted_none log end sizes named headed is = record {
  named = named;
  room = omega arith;
  within = λ q. rw (is, get-empty nat_cmp q) (omega arith);
  few = rw (is, len-empty nat_cmp ℕ) (omega arith);
  keyed = λ q some. absurd (false≢true (sym (ap is_some (ap (λ s. get s q) is ∙ get-empty nat_cmp q)) ∙ some));
}

-- the sizes can be written as a ledgers map
pub counted_is_writable : (log end count : ℕ) (sizes : Sizes) → IsCounted log end count sizes → end < 2 ^ 32 → IsWritable sizes
counted_is_writable log end count sizes counted fits = record {
  few = omega (arith, counted.few, counted.room);
  each = λ ledger size is. (counted.keyed ledger (ap is_some is), omega (arith, counted.within ledger, ap (λ o. unwrap_or o 0) is));
}

-- the sizes of a list with one record more
pub sizes_of-push : (records : List (ℕ × List ℕ)) (at : ℕ) (payload : List ℕ)
    → sizes_of (records ++ (at, payload) ∷ []) ≡ with_record (sizes_of records) payload
unfolding sizes_of
sizes_of-push records at payload = fold-append _ _ records ((at, payload) ∷ [])
