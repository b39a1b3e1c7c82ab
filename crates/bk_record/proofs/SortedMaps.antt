-- Finite maps made of pairs in the order of their keys.
use Rattle.std.proofs.Common.{◌≡◌, Bool, cond, List, [], length, None, refl, sym, ap, ◌∙◌}
use Rattle.std.specs.declared.cmp.Ordering.{Ordering}
use Rattle.std.specs.declared.cmp.Ordering.TheVariants.{Equal}
use Rattle.std.specs.Bool.{IsTrue}
use Rattle.std.specs.Cmp.{IsTotalOrder}
use Rattle.std.specs.List.{filter}
use Rattle.std.specs.FinMap.{FinMap, find, put, is_sorted, from_sorted, entries-from_sorted, get-from_sorted}
use Rattle.std.specs.FinMap.{len-entries, empty_of_len, same_entries_map, entries_sorted, same_map, entries-insert, get-retain_keys}
use Rattle.std.specs.FinMap as map
use Rattle.std.specs.FinMap.Entries.{find-where_key, is_sorted-where_key}
use Rattle.std.proofs.lemmas.Map.Lookups.{CmpEqualImpliesEq}
use Rattle.bk_record.proofs.SortedPairs.{passed, is_true, is_sorted_put}

module _ {K X : Type 0} (R : K → K → Ordering) (es : List (K × X)) (sorted : IsTrue (is_sorted R es)) where
  pub entries-sorted : map.entries (from_sorted {R = R} es) ≡ es
  entries-sorted = entries-from_sorted R es (passed _ sorted)

  pub len-sorted : map.len (from_sorted {R = R} es) ≡ length es
  len-sorted = len-entries _ ∙ ap length entries-sorted

  pub get-sorted : (q : K) → map.get (from_sorted {R = R} es) q ≡ find R q es
  get-sorted q = get-from_sorted R es q (passed _ sorted)

  pub is_sorted-filter : (p : K → Bool) → IsTrue (is_sorted R (filter (λ e. p e.0) es))
  is_sorted-filter p = is_true _ (is_sorted-where_key R p es (passed _ sorted))

  module _ (o : IsTotalOrder R) where
    pub insert-sorted : (k : K) (v : X) → map.insert (from_sorted {R = R} es) k v ≡ from_sorted (put R k v es)
    insert-sorted k v =
        same_entries_map _ _ (entries-insert o _ k v ∙ ap (put R k v) entries-sorted
        ∙ sym (entries-from_sorted R (put R k v es) (passed _ (is_sorted_put o k v es sorted))))

    pub retain_keys-sorted : CmpEqualImpliesEq R → (p : K → Bool) → map.retain_keys (from_sorted {R = R} es) p ≡ from_sorted (filter (λ e. p e.0) es)
    retain_keys-sorted exact p =
        same_map o exact _ _ (λ q.
        let alike : (x : K) → R q x ≡ Equal → p x ≡ p q = λ x tied. ap p (sym (exact q x tied)) in
        get-retain_keys _ p q alike ∙ ap (λ found. cond (p q) found None) (get-sorted q)
        ∙ sym (find-where_key R p q alike es) ∙ sym (get-from_sorted R _ q (passed _ (is_sorted-filter p))))

pub from_sorted-nil : {K X : Type 0} (R : K → K → Ordering) → from_sorted {X = X} {R = R} [] ≡ map.empty
from_sorted-nil {X = X} R = empty_of_len _ (len-sorted {X = X} R [] refl)

-- a map is made of its own entries
pub from_sorted-entries : {K X : Type 0} {R : K → K → Ordering} (m : FinMap R X) → from_sorted (map.entries m) ≡ m
from_sorted-entries {R = R} m = same_entries_map _ m (entries-from_sorted R (map.entries m) (entries_sorted m))

-- the entries whose keys pass a test
pub entries-retain_keys : {K X : Type 0} {R : K → K → Ordering} → IsTotalOrder R → CmpEqualImpliesEq R → (m : FinMap R X) (p : K → Bool)
    → map.entries (map.retain_keys m p) ≡ filter (λ e. p e.0) (map.entries m)
entries-retain_keys {R = R} o exact m p =
    let sorted = is_true _ (entries_sorted m) in
    ap (λ n. map.entries (map.retain_keys n p)) (sym (from_sorted-entries m))
    ∙ ap map.entries (retain_keys-sorted R (map.entries m) sorted o exact p)
    ∙ entries-sorted R _ (is_sorted-filter R (map.entries m) sorted p)
