-- A `BTreeMap` as a finite map.
use Rattle.std.proofs.Common.{◌≡◌, ℕ, Bool, true, false, cond, ◌&&◌, T, List, [], ◌∷◌, map, length, Some, Less, refl, sym, ap, ◌∙◌, subst}
use Rattle.std.specs.Ordering.{nat_cmp, eq_by_cmp, is_lt}
use Rattle.std.specs.Cmp.{nat_cmp_total, eq_by_cmp_equiv}
use Rattle.std.specs.List.{AllByRecursion}
use Rattle.std.specs.List.Sorted.{IsStrictlySortedBy}
use Rattle.std.specs.Map.{lookup}
use Rattle.std.specs.BTreeMap as tree
use Rattle.std.specs.BTreeMap.{BTreeMap, btree_map_len}
use Rattle.std.specs.FinMap as ledgers
use Rattle.std.specs.FinMap.{find, is_sorted}
use Rattle.std.specs.FinMap.Entries.{below_all}
use Rattle.std.proofs.lemmas.Map.Keys.{sorted_head, sorted_tail}
use Rattle.bk_head.specs.Ledgers.{map_of}

find-lookup : (es : List (ℕ × ℕ)) (q : ℕ) → find nat_cmp q es ≡ lookup (tree.is_at (nat_cmp q)) es
find-lookup [] q = refl
find-lookup (e ∷ es) q = ap (cond (eq_by_cmp nat_cmp q e.0) (Some e.1)) (find-lookup es q)

-- look-up in the finite map is look-up in the `BTreeMap`
pub get-map_of : (m : BTreeMap ℕ ℕ) (q : ℕ) → ledgers.get (map_of m) q ≡ tree.get nat_cmp m q
get-map_of m q = ledgers.get-from_entries nat_cmp_total m.entries q ∙ find-lookup m.entries q

pub map_of-insert : (m n : BTreeMap ℕ ℕ) (k v : ℕ) → ((q : ℕ) → tree.get nat_cmp n q ≡ cond (eq_by_cmp nat_cmp k q) (Some v) (tree.get nat_cmp m q))
    → map_of n ≡ ledgers.insert (map_of m) k v
map_of-insert m n k v h = ledgers.same_map nat_cmp_total ledgers.nat_cmp-IsAntisymmetric _ _ (λ q.
    get-map_of n q ∙ h q ∙ ap (λ b. cond b (Some v) (tree.get nat_cmp m q)) ((eq_by_cmp_equiv nat_cmp_total).symm k q)
    ∙ sym (ledgers.get-insert nat_cmp_total (map_of m) k v q ∙ ap (cond (eq_by_cmp nat_cmp q k) (Some v)) (get-map_of m q)))

both : (a b : Bool) → T a → T b → T (a && b)
both true b p q = q
both false b p q = p

below_is : (x : ℕ) (es : List (ℕ × ℕ)) → AllByRecursion (λ y. nat_cmp x y ≡ Less) (map (λ e. e.0) es) → T (below_all nat_cmp x es)
below_is x [] h = tt
below_is x (e ∷ es) h = subst (λ r. T (is_lt r && below_all nat_cmp x es)) (sym h.0) (below_is x es h.1)

sorted_is : (es : List (ℕ × ℕ)) → IsStrictlySortedBy nat_cmp (map (λ e. e.0) es) → T (is_sorted nat_cmp es)
sorted_is [] h = tt
sorted_is (e ∷ es) h = both _ _ (below_is e.0 es (sorted_head nat_cmp e.0 (map (λ e. e.0) es) h))
    (sorted_is es (sorted_tail nat_cmp e.0 (map (λ e. e.0) es) h))

-- the entries of a `BTreeMap` are in the order of the finite map
pub entries-map_of : (m : BTreeMap ℕ ℕ) → tree.IsOrdered nat_cmp m → ledgers.entries (map_of m) ≡ m.entries
entries-map_of m o =
    let sorted = sorted_is m.entries o in
    ap ledgers.entries (ledgers.same_map nat_cmp_total ledgers.nat_cmp-IsAntisymmetric (map_of m) (ledgers.from_sorted m.entries) (λ q.
    ledgers.get-from_entries nat_cmp_total m.entries q ∙ sym (ledgers.get-from_sorted nat_cmp m.entries q sorted)))
    ∙ ledgers.entries-from_sorted nat_cmp m.entries sorted

pub len-map_of : (m : BTreeMap ℕ ℕ) → tree.IsOrdered nat_cmp m → ledgers.len (map_of m) ≡ btree_map_len m
len-map_of m o = ledgers.len-entries (map_of m) ∙ ap length (entries-map_of m o)
