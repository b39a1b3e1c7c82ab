-- Finite maps made of a `BTreeMap`'s entries, by number.
use Rattle.std.proofs.Common.{◌≡◌, ℕ, ◌<◌, length, arith, true, false, cond, List, [], ◌∷◌, map, Some, None, Option, IsSome, nat_cmp}
use Rattle.std.proofs.Common.{MutBor, refl, sym, ap, ◌∙◌}
use Rattle.std.specs.Cmp.{nat_cmp_total, eq_by_cmp_equiv}
use Rattle.std.specs.Ordering.{eq_by_cmp}
use Rattle.std.specs.BTreeMap.{BTreeMap, WritesThrough, is_at}
use Rattle.std.specs.Map.{lookup}
use Rattle.std.specs.Option.{is_some, option_map, option_copied_mut}
use Rattle.std.specs.FinMap as finmap
use Rattle.std.specs.FinMap.{FinMap, find, get, insert, remove, from_entries, get-insert, get-remove, get-from_entries, same_map, nat_cmp-IsAntisymmetric}
use Rattle.std.proofs.lemmas.Map.Made.{lookup-map_values}
use Rattle.std.proofs.lemmas.Map.Views.{tells_apart}

find-lookup : {X : Type 0} (es : List (ℕ × X)) (q : ℕ) → find nat_cmp q es ≡ lookup (is_at (nat_cmp q)) es
find-lookup [] q = refl
find-lookup (e ∷ es) q = ap (cond (is_at (nat_cmp q) e.0) (Some e.1)) (find-lookup es q)

-- look-up in a map made from entries
pub get-entries : {X : Type 0} (es : List (ℕ × X)) (q : ℕ) → get (from_entries {R = nat_cmp} es) q ≡ lookup (is_at (nat_cmp q)) es
get-entries es q = get-from_entries nat_cmp_total es q ∙ find-lookup es q

-- two maps with equal look-ups are equal
pub same_by_get : {X : Type 0} (m n : FinMap nat_cmp X) → ((q : ℕ) → get m q ≡ get n q) → m ≡ n
same_by_get m n is = same_map nat_cmp_total nat_cmp-IsAntisymmetric m n is

-- entries that differ at one key make the map with that key inserted
pub inserted : {X : Type 0} (es fs : List (ℕ × X)) (k : ℕ) (v : X)
    → ((q : ℕ) → lookup (is_at (nat_cmp q)) fs ≡ cond (is_at (nat_cmp k) q) (Some v) (lookup (is_at (nat_cmp q)) es))
    → from_entries {R = nat_cmp} fs ≡ insert (from_entries es) k v
inserted es fs k v at = same_by_get _ _ (λ q.
    get-entries fs q ∙ at q ∙ ap (λ b. cond b (Some v) (lookup (is_at (nat_cmp q)) es)) ((eq_by_cmp_equiv nat_cmp_total).symm k q)
    ∙ sym (get-insert nat_cmp_total (from_entries es) k v q ∙ ap (cond (is_at (nat_cmp q) k) (Some v)) (get-entries es q)))

-- entries that lack one key make the map with that key removed
pub removed : {X : Type 0} (es fs : List (ℕ × X)) (k : ℕ)
    → ((q : ℕ) → lookup (is_at (nat_cmp q)) fs ≡ cond (is_at (nat_cmp k) q) None (lookup (is_at (nat_cmp q)) es))
    → from_entries {R = nat_cmp} fs ≡ remove (from_entries es) k
removed es fs k at = same_by_get _ _ (λ q.
    get-entries fs q ∙ at q ∙ ap (λ b. cond b None (lookup (is_at (nat_cmp q)) es)) ((eq_by_cmp_equiv nat_cmp_total).symm k q)
    ∙ sym (get-remove nat_cmp_total (from_entries es) k q ∙ ap (cond (is_at (nat_cmp q) k) None) (get-entries es q)))

-- a look-up among the entries is a look-up in the map
pub get-found : {X : Type 0} (es : List (ℕ × X)) (k : ℕ) (o : Option X) → o ≡ lookup (is_at (nat_cmp k)) es → get (from_entries {R = nat_cmp} es) k ≡ o
get-found es k o is = get-entries es k ∙ sym is

-- overwriting the value of a key in place is an insertion
pub written : {X : Type 0} (m n : BTreeMap ℕ X) (k : ℕ) (w : X) → WritesThrough nat_cmp (nat_cmp k) m w n
    → IsSome (get (from_entries {R = nat_cmp} m.entries) k)
    → from_entries {R = nat_cmp} n.entries ≡ insert (from_entries m.entries) k w
written m n k w writes there =
    let found : IsSome (lookup (is_at (nat_cmp k)) m.entries) = ap is_some (sym (get-entries m.entries k)) ∙ there in
    let updates = writes.3 found in
    inserted m.entries n.entries k w updates.0

-- a reference is borrowed if the key has a value
pub lent : {X : Type 0} (r : Option (MutBor X)) (o : Option X) → option_copied_mut r ≡ o → IsSome o → IsSome r
lent None o is there = ap is_some is ∙ there
lent (Some r) o is there = refl

-- the key has no value
pub none_is : {X : Type 0} (o : Option X) → is_some o ≡ false → o ≡ None
none_is None h = refl
none_is (Some x) h = cc

-- inserting the pair that the map has
pub insert_same : {X : Type 0} (m : FinMap nat_cmp X) (k : ℕ) (v : X) → get m k ≡ Some v → insert m k v ≡ m
insert_same m k v found = same_by_get _ _ (λ q. get-insert nat_cmp_total m k v q
    ∙ elim (eq_by_cmp nat_cmp q k) as (λ b. eq_by_cmp nat_cmp q k ≡ b → cond b (Some v) (get m q) ≡ get m q) [
      | true ↦ λ h. sym (ap (get m) (tells_apart nat_cmp-IsAntisymmetric q k h) ∙ found)
      | false ↦ λ _. refl
    ] refl)

-- look-up after a function is applied to each value
pub get-mapped : {X : Type 0} (f : X → X) (es : List (ℕ × X)) (q : ℕ) → get (from_entries {R = nat_cmp} (map (λ e. (e.0, f e.1)) es)) q
    ≡ option_map f (lookup (is_at (nat_cmp q)) es)
get-mapped f es q = get-entries (map (λ e. (e.0, f e.1)) es) q ∙ lookup-map_values f (is_at (nat_cmp q)) es

-- a look-up in the map is a look-up among its entries
pub get-lookup : {X : Type 0} (m : FinMap nat_cmp X) (q : ℕ) → get m q ≡ lookup (is_at (nat_cmp q)) (finmap.entries m)
get-lookup m q = finmap.get-entries m q ∙ find-lookup (finmap.entries m) q

-- a map made of no entries has no value
pub get-nothing : {X : Type 0} (es : List (ℕ × X)) (k : ℕ) → (0 < length es → ⊥) → get (from_entries {R = nat_cmp} es) k ≡ None
get-nothing [] k none = get-entries [] k
get-nothing (e ∷ es) k none = absurd (none (omega arith))
