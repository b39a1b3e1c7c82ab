-- Finite maps by number: those made of a `BTreeMap`'s entries, with insertion and removal.
use Rattle.std.proofs.Common.{◌≡◌, ℕ, cond, List, [], ◌∷◌, Some, None, Less, nat_cmp, refl, sym, ap, ◌∙◌}
use Rattle.std.specs.Cmp.{nat_cmp_total, eq_by_cmp_equiv}
use Rattle.std.specs.BTreeMap.{is_at}
use Rattle.std.specs.Map.{lookup, keys_of}
use Rattle.std.specs.List.Sorted.{IsStrictlySortedBy}
use Rattle.std.specs.FinMap as finite
use Rattle.std.specs.FinMap.{FinMap, get, insert, remove, from_entries, get-insert, get-remove, get-from_entries, same_map, nat_cmp-IsAntisymmetric}
use Rattle.std.proofs.lemmas.List.{nil_from_length}
use Rattle.std.proofs.lemmas.Map.Keys.{sorted_head, sorted_tail}
use Rattle.bk_record.proofs.Maps as maps
use Rattle.bk_record.proofs.SortedPairs.{find-lookup}

-- look-up in a map made from entries
pub get-entries : {X : Type 0} (es : List (ℕ × X)) (q : ℕ) → get (from_entries {R = nat_cmp} es) q ≡ lookup (is_at (nat_cmp q)) es
get-entries es q = get-from_entries nat_cmp_total es q ∙ find-lookup nat_cmp q es

-- look-up in a map equal to one made from entries
pub get-made : {X : Type 0} (es : List (ℕ × X)) (m : FinMap nat_cmp X) (q : ℕ) → from_entries {R = nat_cmp} es ≡ m → lookup (is_at (nat_cmp q)) es ≡ get m q
get-made es m q is = sym (get-entries es q) ∙ ap (λ n. get n q) is

-- two maps with equal look-ups are equal
pub same_by_get : {X : Type 0} (m n : FinMap nat_cmp X) → ((q : ℕ) → get m q ≡ get n q) → m ≡ n
same_by_get m n is = same_map nat_cmp_total nat_cmp-IsAntisymmetric m n is

-- entries that differ at one key make the map with that key inserted
pub inserted : {X : Type 0} (es fs : List (ℕ × X)) (k : ℕ) (v : X)
    → ((q : ℕ) → lookup (is_at (nat_cmp q)) fs ≡ cond (is_at (nat_cmp k) q) (Some v) (lookup (is_at (nat_cmp q)) es))
    → from_entries {R = nat_cmp} fs ≡ insert (from_entries es) k v
inserted es fs k v at = same_by_get _ _ (λ q.
    get-entries fs q ∙ at q ∙ ap (λ b. cond b (Some v) (lookup (is_at (nat_cmp q)) es)) ((eq_by_cmp_equiv nat_cmp_total).symm k q)
    ∙ sym (get-insert nat_cmp_total (from_entries es) k v q ∙ ap (cond (is_at (nat_cmp q) k) (Some v)) (get-entries es q)))

-- entries that lack one key make the map with that key removed
pub removed : {X : Type 0} (es fs : List (ℕ × X)) (k : ℕ)
    → ((q : ℕ) → lookup (is_at (nat_cmp q)) fs ≡ cond (is_at (nat_cmp k) q) None (lookup (is_at (nat_cmp q)) es))
    → from_entries {R = nat_cmp} fs ≡ remove (from_entries es) k
removed es fs k at = same_by_get _ _ (λ q.
    get-entries fs q ∙ at q ∙ ap (λ b. cond b None (lookup (is_at (nat_cmp q)) es)) ((eq_by_cmp_equiv nat_cmp_total).symm k q)
    ∙ sym (get-remove nat_cmp_total (from_entries es) k q ∙ ap (cond (is_at (nat_cmp q) k) None) (get-entries es q)))

-- look-up of the inserted key
pub get-insert_same : {X : Type 0} (m : FinMap nat_cmp X) (k : ℕ) (v : X) → get (insert m k v) k ≡ Some v
get-insert_same m k v = maps.get-insert_here nat_cmp_total nat_cmp-IsAntisymmetric m k v

-- inserting a key twice
pub insert-insert : {X : Type 0} (m : FinMap nat_cmp X) (k : ℕ) (v w : X) → insert (insert m k v) k w ≡ insert m k w
insert-insert m k v w = maps.insert-insert nat_cmp_total nat_cmp-IsAntisymmetric m k v w

-- inserting the pair that the map has
pub insert_same : {X : Type 0} (m : FinMap nat_cmp X) (k : ℕ) (v : X) → get m k ≡ Some v → insert m k v ≡ m
insert_same m k v is = maps.insert-same nat_cmp_total nat_cmp-IsAntisymmetric m k v is

-- ---- maps made from sorted pairs

entries-empty : {X : Type 0} → finite.entries (finite.empty {X = X} {R = nat_cmp}) ≡ []
entries-empty {X} = nil_from_length _ (sym (finite.len-entries (finite.empty {X = X} {R = nat_cmp})) ∙ finite.len-empty nat_cmp X)

-- a key below all others is inserted first
put_first : {X : Type 0} (e : ℕ × X) (es : List (ℕ × X)) → IsStrictlySortedBy nat_cmp (keys_of (e ∷ es)) → finite.put nat_cmp e.0 e.1 es ≡ e ∷ es
put_first e [] rises = refl
put_first e (f ∷ fs) rises =
    let less : nat_cmp e.0 f.0 ≡ Less = (sorted_head nat_cmp e.0 (keys_of (f ∷ fs)) rises).0 in
    rw less refl

-- sorted pairs are the entries of their map
pub entries-from_rising : {X : Type 0} (es : List (ℕ × X)) → IsStrictlySortedBy nat_cmp (keys_of es) → finite.entries (from_entries {R = nat_cmp} es) ≡ es
entries-from_rising [] rises = entries-empty
entries-from_rising (e ∷ es) rises =
    finite.entries-insert nat_cmp_total (from_entries es) e.0 e.1
    ∙ ap (finite.put nat_cmp e.0 e.1) (entries-from_rising es (sorted_tail nat_cmp e.0 (keys_of es) rises)) ∙ put_first e es rises
