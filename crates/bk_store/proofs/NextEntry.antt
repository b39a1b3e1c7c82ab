-- The first entry of a flush after the last one that has a place is the flush's next.
use Rattle.std.proofs.Common.{◌≡◌, inl, inr, ℕ, suc, ◌-◌, ◌≤◌, Bool, true, false, cond, List, [], ◌∷◌, length, Option, Some, None, IsSome}
use Rattle.std.proofs.Common.{IsTrue, Less, Equal, Greater, is_some, slice_get, option_map, refl, sym, ap, ◌∙◌, arith}
use Rattle.std.specs.declared.cmp.Ordering.{Ordering}
use Rattle.std.specs.Ordering.{is_lt, ordering_reverse}
use Rattle.std.specs.List.{filter}
use Rattle.std.specs.FinMap as finite
use Rattle.std.specs.FinMap.{find, is_sorted}
use Rattle.std.specs.FinMap.Entries.{below_all, find-where_key}
use Rattle.std.proofs.lemmas.Bool.{and_parts}
use Rattle.std.proofs.lemmas.List.{drop_all}
use Rattle.std.proofs.lemmas.Option.{slice_get_cases}
use Rattle.bk_record.specs.Key.{EntryKey, key_cmp}
use Rattle.bk_record.specs.Location.{Place}
use Rattle.bk_record.proofs.Keys.{key_cmp_total, key_cmp_antisymmetric}
use Rattle.bk_record.proofs.Maps.{key_cases}
use Rattle.bk_record.proofs.SortedPairs.{is_true, Some-same, find_at, filter-behind}
use Rattle.bk_record.proofs.SortedMaps.{is_sorted-filter}
use Rattle.bk_cache.specs.Caches.{flush_of, first_after}
use Rattle.bk_cache.specs.Recents.{Entry}
use Rattle.bk_store.specs.FlushPlaces.{last_key}
use Rattle.bk_store.specs.State.{State}
use Rattle.bk_store.specs.Invariant.{PlacesInvariant}
use Rattle.bk_store.specs.Primitives.{IsNextEntry}

less_from_test : (o : Ordering) → is_lt o ≡ true → o ≡ Less
less_from_test Less is = refl
less_from_test Equal is = cc
less_from_test Greater is = cc

module _ {X : Type 0} where
  -- a key before one that is below all pairs is not among them
  none_before : (q x : EntryKey) (es : List (EntryKey × X)) → key_cmp q x ≡ Less → IsTrue (below_all key_cmp x es) → find key_cmp q es ≡ None
  none_before q x [] less below = refl
  none_before q x (e ∷ es) less below =
      let parts = and_parts _ _ below in
      let behind : key_cmp x e.0 ≡ Less = less_from_test _ parts.0 in
      elim (key_cases key_cmp_total key_cmp_antisymmetric q e.0) [
        | inl same ↦
            let turned : key_cmp q x ≡ Greater = ap (λ k. key_cmp k x) same ∙ key_cmp_total.antisymm e.0 x ∙ ap ordering_reverse behind in
            cc
        | inr apart ↦ rw apart.0 (none_before q x es less parts.1)
      ]

  -- no key comes before the first
  first_least : (es : List (EntryKey × X)) → IsTrue (is_sorted key_cmp es) → (e : EntryKey × X) → slice_get es 0 ≡ Some e → (q : EntryKey)
      → key_cmp q e.0 ≡ Less → find key_cmp q es ≡ None
  first_least [] sorted e at q less = refl
  first_least (x ∷ es) sorted e at q less =
      let parts = and_parts _ _ sorted in
      let before : key_cmp q x.0 ≡ Less = ap (λ p. key_cmp q p.0) (Some-same at) ∙ less in
      rw before (none_before q x.0 es before parts.0)

  -- if there is no first pair, there is none
  none_found : (es : List (EntryKey × X)) → slice_get es 0 ≡ None → (q : EntryKey) → find key_cmp q es ≡ None
  none_found [] none q = refl
  none_found (e ∷ es) none q = cc

  no_last : (es : List (EntryKey × X)) → slice_get es (length es - 1) ≡ None → (q : EntryKey) → find key_cmp q es ≡ None
  no_last [] none q = refl
  no_last (e ∷ es) none q = elim ((slice_get_cases (e ∷ es) (length (e ∷ es) - 1)).1) [
    | inl here ↦ let at = here.2 in cc
    | inr past ↦ let long : suc (length es) ≤ suc (length es) - 1 = past.0 in absurd (omega (arith, long))
  ]

  -- a test of the keys finds those that pass
  found_behind : (k q : EntryKey) (es : List (EntryKey × X))
      → find key_cmp q (filter (λ e. is_lt (key_cmp k e.0)) es) ≡ cond (is_lt (key_cmp k q)) (find key_cmp q es) None
  found_behind k q es = find-where_key key_cmp (λ x. is_lt (key_cmp k x)) q (λ x tied. ap (λ y. is_lt (key_cmp k y)) (sym (key_cmp_antisymmetric q x tied))) es

  -- no key comes after the last
  last_greatest : (es : List (EntryKey × X)) → IsTrue (is_sorted key_cmp es) → (e : EntryKey × X) → slice_get es (length es - 1) ≡ Some e
      → (q : EntryKey) → key_cmp e.0 q ≡ Less → find key_cmp q es ≡ None
  last_greatest es sorted e at q less =
      let none : filter (λ x. is_lt (key_cmp e.0 x.0)) es ≡ [] =
      filter-behind key_cmp_total e.0 e.1 es (length es - 1) sorted at ∙ drop_all (suc (length es - 1)) es (omega arith) in
      ap (λ o. cond (is_lt o) (find key_cmp q es) None) (sym less) ∙ sym (found_behind e.0 q es) ∙ ap (find key_cmp q) none

-- ---- what a key of a flush says of its place

-- Some pairs of the flush in order: those of the keys that pass a test. No key that passes has a
-- place, and each entry of the others has one. Then the first of these pairs is the flush's next
-- entry.
module _ (s : State) (pairs : List Entry) (sorted : IsTrue (is_sorted key_cmp pairs)) (passes : EntryKey → Bool)
    (found : (q : EntryKey) → find key_cmp q pairs ≡ cond (passes q) (finite.get (flush_of s.caches) q) None)
    (unplaced : (q : EntryKey) → passes q ≡ true → finite.get s.places q ≡ None)
    (placed : (q : EntryKey) → passes q ≡ false → IsSome (finite.get (flush_of s.caches) q) → IsSome (finite.get s.places q)) where
  passed_value : (b : Bool) (o : Option (List ℕ)) (v : List ℕ) → cond b o None ≡ Some v → (b ≡ true) × (o ≡ Some v)
  passed_value true o v is = (refl, is)
  passed_value false o v is = cc

  -- a key that is not among the pairs
  placed_else : (q : EntryKey) → find key_cmp q pairs ≡ None → IsSome (finite.get (flush_of s.caches) q) → IsSome (finite.get s.places q)
  placed_else q none there = elim (passes q) as (λ b. passes q ≡ b → IsSome (finite.get s.places q)) [
    | true ↦ λ is.
        let gone : finite.get (flush_of s.caches) q ≡ None = ap (λ b. cond b (finite.get (flush_of s.caches) q) None) (sym is) ∙ sym (found q) ∙ none in
        cc
    | false ↦ λ is. placed q is there
  ] refl

  first_next : (o : Option Entry) → slice_get pairs 0 ≡ o → IsNextEntry s o
  first_next None none = λ key there. placed_else key (none_found pairs none key) there
  first_next (Some e) at =
      let is = passed_value (passes e.0) (finite.get (flush_of s.caches) e.0) e.1
      (sym (found e.0) ∙ find_at key_cmp_total pairs 0 e.0 e.1 sorted at) in
      record {
        flushing = is.1;
        unplaced = unplaced e.0 is.0;
        first = λ earlier less there. placed_else earlier (first_least pairs sorted e at earlier less) there;
      }

-- the last key that has a place is last among the pairs
last_pair : (o : Option (EntryKey × Place)) (k : EntryKey) → option_map (λ e. e.0) o ≡ Some k → (place : Place) × (o ≡ Some (k, place))
last_pair None k is = cc
last_pair (Some e) k is = (e.1, ap (λ x. Some (x, e.1)) (Some-same is))

module _ (s : State) (is : PlacesInvariant s.caches.flush s.places s.logs) where
  flush_sorted : IsTrue (is_sorted key_cmp (finite.entries (flush_of s.caches)))
  flush_sorted = is_true _ (finite.entries_sorted (flush_of s.caches))

  placed_sorted : IsTrue (is_sorted key_cmp (finite.entries s.places))
  placed_sorted = is_true _ (finite.entries_sorted s.places)

  -- an entry that is not after the last key with a place has one too
  not_behind : (k q : EntryKey) (place : Place) (o : Ordering) → key_cmp k q ≡ o → is_lt o ≡ false → finite.get s.places k ≡ Some place
      → IsSome (finite.get (flush_of s.caches) q) → IsSome (finite.get s.places q)
  not_behind k q place Less order behind at there = cc
  not_behind k q place Equal order behind at there =
      ap (λ x. is_some (finite.get s.places x)) (sym (key_cmp_antisymmetric k q order)) ∙ ap is_some at
  not_behind k q place Greater order behind at there =
      is.front k q place at (key_cmp_total.antisymm q k ∙ ap ordering_reverse order) there

  next_after : (last : Option EntryKey) → last_key s.places ≡ last → IsNextEntry s (first_after last (flush_of s.caches))
  next_after None none =
      let gone : slice_get (finite.entries s.places) (length (finite.entries s.places) - 1) ≡ None =
      no_key _ (ap (λ n. option_map (λ e. e.0) (slice_get (finite.entries s.places) (n - 1))) (sym (finite.len-entries s.places)) ∙ none) in
      first_next s (finite.entries (flush_of s.caches)) flush_sorted (λ _. true) (λ q. sym (finite.get-entries (flush_of s.caches) q))
      (λ q _. finite.get-entries s.places q ∙ no_last (finite.entries s.places) gone q) (λ q wrong there. cc) _ refl
    where
      no_key : (o : Option (EntryKey × Place)) → option_map (λ e. e.0) o ≡ None → o ≡ None
      no_key None none = refl
      no_key (Some e) none = cc
  next_after (Some k) some =
      let pair = last_pair _ k (ap (λ n. option_map (λ e. e.0) (slice_get (finite.entries s.places) (n - 1))) (sym (finite.len-entries s.places)) ∙ some) in
      let there : finite.get s.places k ≡ Some pair.0 =
      finite.get-entries s.places k ∙ find_at key_cmp_total (finite.entries s.places) (length (finite.entries s.places) - 1) k pair.0 placed_sorted pair.1 in
      first_next s (filter (λ e. is_lt (key_cmp k e.0)) (finite.entries (flush_of s.caches)))
      (is_sorted-filter key_cmp _ flush_sorted (λ x. is_lt (key_cmp k x)))
      (λ x. is_lt (key_cmp k x))
      (λ q. found_behind k q _ ∙ ap (λ o. cond (is_lt (key_cmp k q)) o None) (sym (finite.get-entries (flush_of s.caches) q)))
      (λ q behind. finite.get-entries s.places q
      ∙ last_greatest (finite.entries s.places) placed_sorted (k, pair.0) pair.1 q (less_from_test _ behind))
      (λ q behind entry. not_behind k q pair.0 (key_cmp k q) refl behind there entry)
      _ refl

  pub next_entry : IsNextEntry s (first_after (last_key s.places) (flush_of s.caches))
  next_entry = next_after (last_key s.places) refl
