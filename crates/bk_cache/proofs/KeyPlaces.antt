-- Places of keys among sorted pairs: the result of a search, a look-up and an insertion there, and
-- the pairs from a place on.
use Rattle.std.proofs.Common.{◌≡◌, ℕ, zero, suc, ◌+◌, ◌-◌, ◌<◌, ◌≤◌, nat_lt, Bool, true, false, List, [], ◌∷◌, length, get_or, drop, Some, None}
use Rattle.std.proofs.Common.{slice_get, option_map, Result, Ok, Err, IfOk, IfErr, refl, inl, inr, sym, ap, subst, ◌∙◌, arith}
use Rattle.std.specs.Cmp.{tied_itself}
use Rattle.std.specs.declared.cmp.Ordering.TheVariants.{Less, Equal, Greater}
use Rattle.std.specs.Ordering.{is_lt, is_le, ordering_reverse}
use Rattle.std.specs.Bool.{IsTrue}
use Rattle.std.specs.List.{filter, insert}
use Rattle.std.specs.List.Sorted.{IsSearchInRange, IsBinarySearchResult, IsSortedBy}
use Rattle.std.specs.FinMap.{find, put, is_sorted}
use Rattle.std.specs.Map.{keys_of}
use Rattle.std.proofs.lemmas.List.{get_or-map}
use Rattle.std.proofs.lemmas.List.Sorted.{searchable_from_sorted}
use Rattle.std.proofs.lemmas.Map.Keys.{Less-from_sorted}
use Rattle.std.proofs.lemmas.Map.Entries.{length-keys_of}
use Rattle.std.proofs.lemmas.Bool.{ltb-true, ltb-false}
use Rattle.std.proofs.lemmas.Option.{slice_get_cases, slice_get_within, get_or_from_slice_get}
use Rattle.bk_record.specs.Key.{EntryKey, key_cmp}
use Rattle.bk_record.proofs.Keys.{key_cmp_total, key_cmp_antisymmetric}
use Rattle.bk_record.proofs.SortedPairs.{Some-same, keys_rise, find_at, find_gap, put_gap}
use Rattle.bk_cache.specs.Sorted.{IsAt, IsGapFor}

module _ {X : Type 0} (pairs : List (EntryKey × X)) (sorted : IsTrue (is_sorted key_cmp pairs)) where
  -- a pair before another one has a smaller key
  pub rises : (i j : ℕ) (a b : EntryKey × X) → i < j → slice_get pairs i ≡ Some a → slice_get pairs j ≡ Some b → key_cmp a.0 b.0 ≡ Less
  rises i j a b before at there =
      let within : j < length pairs = slice_get_within pairs j b there in
      let grows = Less-from_sorted key_cmp (keys_of pairs) i j b.0 (keys_rise key_cmp pairs sorted) before (rw length-keys_of within) in
      let read : key_cmp (get_or pairs i b).0 (get_or pairs j b).0
      ≡ Less = rw (get_or-map (λ e. e.0) pairs i b b.0 (omega arith), get_or-map (λ e. e.0) pairs j b b.0 within) at grows in
      rw (get_or_from_slice_get pairs i a b at, get_or_from_slice_get pairs j b b there) at read

  -- sorted pairs meet the precondition of a binary search
  in_order : IsSortedBy (λ a b. is_lt (key_cmp a.0 b.0)) pairs
  in_order i d low next =
      let grows = Less-from_sorted key_cmp (keys_of pairs) i (i + 1) d.0 (keys_rise key_cmp pairs sorted) (omega arith) (rw length-keys_of next) in
      let less : key_cmp (get_or pairs i d).0 (get_or pairs (i + 1) d).0
      ≡ Less = rw (get_or-map (λ e. e.0) pairs i d d.0 (omega arith), get_or-map (λ e. e.0) pairs (i + 1) d d.0 next) at grows in
      ap is_lt (key_cmp_total.antisymm (get_or pairs (i + 1) d).0 (get_or pairs i d).0 ∙ ap ordering_reverse less)

  -- the place of a key greater than the last one is the end
  pub gap_at_end : (key : EntryKey) (last : EntryKey × X) → 0 < length pairs → last ≡ get_or pairs (length pairs - 1) last → key_cmp last.0 key ≡ Less
      → IsGapFor pairs key (length pairs)
  gap_at_end key last some read less =
      elim (slice_get_cases pairs (length pairs - 1)).1 [
        | inl (held, within, there, at) ↦
            let same : last ≡ held = read ∙ get_or_from_slice_get pairs (length pairs - 1) held last there in
            let lower : key_cmp held.0 key ≡ Less = subst (λ (p : EntryKey × X). key_cmp p.0 key ≡ Less) same less in
            record {
              in_range = omega arith;
              smaller_before = λ i e before has. elim (nat_lt i (length pairs - 1)) as (λ b. nat_lt i (length pairs - 1) ≡ b → key_cmp e.0 key ≡ Less) [
                | true ↦ λ is. key_cmp_total.trans e.0 held.0 key (rises i (length pairs - 1) e held (ltb-true i _ is) has there) lower
                | false ↦ λ is.
                    let here : i ≡ length pairs - 1 = omega (arith, ltb-false i (length pairs - 1) is) in
                    let equal : held ≡ e = Some-same (sym there ∙ ap (slice_get pairs) (sym here) ∙ has) in
                    subst (λ (p : EntryKey × X). key_cmp p.0 key ≡ Less) equal lower
              ] refl;
              greater_from = λ i e from has. absurd (omega (arith, slice_get_within pairs i e has));
            }
        | inr (past, none) ↦ absurd (omega arith)
      ]

  -- a binary search by key ends at the key, or at its gap
  pub searched : (key : EntryKey) (r : Result ℕ ℕ) → IsSearchInRange r (length pairs) → IsBinarySearchResult (λ pair. key_cmp pair.0 key) pairs r
      → record { found : IfOk r (IsAt pairs key); absent : IfErr r (IsGapFor pairs key) }
  searched key (Ok at) in_range equal =
      record {
        found = elim (slice_get_cases pairs at).1 [
          | inl (e, within, there, read) ↦ rw there (ap Some
              (key_cmp_antisymmetric e.0 key (subst (λ (p : EntryKey × X). key_cmp p.0 key ≡ Equal) read (equal e))))
          | inr (past, none) ↦ absurd (omega arith)
        ];
        absent = tt;
      }
  searched key (Err at) in_range parted =
      let sides = parted (searchable_from_sorted key_cmp_total (λ pair. pair.0) pairs key in_order) in
      record {
        found = tt;
        absent = record {
          in_range = in_range;
          smaller_before = λ i e before there. subst (λ (p : EntryKey × X). key_cmp p.0 key
              ≡ Less) (get_or_from_slice_get pairs i e e there) (sides.0 i e (omega arith) before);
          greater_from = λ i e from there. subst (λ (p : EntryKey × X). key_cmp p.0 key
              ≡ Greater) (get_or_from_slice_get pairs i e e there) (sides.1 i e from (slice_get_within pairs i e there));
        };
      }

  -- the pair at the place of a key
  pub at_key : (key : EntryKey) (at : ℕ) → IsAt pairs key at → (e : EntryKey × X) × (slice_get pairs at ≡ Some e) × (e.0 ≡ key)
  at_key key at here = elim (slice_get pairs at) as (λ o. slice_get pairs at ≡ o → option_map (λ e. e.0) o ≡ Some key
      → (e : EntryKey × X) × (slice_get pairs at ≡ Some e) × (e.0 ≡ key)) [
        | Some e ↦ λ is has. (e, is, Some-same has)
        | None ↦ λ _ none. cc
      ] refl here

  -- a look-up finds the pair that is read at the place
  pub find_held : (key : EntryKey) (at : ℕ) (held : EntryKey × X) → IsAt pairs key at → held ≡ get_or pairs at held → find key_cmp key pairs ≡ Some held.1
  find_held key at held here read =
      let e = at_key key at here in
      let same : e.0 ≡ held = sym (read ∙ get_or_from_slice_get pairs at e.0 held e.1) in
      find_at key_cmp_total pairs at key held.1 sorted (e.1 ∙ ap Some (same ∙ (λ i. ((sym (ap (λ (p : EntryKey × X). p.0) same) ∙ e.2) i, held.1))))

  -- a look-up does not find a key that has a gap
  pub find_absent : (key : EntryKey) (at : ℕ) → IsGapFor pairs key at → find key_cmp key pairs ≡ None
  find_absent key at gap = find_gap key_cmp_total key pairs at gap.smaller_before gap.greater_from sorted

-- a key is put into its gap
pub put_absent : {X : Type 0} (pairs : List (EntryKey × X)) (key : EntryKey) (at : ℕ) → IsGapFor pairs key at → (v : X)
    → put key_cmp key v pairs ≡ insert pairs at (key, v)
put_absent pairs key at gap v = put_gap key_cmp_total key v pairs at gap.smaller_before gap.greater_from gap.in_range

-- the pairs that pass a test, if these are the ones from a place on
pub filter-drop : {A : Type 0} (p : A → Bool) (es : List A) (i : ℕ) → ((j : ℕ) (e : A) → j < i → slice_get es j ≡ Some e → p e ≡ false)
    → ((j : ℕ) (e : A) → i ≤ j → slice_get es j ≡ Some e → p e ≡ true) → filter p es ≡ drop i es
filter-drop p [] zero before from = refl
filter-drop p [] (suc i) before from = refl
filter-drop p (e ∷ es) zero before from =
    rw (from zero e (omega arith) refl)
    (ap (λ rest. e ∷ rest) (filter-drop p es zero (λ j d none at. absurd (omega arith)) (λ j d le at. from (suc j) d (omega arith) at)))
filter-drop p (e ∷ es) (suc i) before from =
    rw (before zero e (omega arith) refl)
    (filter-drop p es i (λ j d lt at. before (suc j) d (omega arith) at) (λ j d le at. from (suc j) d (omega arith) at))

pub first_of_drop : {A : Type 0} (es : List A) (i : ℕ) → slice_get (drop i es) 0 ≡ slice_get es i
first_of_drop [] zero = refl
first_of_drop [] (suc i) = refl
first_of_drop (e ∷ es) zero = refl
first_of_drop (e ∷ es) (suc i) = first_of_drop es i

module _ {X : Type 0} (pairs : List (EntryKey × X)) (sorted : IsTrue (is_sorted key_cmp pairs)) (key : EntryKey) (at : ℕ) where
  less_of : (e : EntryKey × X) → key_cmp e.0 key ≡ Less → key_cmp key e.0 ≡ Greater
  less_of e is = key_cmp_total.antisymm key e.0 ∙ ap ordering_reverse is

  greater_of : (e : EntryKey × X) → key_cmp e.0 key ≡ Greater → key_cmp key e.0 ≡ Less
  greater_of e is = key_cmp_total.antisymm key e.0 ∙ ap ordering_reverse is

  -- the first pair from a key on, and after it
  pub from_gap : IsGapFor pairs key at → slice_get (filter (λ e. is_le (key_cmp key e.0)) pairs) 0 ≡ slice_get pairs at
  from_gap gap =
      ap (λ es. slice_get es 0) (filter-drop (λ e. is_le (key_cmp key e.0)) pairs at
      (λ j e lt has. ap is_le (less_of e (gap.smaller_before j e lt has))) (λ j e le has. ap is_le (greater_of e (gap.greater_from j e le has))))
      ∙ first_of_drop pairs at

  pub after_gap : IsGapFor pairs key at → slice_get (filter (λ e. is_lt (key_cmp key e.0)) pairs) 0 ≡ slice_get pairs at
  after_gap gap =
      ap (λ es. slice_get es 0) (filter-drop (λ e. is_lt (key_cmp key e.0)) pairs at
      (λ j e lt has. ap is_lt (less_of e (gap.smaller_before j e lt has))) (λ j e le has. ap is_lt (greater_of e (gap.greater_from j e le has))))
      ∙ first_of_drop pairs at

  module _ (here : IsAt pairs key at) where
    held : (e : EntryKey × X) × (slice_get pairs at ≡ Some e) × (e.0 ≡ key)
    held = at_key pairs sorted key at here

    smaller : (j : ℕ) (e : EntryKey × X) → j < at → slice_get pairs j ≡ Some e → key_cmp key e.0 ≡ Greater
    smaller j e lt has = less_of e (ap (key_cmp e.0) (sym held.2) ∙ rises pairs sorted j at e held.0 lt has held.1)

    greater : (j : ℕ) (e : EntryKey × X) → at < j → slice_get pairs j ≡ Some e → key_cmp key e.0 ≡ Less
    greater j e lt has = ap (λ k. key_cmp k e.0) (sym held.2) ∙ rises pairs sorted at j held.0 e lt held.1 has

    same_there : (e : EntryKey × X) → slice_get pairs at ≡ Some e → key_cmp key e.0 ≡ Equal
    same_there e has = ap (key_cmp key) (ap (λ (p : EntryKey × X). p.0) (Some-same (sym has ∙ held.1)) ∙ held.2) ∙ tied_itself key_cmp_total key

    pub from_key : slice_get (filter (λ e. is_le (key_cmp key e.0)) pairs) 0 ≡ slice_get pairs at
    from_key =
        ap (λ es. slice_get es 0) (filter-drop (λ e. is_le (key_cmp key e.0)) pairs at (λ j e lt has. ap is_le (smaller j e lt has))
        (λ j e le has. elim (nat_lt at j) as (λ b. nat_lt at j ≡ b → is_le (key_cmp key e.0) ≡ true) [
          | true ↦ λ is. ap is_le (greater j e (ltb-true at j is) has)
          | false ↦ λ is. let equal : at ≡ j = omega (arith, ltb-false at j is) in ap is_le (same_there e (ap (slice_get pairs) equal ∙ has))
        ] refl))
        ∙ first_of_drop pairs at

    pub after_key : slice_get (filter (λ e. is_lt (key_cmp key e.0)) pairs) 0 ≡ slice_get pairs (at + 1)
    after_key =
        ap (λ es. slice_get es 0) (filter-drop (λ e. is_lt (key_cmp key e.0)) pairs (at + 1)
        (λ j e lt has. elim (nat_lt j at) as (λ b. nat_lt j at ≡ b → is_lt (key_cmp key e.0) ≡ false) [
          | true ↦ λ is. ap is_lt (smaller j e (ltb-true j at is) has)
          | false ↦ λ is. let equal : at ≡ j = omega (arith, ltb-false j at is) in ap is_lt (same_there e (ap (slice_get pairs) equal ∙ has))
        ] refl) (λ j e le has. ap is_lt (greater j e (omega arith) has)))
        ∙ first_of_drop pairs (at + 1)
