-- Places of keys among sorted pairs: the result of a search, and a write there as a write to the
-- map.
use Rattle.std.proofs.Common.{◌≡◌, ℕ, ◌+◌, ◌-◌, ◌<◌, ◌≤◌, nat_lt, true, false, List, length, get_or, Option, Some, None, slice_get, option_map, Result, Ok, Err, IfOk, IfErr, refl, inl, inr}
use Rattle.std.proofs.Common.{sym, ap, subst, ◌∙◌, arith}
use Rattle.std.specs.Cmp.{IsTotalOrder}
use Rattle.std.specs.declared.cmp.Ordering.{Ordering}
use Rattle.std.specs.declared.cmp.Ordering.TheVariants.{Less, Equal, Greater}
use Rattle.std.specs.Ordering.{is_lt, ordering_reverse}
use Rattle.std.specs.Bool.{IsTrue}
use Rattle.std.specs.List.Sorted.{IsSearchInRange, IsBinarySearchResult, IsSortedBy}
use Rattle.std.specs.FinMap.{is_sorted}
use Rattle.std.specs.Map.{keys_of}
use Rattle.std.proofs.lemmas.List.{get_or-map}
use Rattle.std.proofs.lemmas.List.Sorted.{searchable_from_sorted}
use Rattle.std.proofs.lemmas.Map.Keys.{Less-from_sorted}
use Rattle.std.proofs.lemmas.Map.Entries.{length-keys_of}
use Rattle.std.proofs.lemmas.Bool.{ltb-true, ltb-false}
use Rattle.std.proofs.lemmas.Option.{slice_get_cases, slice_get_within, get_or_from_slice_get}
use Rattle.bk_record.specs.Key.{EntryKey, key_cmp}
use Rattle.bk_index.specs.Sorted.{IsAt, IsGapFor}
use Rattle.bk_record.proofs.Keys.{key_cmp_total, key_cmp_antisymmetric}
use Rattle.bk_record.proofs.SortedPairs.{Some-same, keys_rise}

module _ {K X : Type 0} {R : K → K → Ordering} (o : IsTotalOrder R) (es : List (K × X)) (sorted : IsTrue (is_sorted R es)) where
  -- sorted pairs meet the precondition of a binary search
  in_order : IsSortedBy (λ a b. is_lt (R a.0 b.0)) es
  in_order i d low next =
      let rises = Less-from_sorted R (keys_of es) i (i + 1) d.0 (keys_rise R es sorted) (omega arith) (rw length-keys_of next) in
      let less : R (get_or es i d).0 (get_or es (i + 1) d).0
      ≡ Less = rw (get_or-map (λ e. e.0) es i d d.0 (omega arith), get_or-map (λ e. e.0) es (i + 1) d d.0 next) at rises in
      ap is_lt (o.antisymm (get_or es (i + 1) d).0 (get_or es i d).0 ∙ ap ordering_reverse less)

-- an indexed read returns the pair at the place
pub read_there : {A : Type 0} (es : List A) (i : ℕ) (e held : A) → held ≡ get_or es i held → slice_get es i ≡ Some e → e ≡ held
read_there es i e held read there = sym (read ∙ get_or_from_slice_get es i e held there)

pub named : {K X : Type 0} (found : Option (K × X)) (k : K) (held : K × X) → option_map (λ e. e.0) found ≡ Some k → ((e : K × X) → found ≡ Some e → e ≡ held)
    → found ≡ Some (k, held.1)
named None k held has_key read = cc
named (Some e) k held has_key read = let pair : e ≡ (k, held.1) = λ i. (Some-same has_key i, (read e refl i).1) in ap Some pair

module _ {X : Type 0} (pairs : List (EntryKey × X)) (sorted : IsTrue (is_sorted key_cmp pairs)) where
  -- a key greater than the last one is greater than all
  below_last : (key : EntryKey) (n : ℕ) (last : EntryKey × X) → slice_get pairs n ≡ Some last → key_cmp last.0 key ≡ Less → (i : ℕ) (e : EntryKey × X)
      → i ≤ n → slice_get pairs i ≡ Some e → key_cmp e.0 key ≡ Less
  below_last key n last there less i e before has =
      let within : n < length pairs = slice_get_within pairs n last there in
      elim (nat_lt i n) as (λ b. nat_lt i n ≡ b → key_cmp e.0 key ≡ Less) [
        | true ↦ λ is.
            let front : i < n = ltb-true i n is in
            let rises = Less-from_sorted key_cmp (keys_of pairs) i n last.0 (keys_rise key_cmp pairs sorted) front (rw length-keys_of within) in
            let read : key_cmp (get_or pairs i last).0 (get_or pairs n last).0
            ≡ Less = rw (get_or-map (λ e. e.0) pairs i last last.0 (omega arith), get_or-map (λ e. e.0) pairs n last last.0 within) at rises in
            let first : key_cmp e.0 last.0 ≡ Less = rw (get_or_from_slice_get pairs i e last has, get_or_from_slice_get pairs n last last there) at read in
            key_cmp_total.trans e.0 last.0 key first less
        | false ↦ λ is.
            let here : i ≡ n = omega (arith, ltb-false i n is) in
            let same : last ≡ e = Some-same (sym there ∙ ap (slice_get pairs) (sym here) ∙ has) in
            subst (λ (p : EntryKey × X). key_cmp p.0 key ≡ Less) same less
      ] refl

  -- its place is at the end
  pub gap_at_end : (key : EntryKey) (last : EntryKey × X) → 0 < length pairs → last ≡ get_or pairs (length pairs - 1) last → key_cmp last.0 key ≡ Less
      → IsGapFor pairs key (length pairs)
  gap_at_end key last some read less =
      elim (slice_get_cases pairs (length pairs - 1)).1 [
        | inl (held, within, there, at) ↦
            let same : last ≡ held = read ∙ get_or_from_slice_get pairs (length pairs - 1) held last there in
            let lower : key_cmp held.0 key ≡ Less = subst (λ (p : EntryKey × X). key_cmp p.0 key ≡ Less) same less in
            record {
              in_range = omega arith;
              smaller_before = λ i e before has. below_last key (length pairs - 1) held there lower i e (omega arith) has;
              greater_from = λ i e from has. absurd (omega (arith, slice_get_within pairs i e has));
            }
        | inr (past, none) ↦ absurd (omega arith)
      ]

  -- a binary search by key ends at the key, or at its gap
  pub searched : (key : EntryKey) (r : Result ℕ ℕ) → IsSearchInRange r (length pairs) → IsBinarySearchResult (λ pair. key_cmp pair.0 key) pairs r
      → record { found : IfOk r (IsAt pairs key); absent : IfErr r (IsGapFor pairs key) }
  searched key (Ok at) in_range equal =
      record {
        found = elim (slice_get_cases pairs at).1 [
          | inl (e, within, there, read) ↦ rw there (ap Some
              (key_cmp_antisymmetric e.0 key (subst (λ (p : EntryKey × X). key_cmp p.0 key ≡ Equal) read (equal e))))
          | inr (past, none) ↦ absurd (omega arith)
        ];
        absent = tt;
      }
  searched key (Err at) in_range parted =
      let sides = parted (searchable_from_sorted key_cmp_total (λ pair. pair.0) pairs key (in_order key_cmp_total pairs sorted)) in
      record {
        found = tt;
        absent = record {
          in_range = in_range;
          smaller_before = λ i e before there. subst (λ (p : EntryKey × X). key_cmp p.0 key
              ≡ Less) (get_or_from_slice_get pairs i e e there) (sides.0 i e (omega arith) before);
          greater_from = λ i e from there. subst (λ (p : EntryKey × X). key_cmp p.0 key
              ≡ Greater) (get_or_from_slice_get pairs i e e there) (sides.1 i e from (slice_get_within pairs i e there));
        };
      }
