-- Places of keys in a page: look-up, overwrite and insertion there.
use Rattle.std.proofs.Common.{◌≡◌, ℕ, zero, suc, ◌-◌, ◌≤◌, List, [], ◌∷◌, ◌++◌, length, get_or, set, take, drop, Some, None, Result, Ok, Err, IfErr, OnErr, refl, sym, ap, ◌∙◌, arith}
use Rattle.std.proofs.Common.{length-take, take-append-drop}
use Rattle.std.specs.Bool.{IsTrue}
use Rattle.std.specs.List.{insert}
use Rattle.std.specs.FinMap.{find, put, is_sorted}
use Rattle.std.proofs.lemmas.List.Edits.{insert-append_left, insert-append_right}
use Rattle.bk_record.specs.Key.{EntryKey, key_cmp}
use Rattle.bk_index.specs.Sorted.{IsAt, IsGapFor}
use Rattle.bk_index.specs.Pages.{first_key}
use Rattle.bk_record.proofs.Keys.{key_cmp_total}
use Rattle.bk_record.proofs.SortedPairs.{Some-same, sorted_front, find_at, find_gap, put_at, put_gap, is_sorted_put}
use Rattle.bk_index.proofs.CutPairs.{sorted_back}
use Rattle.bk_index.proofs.KeyPlaces.{read_there, named}

-- a fact that holds also holds where there is an error
pub on_err : {T E : Type 0} (r : Result T E) {P : Type 0} → P → OnErr r P
on_err (Ok x) p = tt
on_err (Err e) p = p

-- overwriting the value of a key does not change the first key
pub first_put_held : {X : Type 0} (pairs : List (EntryKey × X)) (key : EntryKey) (at : ℕ) → IsAt pairs key at → (v : X) → first_key (set pairs at (key, v))
    ≡ first_key pairs
first_put_held [] key at here v = refl
first_put_held (pair ∷ pairs) key zero here v = sym (Some-same here)
first_put_held (pair ∷ pairs) key (suc at) here v = refl

module _ {X : Type 0} (pairs : List (EntryKey × X)) (sorted : IsTrue (is_sorted key_cmp pairs)) (key : EntryKey) where
  pub is_sorted_put_page : (v : X) → IsTrue (is_sorted key_cmp (put key_cmp key v pairs))
  is_sorted_put_page v = is_sorted_put key_cmp_total key v pairs sorted

  -- two parts that together are sorted pairs are each sorted
  pub is_sorted_parts : (v : X) (front back : List (EntryKey × X)) → front ++ back ≡ put key_cmp key v pairs
      → IsTrue (is_sorted key_cmp front) × IsTrue (is_sorted key_cmp back)
  is_sorted_parts v front back is =
      let all : IsTrue (is_sorted key_cmp (front ++ back)) = rw is (is_sorted_put_page v) in
      (sorted_front key_cmp front back all, sorted_back key_cmp front back all)

  module _ (at : ℕ) (held : EntryKey × X) (here : IsAt pairs key at) (read : held ≡ get_or pairs at held) where
    -- a look-up finds the value read there
    pub find_held : find key_cmp key pairs ≡ Some held.1
    find_held = find_at key_cmp_total pairs at key held.1 sorted (named _ key held here (λ e there. read_there pairs at e held read there))

    pub put_held : (v : X) → put key_cmp key v pairs ≡ set pairs at (key, v)
    put_held v = put_at key_cmp_total key held.1 v pairs at sorted (named _ key held here (λ e there. read_there pairs at e held read there))

  module _ (at : ℕ) (gap : IsGapFor pairs key at) where
    -- a look-up does not find a key that has a gap
    pub find_absent : find key_cmp key pairs ≡ None
    find_absent = find_gap key_cmp_total key pairs at gap.smaller_before gap.greater_from sorted

    pub put_absent : (v : X) → put key_cmp key v pairs ≡ insert pairs at (key, v)
    put_absent v = put_gap key_cmp_total key v pairs at gap.smaller_before gap.greater_from gap.in_range

    -- split after the place: the key is inserted in the first part
    pub put_lower : (v : X) (cut : ℕ) → at ≤ cut → cut ≤ length pairs → insert (take cut pairs) at (key, v) ++ drop cut pairs ≡ put key_cmp key v pairs
    put_lower v cut lower within =
        sym (insert-append_left (take cut pairs) (drop cut pairs) at (key, v) (omega (arith, length-take cut pairs)))
        ∙ ap (λ es. insert es at (key, v)) (take-append-drop cut pairs) ∙ sym (put_absent v)

    -- split before the place: the key is inserted in the second part
    pub put_upper : (v : X) (cut : ℕ) → cut ≤ at → cut ≤ length pairs → take cut pairs ++ insert (drop cut pairs) (at - cut) (key, v) ≡ put key_cmp key v pairs
    put_upper v cut upper within =
        sym (insert-append_right (take cut pairs) (drop cut pairs) cut at (key, v) (omega (arith, length-take cut pairs)) upper)
        ∙ ap (λ es. insert es at (key, v)) (take-append-drop cut pairs) ∙ sym (put_absent v)

    pub sorted_lower : (v : X) (cut : ℕ) → at ≤ cut → cut ≤ length pairs
        → IsTrue (is_sorted key_cmp (insert (take cut pairs) at (key, v))) × IsTrue (is_sorted key_cmp (drop cut pairs))
    sorted_lower v cut lower within = is_sorted_parts v (insert (take cut pairs) at (key, v)) (drop cut pairs) (put_lower v cut lower within)

    pub sorted_upper : (v : X) (cut : ℕ) → cut ≤ at → cut ≤ length pairs
        → IsTrue (is_sorted key_cmp (take cut pairs)) × IsTrue (is_sorted key_cmp (insert (drop cut pairs) (at - cut) (key, v)))
    sorted_upper v cut upper within = is_sorted_parts v (take cut pairs) (insert (drop cut pairs) (at - cut) (key, v)) (put_upper v cut upper within)

  -- a search that ends at a gap shows that the key is not there
  pub searched_none : (r : Result ℕ ℕ) → IfErr r (IsGapFor pairs key) → IfErr r (λ _. find key_cmp key pairs ≡ None)
  searched_none (Ok at) gap = tt
  searched_none (Err at) gap = find_absent at gap
