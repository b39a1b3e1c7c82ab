-- Pairs in the order of their keys, with one more after them.
use Rattle.std.proofs.Common.{◌≡◌, ◌-◌, Bool, true, false, cond, List, [], ◌∷◌, ◌++◌, Some, Option, IsSome, IsTrue, Less}
use Rattle.std.proofs.Common.{refl, sym, ap, subst, ◌∙◌, length, is_some, slice_get, option_map}
use Rattle.std.specs.Ordering.{eq_by_cmp, is_eq, ordering_reverse}
use Rattle.std.specs.List.{AllByRecursion}
use Rattle.std.specs.Cmp.{IsTotalOrder, tied_itself}
use Rattle.std.specs.declared.cmp.Ordering.{Ordering}
use Rattle.std.specs.FinMap as finite
use Rattle.std.specs.FinMap.{find, put, is_sorted}
use Rattle.bk_record.specs.Key.{EntryKey, key_cmp}
use Rattle.bk_record.specs.Location.{Place}
use Rattle.bk_record.proofs.Keys.{key_cmp_total}
use Rattle.bk_record.proofs.SortedPairs.{is_sorted_put}
use Rattle.bk_record.proofs.SortedMaps.{get-sorted, insert-sorted, entries-sorted, len-sorted}
use Rattle.bk_record.specs.Keyed.{Places}
use Rattle.bk_store.specs.FlushPlaces.{IsAfterPlaced, last_key}

module _ {K X : Type 0} (R : K → K → Ordering) (o : IsTotalOrder R) (key : K) where
  still_found : (b : Bool) (value : X) (rest : Option X) → IsSome rest → IsSome (cond b (Some value) rest)
  still_found true value rest there = refl
  still_found false value rest there = there

  all_below : (es : List (K × X)) → ((q : K) → IsSome (find R q es) → R q key ≡ Less) → AllByRecursion (λ e. R e.0 key ≡ Less) es
  all_below [] below = tt
  all_below (e ∷ es) below = (
    below e.0 (ap (λ b. is_some (cond b (Some e.1) (find R e.0 es))) (ap is_eq (tied_itself o e.0))),
    all_below es (λ q there. below q (still_found (eq_by_cmp R q e.0) e.1 (find R q es) there)),
  )

  put_behind : (value : X) (es : List (K × X)) → AllByRecursion (λ e. R e.0 key ≡ Less) es → put R key value es ≡ es ++ (key, value) ∷ []
  put_behind value [] below = refl
  put_behind value (e ∷ es) below =
      rw (o.antisymm key e.0 ∙ ap ordering_reverse below.0) (ap (λ rest. e ∷ rest) (put_behind value es below.1))

abbrev pairs_type : Type 0
pairs_type = List (EntryKey × Place)

-- a key after all is put at the end
put_last : (es : pairs_type) (key : EntryKey) (place : Place) → IsTrue (is_sorted key_cmp es) → IsAfterPlaced (finite.from_sorted es) key
    → put key_cmp key place es ≡ es ++ (key, place) ∷ []
put_last es key place sorted behind =
    put_behind key_cmp key_cmp_total key place es
    (all_below key_cmp key_cmp_total key es (λ q there. behind q (ap is_some (get-sorted key_cmp es sorted q) ∙ there)))

pub noted : (es : pairs_type) (places : Places) (key : EntryKey) (place : Place) → IsTrue (is_sorted key_cmp es)
    → finite.from_sorted es ≡ places → IsAfterPlaced places key
    → finite.from_sorted (es ++ (key, place) ∷ []) ≡ finite.insert places key place
noted es places key place sorted is behind =
    let here : IsAfterPlaced (finite.from_sorted es) key = subst (λ m. IsAfterPlaced m key) (sym is) behind in
    ap finite.from_sorted (sym (put_last es key place sorted here)) ∙ sym (insert-sorted key_cmp es sorted key_cmp_total key place)
    ∙ ap (λ m. finite.insert m key place) is

pub noted_sorted : (es : pairs_type) (places : Places) (key : EntryKey) (place : Place) → IsTrue (is_sorted key_cmp es)
    → finite.from_sorted es ≡ places → IsAfterPlaced places key
    → IsTrue (is_sorted key_cmp (es ++ (key, place) ∷ []))
noted_sorted es places key place sorted is behind =
    let here : IsAfterPlaced (finite.from_sorted es) key = subst (λ m. IsAfterPlaced m key) (sym is) behind in
    subst (λ (l : pairs_type). IsTrue (is_sorted key_cmp l)) (put_last es key place sorted here) (is_sorted_put key_cmp_total key place es sorted)

-- the last pair has the last key
pub last_of : (es : pairs_type) (places : Places) → IsTrue (is_sorted key_cmp es) → finite.from_sorted es ≡ places
    → option_map (λ e. e.0) (slice_get es (length es - 1)) ≡ last_key places
last_of es places sorted is =
    ap (λ (l : pairs_type). option_map (λ e. e.0) (slice_get l (length es - 1))) (sym (entries-sorted key_cmp es sorted))
    ∙ ap (λ n. option_map (λ e. e.0) (slice_get (finite.entries {R = key_cmp} (finite.from_sorted es)) (n - 1))) (sym (len-sorted key_cmp es sorted))
    ∙ ap last_key is
