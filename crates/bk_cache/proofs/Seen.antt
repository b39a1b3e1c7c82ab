-- Pairs with a function applied to each value, such as shared payloads read as bytes.
use Rattle.std.proofs.Common.{◌≡◌, ℕ, ◌+◌, Bool, true, false, cond, List, [], ◌∷◌, map, option_map, refl, sym, ap, ◌∙◌}
use Rattle.std.specs.declared.cmp.Ordering.{Ordering}
use Rattle.std.specs.declared.cmp.Ordering.TheVariants.{Less, Equal, Greater}
use Rattle.std.specs.Ordering.{eq_by_cmp, match_ordering}
use Rattle.std.specs.BTreeMap.{insert_entry}
use Rattle.std.specs.List.{filter, sum_by}
use Rattle.std.specs.Map.{lookup, values_of}
use Rattle.std.specs.Bool.{IsTrue}
use Rattle.std.specs.FinMap.{find, put, is_sorted, from_sorted, get as map_get}
use Rattle.std.specs.FinMap.Entries.{by_order}
use Rattle.std.proofs.lemmas.List.Sums.{sum_by-cons}
use Rattle.std.proofs.lemmas.Map.Made.{lookup-map_values}
use Rattle.bk_record.proofs.SortedPairs.{find-lookup}
use Rattle.bk_record.proofs.SortedMaps.{get-sorted}

pub sum_by-map : {A B : Type 0} (g : B → ℕ) (f : A → B) (xs : List A) → sum_by g (map f xs) ≡ sum_by (λ x. g (f x)) xs
sum_by-map g f [] = refl
sum_by-map g f (x ∷ xs) = sum_by-cons g (f x) (map f xs) ∙ ap (λ n. g (f x) + n) (sum_by-map g f xs) ∙ sym (sum_by-cons (λ y. g (f y)) x xs)

-- insertion, in two forms of std
pub insert_entry-put : {K X : Type 0} (R : K → K → Ordering) (es : List (K × X)) (k : K) (v : X) → insert_entry R es k v ≡ put R k v es
insert_entry-put R [] k v = refl
insert_entry-put R (e ∷ es) k v =
    elim (R k e.0) as (λ r. match_ordering r ((k, v) ∷ e ∷ es) ((e.0, v) ∷ es) (e ∷ insert_entry R es k v)
    ≡ by_order r ((k, v) ∷ e ∷ es) ((e.0, v) ∷ es) (e ∷ put R k v es)) [
      | Less ↦ refl
      | Equal ↦ refl
      | Greater ↦ ap (λ rest. e ∷ rest) (insert_entry-put R es k v)
    ]

module _ {K X Y : Type 0} (f : X → Y) where
  abbrev pub seen : List (K × X) → List (K × Y)
  seen es = map (λ e. (e.0, f e.1)) es

  pub values_of-seen : (es : List (K × X)) → values_of (seen es) ≡ map f (values_of es)
  values_of-seen [] = refl
  values_of-seen (e ∷ es) = ap (λ vs. f e.1 ∷ vs) (values_of-seen es)

  pub filter-seen : (p : K → Bool) (es : List (K × X)) → filter (λ e. p e.0) (seen es) ≡ seen (filter (λ e. p e.0) es)
  filter-seen p [] = refl
  filter-seen p (e ∷ es) =
      elim (p e.0) as (λ b. cond b ((e.0, f e.1) ∷ filter (λ e. p e.0) (seen es)) (filter (λ e. p e.0) (seen es))
      ≡ seen (cond b (e ∷ filter (λ e. p e.0) es) (filter (λ e. p e.0) es))) [
        | true ↦ ap (λ rest. (e.0, f e.1) ∷ rest) (filter-seen p es)
        | false ↦ filter-seen p es
      ]

  module _ (R : K → K → Ordering) where
    pub find-seen : (q : K) (es : List (K × X)) → find R q (seen es) ≡ option_map f (lookup (eq_by_cmp R q) es)
    find-seen q es = find-lookup R q (seen es) ∙ lookup-map_values f (eq_by_cmp R q) es

    pub put-seen : (es : List (K × X)) (k : K) (v : X) → seen (put R k v es) ≡ put R k (f v) (seen es)
    put-seen [] k v = refl
    put-seen (e ∷ es) k v =
        elim (R k e.0) as (λ r. seen (by_order r ((k, v) ∷ e ∷ es) ((e.0, v) ∷ es) (e ∷ put R k v es))
        ≡ by_order r ((k, f v) ∷ (e.0, f e.1) ∷ seen es) ((e.0, f v) ∷ seen es) ((e.0, f e.1) ∷ put R k (f v) (seen es))) [
          | Less ↦ refl
          | Equal ↦ refl
          | Greater ↦ ap (λ rest. (e.0, f e.1) ∷ rest) (put-seen es k v)
        ]

-- look-up in the map made from such pairs
pub get-seen : {K X Y : Type 0} (f : X → Y) (R : K → K → Ordering) (es : List (K × X)) → IsTrue (is_sorted R (seen f es)) → (q : K)
    → option_map f (lookup (eq_by_cmp R q) es) ≡ map_get (from_sorted {R = R} (seen f es)) q
get-seen f R es sorted q = sym (find-seen f R q es) ∙ sym (get-sorted R (seen f es) sorted q)
