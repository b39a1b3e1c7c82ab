-- Sorted pairs without one of them.
use Rattle.std.proofs.Common.{◌≡◌, Bool, true, false, cond, not, ◌&&◌, List, [], ◌∷◌, IsTrue, refl, sym, ap, subst, ◌∙◌}
use mathlib.Core.Bool.{false≢true}
use Rattle.std.specs.declared.cmp.Ordering.{Ordering}
use Rattle.std.specs.declared.cmp.Ordering.TheVariants.{Less, Equal, Greater}
use Rattle.std.specs.Ordering.{eq_by_cmp, is_lt, is_eq}
use Rattle.std.specs.List.{filter}
use Rattle.std.specs.Map.{remove_entry}
use Rattle.std.specs.Cmp.{Equal-is}
use Rattle.std.specs.FinMap.{is_sorted}
use Rattle.std.specs.FinMap.Entries.{below_all}
use Rattle.bk_record.specs.Key.{EntryKey, key_cmp}
use Rattle.bk_record.proofs.Keys.{key_cmp_antisymmetric}

first : (a b : Bool) → IsTrue (a && b) → IsTrue a
first true b is = refl
first false b is = absurd (false≢true is)

second : (a b : Bool) → IsTrue (a && b) → IsTrue b
second true b is = is
second false b is = absurd (false≢true is)

untied : (r : Ordering) → IsTrue (is_lt r) → not (is_eq r) ≡ true
untied Less is = refl
untied Equal is = absurd (false≢true is)
untied Greater is = refl

-- whether a key is a different one
abbrev pub is_other : EntryKey → EntryKey → Bool
is_other key q = not (eq_by_cmp key_cmp key q)

-- all pairs after a key have other keys
filter-behind_all : {X : Type 0} (key : EntryKey) (es : List (EntryKey × X)) → IsTrue (below_all key_cmp key es) → filter (λ e. is_other key e.0) es ≡ es
filter-behind_all key [] below = refl
filter-behind_all key (e ∷ es) below =
    ap (λ b. cond b (e ∷ filter (λ x. is_other key x.0) es) (filter (λ x. is_other key x.0) es)) (untied (key_cmp key e.0) (first _ _ below))
    ∙ ap (λ rest. e ∷ rest) (filter-behind_all key es (second _ _ below))

-- removing a key from sorted pairs keeps the pairs of all other keys
pub remove_entry-sorted : {X : Type 0} (key : EntryKey) (es : List (EntryKey × X)) → IsTrue (is_sorted key_cmp es)
    → remove_entry (eq_by_cmp key_cmp key) es ≡ filter (λ e. is_other key e.0) es
remove_entry-sorted key [] sorted = refl
remove_entry-sorted key (e ∷ es) sorted =
    elim (eq_by_cmp key_cmp key e.0) as (λ b. eq_by_cmp key_cmp key e.0 ≡ b
    → cond b es (e ∷ remove_entry (eq_by_cmp key_cmp key) es) ≡ cond (not b) (e ∷ filter (λ x. is_other key x.0) es) (filter (λ x. is_other key x.0) es)) [
      | true ↦ λ tied.
          let same = key_cmp_antisymmetric key e.0 ((Equal-is (key_cmp key e.0)).0 tied) in
          sym (filter-behind_all key es (subst (λ (k : EntryKey). IsTrue (below_all key_cmp k es)) (sym same) (first _ _ sorted)))
      | false ↦ λ _. ap (λ rest. e ∷ rest) (remove_entry-sorted key es (second _ _ sorted))
    ] refl
