-- Two maps with the same keys have the same size.
use Rattle.std.proofs.Common.{◌≡◌, Bool, true, false, cond, ◌&&◌, T, IsSome, is_some, List, [], ◌∷◌, map, length}
use Rattle.std.proofs.Common.{option_map, Option, Some, None, refl, sym, ap, subst, ◌∙◌, arith}
use Rattle.std.specs.Ordering.{eq_by_cmp, is_lt}
use Rattle.std.specs.FinMap as finite
use Rattle.std.specs.FinMap.{find, is_sorted}
use Rattle.std.specs.FinMap.Entries.{below_all, same_entries}
use Rattle.bk_record.specs.Key.{EntryKey, key_cmp}
use Rattle.bk_record.proofs.Keys.{key_cmp_total, key_cmp_antisymmetric}

-- the keys alone
abbrev erased : {X : Type 0} → List (EntryKey × X) → List (EntryKey × Unit {0})
erased es = map (λ e. (e.0, tt)) es

module _ {X : Type 0} where
  erased_found : (q : EntryKey) (es : List (EntryKey × X)) → find key_cmp q (erased es) ≡ option_map (λ _. tt {0}) (find key_cmp q es)
  erased_found q [] = refl
  erased_found q (e ∷ es) = by_test (eq_by_cmp key_cmp q e.0) (erased_found q es)
    where
      by_test : (b : Bool) → find key_cmp q (erased es) ≡ option_map (λ _. tt {0}) (find key_cmp q es)
          → cond b (Some (tt {0})) (find key_cmp q (erased es)) ≡ option_map (λ _. tt {0}) (cond b (Some e.1) (find key_cmp q es))
      by_test true rest = refl
      by_test false rest = rest

  erased_below : (x : EntryKey) (es : List (EntryKey × X)) → below_all key_cmp x (erased es) ≡ below_all key_cmp x es
  erased_below x [] = refl
  erased_below x (e ∷ es) = ap (λ b. is_lt (key_cmp x e.0) && b) (erased_below x es)

  erased_sorted : (es : List (EntryKey × X)) → is_sorted key_cmp (erased es) ≡ is_sorted key_cmp es
  erased_sorted [] = refl
  erased_sorted (e ∷ es) = ap (λ b. b && is_sorted key_cmp (erased es)) (erased_below e.0 es) ∙ ap (λ b. below_all key_cmp e.0 es && b) (erased_sorted es)

  erased_length : (es : List (EntryKey × X)) → length (erased es) ≡ length es
  erased_length [] = refl
  erased_length (e ∷ es) = let rest = erased_length es in omega (arith, rest)

same_unit : {X Y : Type 0} (o : Option X) (p : Option Y) → is_some o ≡ is_some p → option_map (λ _. tt {0}) o ≡ option_map (λ _. tt {0}) p
same_unit None None is = refl
same_unit None (Some y) is = cc
same_unit (Some x) None is = cc
same_unit (Some x) (Some y) is = refl

both_ways : (a b : Bool) → (a ≡ true → b ≡ true) → (b ≡ true → a ≡ true) → a ≡ b
both_ways true b there back = sym (there refl)
both_ways false true there back = back refl
both_ways false false there back = refl

module _ {X Y : Type 0} (m : finite.FinMap key_cmp X) (n : finite.FinMap key_cmp Y) where
  pub same_number : ((q : EntryKey) → IsSome (finite.get m q) → IsSome (finite.get n q)) → ((q : EntryKey) → IsSome (finite.get n q) → IsSome (finite.get m q))
      → finite.len m ≡ finite.len n
  same_number there back =
      let finds : (q : EntryKey) → find key_cmp q (erased (finite.entries m)) ≡ find key_cmp q (erased (finite.entries n)) =
      (λ q. erased_found q (finite.entries m)
      ∙ same_unit (find key_cmp q (finite.entries m)) (find key_cmp q (finite.entries n))
      (ap is_some (sym (finite.get-entries m q)) ∙ both_ways _ _ (there q) (back q) ∙ ap is_some (finite.get-entries n q))
      ∙ sym (erased_found q (finite.entries n))) in
      let same : erased (finite.entries m) ≡ erased (finite.entries n) =
      same_entries key_cmp key_cmp_total key_cmp_antisymmetric (erased (finite.entries m)) (erased (finite.entries n))
      (subst T (sym (erased_sorted (finite.entries m))) (finite.entries_sorted m)) (subst T (sym (erased_sorted (finite.entries n))) (finite.entries_sorted n))
      finds in
      finite.len-entries m ∙ sym (erased_length (finite.entries m)) ∙ ap length same ∙ erased_length (finite.entries n) ∙ sym (finite.len-entries n)
