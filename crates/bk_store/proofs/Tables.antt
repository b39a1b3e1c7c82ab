-- A table by number, as the finite map of its entries.
use Rattle.std.proofs.Common.{◌≡◌, ℕ, List, length, sym, ap, ◌∙◌, IsSome, is_some, Option, Some, MutBor}
use Rattle.std.specs.Option.{option_copied_mut}
use Rattle.std.specs.Ordering.{nat_cmp}
use Rattle.std.specs.BTreeMap.{BTreeMap, WritesThrough, is_at}
use Rattle.std.specs.FinMap as finite
use Rattle.std.specs.Map.{keys_of, lookup}
use Rattle.std.specs.List.Sorted.{IsStrictlySortedBy}
use Rattle.bk_record.proofs.NumberMaps.{entries-from_rising}
use Rattle.bk_accounts.proofs.Maps.{get-found, get-entries, written, lent as lent_some}

pub len-table : {X : Type 0} (es : List (ℕ × X)) → IsStrictlySortedBy nat_cmp (keys_of es) → finite.len (finite.from_entries {R = nat_cmp} es) ≡ length es
len-table es rises = finite.len-entries (finite.from_entries es) ∙ ap length (entries-from_rising es rises)

module _ {X : Type 0} (m : BTreeMap ℕ X) (table : finite.FinMap nat_cmp X) (key : ℕ) (view_is : finite.from_entries m.entries ≡ table) where
  -- what a loan of a value lends
  pub lent_at : (r : Option (MutBor X)) (value : MutBor X) → option_copied_mut r ≡ lookup (is_at (nat_cmp key)) m.entries → r ≡ Some value
      → finite.get table key ≡ Some value.now
  lent_at r value lent is = ap (λ t. finite.get t key) (sym view_is) ∙ get-found m.entries key _ lent ∙ ap option_copied_mut is

  -- a value that the table has is lent
  pub is_lent : (r : Option (MutBor X)) → option_copied_mut r ≡ lookup (is_at (nat_cmp key)) m.entries → IsSome (finite.get table key) → IsSome r
  is_lent r lent there =
      lent_some r _ lent (ap is_some (sym (get-entries m.entries key) ∙ ap (λ t. finite.get t key) view_is) ∙ there)

  -- a value that was changed through its loan
  pub changed_at : (n : BTreeMap ℕ X) (now : X) → WritesThrough nat_cmp (nat_cmp key) m now n → IsSome (finite.get table key)
      → finite.from_entries n.entries ≡ finite.insert table key now
  changed_at n now writes there =
      written m n key now writes (ap is_some (ap (λ t. finite.get t key) view_is) ∙ there) ∙ ap (λ t. finite.insert t key now) view_is
