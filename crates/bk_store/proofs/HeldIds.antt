-- The logs that are held, by rising id: the first entry of a table from an id on.
use Rattle.std.proofs.Common.{◌≡◌, ℕ, ◌<◌, ◌≤◌, false, List, [], ◌∷◌, Option, Some, None, IsSome, IfSome, is_some, is_gt, true, sym, ap, subst, ◌∙◌, arith}
use Rattle.std.proofs.Math.Decide.{dec_le}
use Rattle.std.specs.Ordering.{nat_cmp}
use Rattle.std.specs.BTreeMap.{BTreeMap}
use Rattle.std.specs.BTreeMap as tree
use Rattle.std.specs.BTreeMap.Range.{IsRangeOf}
use Rattle.std.specs.declared.ops.Bound.TheVariants.{Included, Unbounded}
use Rattle.std.proofs.lemmas.Map.Keys.{le_from_not_gt}
use Rattle.std.proofs.lemmas.Bool.Decides.{nat_tests}
use Rattle.std.specs.FinMap as finite
use Rattle.bk_accounts.proofs.Maps.{get-entries}
use Rattle.bk_store.specs.Logs.{IsNextHeld}
use Rattle.bk_store.specs.State.{StoreParts}
use Rattle.bk_store.specs.Invariant.{StructuralInvariant}
use Rattle.bk_store.proofs.Cases.{some_value}

not_gt : (a b : ℕ) → a ≤ b → is_gt (nat_cmp a b) ≡ false
not_gt a b under = grind (arith, nat_tests)

module _ {X : Type 0} (m : BTreeMap ℕ X) (table : finite.FinMap nat_cmp X) (view_is : finite.from_entries m.entries ≡ table) (from : ℕ) where
  same_at : (id : ℕ) → finite.get table id ≡ tree.get nat_cmp m id
  same_at id = ap (λ t. finite.get t id) (sym view_is) ∙ get-entries m.entries id

  pub none_from : (r : List (ℕ × X)) → r ≡ [] → IsRangeOf nat_cmp (Included from) Unbounded m r → (id : ℕ) → IsSome (finite.get table id) → id < from
  none_from r none range id there = elim (dec_le from id) [
    | no below ↦ omega (arith, below)
    | yes above ↦
        let past = range.5 none id (not_gt from id above, tt) in
        absurd (let is = ap is_some (sym (same_at id ∙ past)) ∙ there in cc)
  ]

  pub first_from : (e : ℕ × X) (r t : List (ℕ × X)) → r ≡ e ∷ t → IsRangeOf nat_cmp (Included from) Unbounded m r
      → IsSome (finite.get table e.0) × (from ≤ e.0) × ((other : ℕ) → IsSome (finite.get table other) → from ≤ other → e.0 ≤ other)
  first_from e r t is range =
      let ranged = subst (λ l. IsRangeOf nat_cmp (Included from) Unbounded m l) is range in (
        ap is_some (same_at e.0 ∙ ranged.1.1),
        le_from_not_gt from e.0 ranged.1.0.0,
        λ other there above. le_from_not_gt e.0 other
            (ranged.2 other (not_gt from other above, tt) (ap is_some (sym (same_at other)) ∙ there)),
      )

  -- the id itself, where its log is held
  pub here_first : is_some (tree.get nat_cmp m from) ≡ true
      → IsSome (finite.get table from) × (from ≤ from) × ((other : ℕ) → IsSome (finite.get table other) → from ≤ other → from ≤ other)
  here_first there = (ap is_some (same_at from) ∙ there, omega arith, λ other held above. above)

-- the id of a log that is held is one of a log
pub held_from : (p : StoreParts) → StructuralInvariant p → (from : ℕ) (o : Option ℕ) → IsNextHeld p.state.logs from o → IfSome o (λ id. id < 2147483648)
held_from p fits from None is = tt
held_from p fits from (Some id) is =
    let log = some_value (finite.get p.state.logs id) is.0 in
    let below = (fits.logs.each id log.0 log.1).below in
    let ids = fits.limits.ids in
    omega (arith, below, ids)

pub held_id : (p : StoreParts) → StructuralInvariant p → (id : ℕ) → IsSome (finite.get p.state.logs id) → id < 2147483648
held_id p fits id there =
    let log = some_value (finite.get p.state.logs id) there in
    let below = (fits.logs.each id log.0 log.1).below in
    let ids = fits.limits.ids in
    omega (arith, below, ids)
