-- A sum of one number of leases for each slot, slot after slot.
use Rattle.std.proofs.Common.{◌≡◌, ℕ, ◌+◌, ◌-◌, ◌^◌, ◌<◌, min, List, [], ◌∷◌, ◌++◌, length, get_or, length-append, sym, ap, ◌∙◌, subst, arith}
use Rattle.std.specs.List.{sum}
use Rattle.std.proofs.lemmas.List.Sums.{sum_by-append}
use Rattle.std.proofs.Math.ListN.{get_or-append}
use Rattle.std.proofs.Math.Seq.{get_or-append_seam}
use mathlib.Core.Logic.{dite}
use native.Mathlib.Decide.{ℕ_discrete}
use Rattle.bk_lease.specs.Leases.{state_at}
use Rattle.bk_lease.specs.Values.{SlotTable, AllowsCountIn}

-- the total of the slots before `n`, at most 2^64 - 1
pub record CountsBelow (keeper : SlotTable) (n total : ℕ) : Type 0 where
  pub counts : List ℕ
  pub one_each : length counts ≡ n
  pub allowed : (slot : ℕ) → slot < n → AllowsCountIn keeper slot (state_at keeper.slots slot) (get_or counts slot 0)
  pub sum_is : total ≡ min (sum counts) (2 ^ 64 - 1)

module _ (keeper : SlotTable) where
  pub one_more_below : (n total count now : ℕ) → now ≡ min (total + count) (2 ^ 64 - 1) → CountsBelow keeper n total
      → AllowsCountIn keeper n (state_at keeper.slots n) count → CountsBelow keeper (n + 1) now
  one_more_below n total count now is below allows = let counts : List ℕ = below.counts in let longer : List ℕ = counts ++ count ∷ [] in
      let sized : length counts ≡ n = below.one_each in
      let last : get_or longer n 0 ≡ count = ap (λ (i : ℕ). get_or longer i 0) (sym sized) ∙ get_or-append_seam counts count [] 0 in record {
        counts = longer;
        one_each = length-append counts (count ∷ []) ∙ ap (λ (i : ℕ). i + 1) sized;
        allowed = λ slot within. dite (ℕ_discrete slot n)
            (λ same. subst (λ (i : ℕ). AllowsCountIn keeper i (state_at keeper.slots i) (get_or longer i 0)) (sym same)
            (subst (λ (m : ℕ). AllowsCountIn keeper n (state_at keeper.slots n) m) (sym last) allows))
            (λ other. subst (λ (m : ℕ). AllowsCountIn keeper slot (state_at keeper.slots slot) m)
            (sym (get_or-append counts (count ∷ []) 0 slot (omega arith))) (below.allowed slot (omega arith)));
        sum_is = let both = sum_by-append (λ (i : ℕ). i) counts (count ∷ []) in let before = below.sum_is in omega arith;
      }
