-- The same page, of the same length at most.
use Rattle.std.proofs.Common.{◌≡◌, ℕ, List, sym, subst}
use Rattle.bk_store.specs.LedgerReads.{IsPage}

pub same_page : (P : ℕ → Type 0) (from a b : ℕ) (xs ys : List ℕ) → IsPage P from a xs → a ≡ b → ys ≡ xs → IsPage P from b ys
same_page P from a b xs ys is most same = subst (λ (n : ℕ). IsPage P from n ys) most (subst (λ (zs : List ℕ). IsPage P from a zs) (sym same) is)
