-- The bytes of a log's entries by ledger are never more than the bytes that were scanned.
use Rattle.std.proofs.Common.{◌≡◌, ℕ, ◌+◌, ◌-◌, ◌≤◌, nat_cmp, ap, ◌∙◌, arith, unwrap_or}
use Rattle.std.specs.FinMap as map
use Rattle.bk_log.specs.Sizes.{Sizes, Tally, size_in, AreWithin}

pub sizes_none : (t : Tally) → t ≡ record { sizes = map.empty; ledger = 0 } → (left ledger : ℕ) → size_in t.sizes ledger + left ≤ left
sizes_none t is left ledger =
    let none : size_in t.sizes ledger ≡ 0 = ap (λ (u : Tally). size_in u.sizes ledger) is ∙ ap (λ o. unwrap_or o 0) (map.get-empty nat_cmp ledger) in
    omega (arith, none)

pub sizes_more : (before now : Sizes) (size left left' bound : ℕ) → ((q : ℕ) → size_in before q + left ≤ bound) → left' + size ≤ left
    → AreWithin before size now → (ledger : ℕ) → size_in now ledger + left' ≤ bound
sizes_more before now size left left' bound fits fewer within ledger =
    omega (arith, within (bound - left) (λ q. omega (arith, fits q)) ledger, fits ledger, fewer)
