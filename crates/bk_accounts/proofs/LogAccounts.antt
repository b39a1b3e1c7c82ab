-- One log's stored numbers and its map of parts, after each change.
use Rattle.std.proofs.Common.{◌≡◌, ℕ, ◌+◌, ◌-◌, ◌≤◌, cond, Some, None, IsSome, nat_cmp, unwrap_or, sym, ap, ◌∙◌, arith}
use Rattle.std.specs.Option.{is_some}
use Rattle.std.specs.FinMap.{FinMap, get, insert, remove, empty}
use Rattle.bk_accounts.specs.Account.{Account, with_room, with_size, without_size}
use Rattle.bk_accounts.specs.Parts.{IsSplit}
use Rattle.bk_accounts.proofs.ValueSums.{sum-insert, sum-remove, sum-empty, get-le-sum}

-- the account that the fields represent
abbrev pub account_of : ℕ → ℕ → FinMap nat_cmp ℕ → Account
account_of total named parts = record { total = total; named = named; live = parts }

-- no parts add up to 0
pub split_empty : IsSplit 0 0 (empty {R = nat_cmp})
split_empty = record { sum_is = sym sum-empty; within = omega arith }

-- a part is at most what remains
pub part-le : {total remaining : ℕ} {parts : FinMap nat_cmp ℕ} → IsSplit total remaining parts → (ledger : ℕ) → unwrap_or (get parts ledger) 0 ≤ remaining
part-le {parts = parts} split ledger = omega (arith, split.sum_is, get-le-sum parts ledger)

-- new room changes no sum
pub split_room : {total remaining : ℕ} {parts : FinMap nat_cmp ℕ} → IsSplit total remaining parts → (ledger : ℕ) → get parts ledger ≡ None
    → IsSplit total remaining (insert parts ledger 0)
split_room {parts = parts} split ledger none =
    let gone : unwrap_or (get parts ledger) 0 ≡ 0 = ap (λ o. unwrap_or o 0) none in
    record { sum_is = omega (arith, split.sum_is, sum-insert parts ledger 0); within = split.within }

-- counting bytes of a ledger adds them to the remaining bytes and to the total
pub split_count : {total remaining : ℕ} {parts : FinMap nat_cmp ℕ} → IsSplit total remaining parts → (ledger part size : ℕ)
    → get parts ledger ≡ Some part → IsSplit (total + size) (remaining + size) (insert parts ledger (part + size))
split_count {parts = parts} split ledger part size found =
    let was : unwrap_or (get parts ledger) 0 ≡ part = ap (λ o. unwrap_or o 0) found in
    record { sum_is = omega (arith, split.sum_is, sum-insert parts ledger (part + size)); within = omega (arith, split.within) }

-- removing the part of a ledger
pub split_forget : {total remaining : ℕ} {parts : FinMap nat_cmp ℕ} → IsSplit total remaining parts → (ledger part : ℕ)
    → unwrap_or (get parts ledger) 0 ≡ part → IsSplit total (remaining - part) (remove parts ledger)
split_forget {parts = parts} split ledger part was =
    record { sum_is = omega (arith, split.sum_is, sum-remove parts ledger); within = omega (arith, split.within) }

-- the account after a count
pub viewed_count : (total named : ℕ) (parts new : FinMap nat_cmp ℕ) (account : Account) (ledger part size : ℕ)
    → account_of total named parts ≡ account → get parts ledger ≡ Some part → new ≡ insert parts ledger (part + size)
    → account_of (total + size) named new ≡ with_size ledger size account
viewed_count total named parts new account ledger part size view_is found new_is =
    ap (account_of (total + size) named) (new_is ∙ ap (λ o. insert parts ledger (unwrap_or o 0 + size)) (sym found)) ∙ ap (with_size ledger size) view_is

-- the account after a ledger is forgotten
pub viewed_forget : (total named : ℕ) (parts new : FinMap nat_cmp ℕ) (account : Account) (ledger : ℕ)
    → account_of total named parts ≡ account → new ≡ remove parts ledger → account_of total named new ≡ without_size ledger account
viewed_forget total named parts new account ledger view_is new_is =
    ap (account_of total named) new_is ∙ ap (without_size ledger) view_is

-- the account after new room
pub viewed_room : (total named : ℕ) (parts new : FinMap nat_cmp ℕ) (account : Account) (ledger : ℕ)
    → account_of total named parts ≡ account → get parts ledger ≡ None → new ≡ insert parts ledger 0 → account_of total named new ≡ with_room ledger account
viewed_room total named parts new account ledger view_is none new_is =
    ap (account_of total named) (new_is ∙ ap (λ o. cond (is_some o) parts (insert parts ledger 0)) (sym none)) ∙ ap (with_room ledger) view_is

-- the account if the room existed
pub viewed_same : (total named : ℕ) (parts : FinMap nat_cmp ℕ) (account : Account) (ledger : ℕ)
    → account_of total named parts ≡ account → IsSome (get parts ledger) → account ≡ with_room ledger account
viewed_same total named parts account ledger view_is there =
    sym view_is ∙ ap (account_of total named) (ap (λ b. cond b parts (insert parts ledger 0)) (sym there)) ∙ ap (with_room ledger) view_is
