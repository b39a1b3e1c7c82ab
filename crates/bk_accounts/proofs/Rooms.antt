-- The rooms of an account after each change.
use Rattle.std.proofs.Common.{◌≡◌, ℕ, Bool, true, false, cond, not, ◌&&◌, ◌||◌, ◌==◌, Some, None, Option, nat_cmp, refl, sym, ap, ◌∙◌, eqb-true}
use Rattle.std.specs.Option.{is_some}
use Rattle.std.specs.Cmp.{nat_cmp_total, eq_by_cmp_equiv, unsigned_tied}
use Rattle.std.specs.FinMap.{FinMap, get, insert, get-insert, get-remove}
use Rattle.std.proofs.Math.Bool.{or-false}
use Rattle.bk_accounts.specs.Account.{Account, has_room, with_room, with_size, without_size}

-- an inserted key is in the map
room-insert : (m : FinMap nat_cmp ℕ) (k v q : ℕ) → is_some (get (insert m k v) q) ≡ (is_some (get m q) || q == k)
room-insert m k v q = ap is_some (get-insert nat_cmp_total m k v q) ∙ ap (λ b. is_some (cond b (Some v) (get m q))) (unsigned_tied q k)
    ∙ bits (get m q) (q == k)
  where
    bits : (o : Option ℕ) (b : Bool) → is_some (cond b (Some v) o) ≡ (is_some o || b)
    bits (Some w) true = refl
    bits (Some w) false = refl
    bits None true = refl
    bits None false = refl

-- inserting an existing key adds no key
there_again : (m : FinMap nat_cmp ℕ) (k q : ℕ) → is_some (get m k) ≡ true → (is_some (get m q) || q == k) ≡ is_some (get m q)
there_again m k q there =
    elim (q == k) as (λ b. (q == k) ≡ b → (is_some (get m q) || b) ≡ is_some (get m q)) [
      | true ↦ λ same. let here : is_some (get m q) ≡ true = ap (λ n. is_some (get m n)) (eqb-true q k same) ∙ there in ap (λ b. b || true) here ∙ sym here
      | false ↦ λ _. or-false (is_some (get m q))
    ] refl

pub room-with_room : (account : Account) (ledger other : ℕ) → has_room (with_room ledger account) other ≡ (has_room account other || other == ledger)
room-with_room account ledger other =
    elim (has_room account ledger)
    as (λ b. has_room account ledger ≡ b → is_some (get (cond b account.live (insert account.live ledger 0)) other)
    ≡ (has_room account other || other == ledger)) [
      | true ↦ λ there. sym (there_again account.live ledger other there)
      | false ↦ λ _. room-insert account.live ledger 0 other
    ] refl

pub room-with_size : (account : Account) (ledger size other : ℕ) → has_room account ledger ≡ true
    → has_room (with_size ledger size account) other ≡ has_room account other
room-with_size account ledger size other there = room-insert account.live ledger _ other ∙ there_again account.live ledger other there

pub room-without_size : (account : Account) (ledger other : ℕ)
    → has_room (without_size ledger account) other ≡ (has_room account other && not (ledger == other))
room-without_size account ledger other =
    ap is_some (get-remove nat_cmp_total account.live ledger other)
    ∙ ap (λ b. is_some (cond b None (get account.live other))) ((eq_by_cmp_equiv nat_cmp_total).symm other ledger ∙ unsigned_tied ledger other)
    ∙ bits (get account.live other) (ledger == other)
  where
    bits : (o : Option ℕ) (b : Bool) → is_some (cond b None o) ≡ (is_some o && not b)
    bits (Some w) true = refl
    bits (Some w) false = refl
    bits None true = refl
    bits None false = refl
