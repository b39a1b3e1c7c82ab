-- The bytes counted last and a log's parts: the map that both represent, after each change.
use Rattle.std.proofs.Common.{◌≡◌, ℕ, ◌+◌, ◌<◌, ◌≤◌, ◌^◌, Bool, true, false, cond, Option, Some, None, IsSome, nat_cmp, is_eq, unwrap_or, refl, sym, ap, subst, ◌∙◌, arith}
use Rattle.std.specs.Option.{is_some}
use Rattle.std.specs.Ordering.{eq_by_cmp}
use Rattle.std.specs.Cmp.{nat_cmp_total, tied_itself}
use Rattle.std.specs.FinMap.{get, insert, contains_key, get-insert, nat_cmp-IsAntisymmetric}
use Rattle.std.proofs.lemmas.Map.Views.{tells_apart}
use Rattle.bk_accounts.specs.Account.{Account, has_room, with_size}
use Rattle.bk_accounts.specs.Parts.{LedgerParts, IsSplit, AreKept, with_last}
use Rattle.bk_accounts.proofs.Maps.{same_by_get}
use Rattle.bk_accounts.proofs.LogAccounts.{account_of, split_count}
use Rattle.bk_accounts.proofs.ValueSums.{get-le-sum}

-- look-up of an inserted key
pub get-inserted : (parts : LedgerParts) (ledger n : ℕ) → get (insert parts ledger n) ledger ≡ Some n
get-inserted parts ledger n =
    get-insert nat_cmp_total parts ledger n ledger ∙ ap (λ r. cond (is_eq r) (Some n) (get parts ledger)) (tied_itself nat_cmp_total ledger)

-- inserting a key twice
insert_twice : (parts : LedgerParts) (ledger n m : ℕ) → insert (insert parts ledger n) ledger m ≡ insert parts ledger m
insert_twice parts ledger n m = same_by_get _ _ (λ q.
    get-insert nat_cmp_total (insert parts ledger n) ledger m q
    ∙ ap (cond (eq_by_cmp nat_cmp q ledger) (Some m)) (get-insert nat_cmp_total parts ledger n q)
    ∙ elim (eq_by_cmp nat_cmp q ledger) as (λ b. cond b (Some m) (cond b (Some n) (get parts q)) ≡ cond b (Some m) (get parts q)) [
      | true ↦ refl
      | false ↦ refl
    ]
    ∙ sym (get-insert nat_cmp_total parts ledger m q))

-- the last ledger has room
pub room_of_last : (parts : LedgerParts) (ledger more : ℕ) → contains_key (with_last parts (Some (ledger, more))) ledger ≡ true
room_of_last parts ledger more = ap is_some (get-inserted parts ledger (unwrap_or (get parts ledger) 0 + more))

-- any other ledger has room if it has a part
pub room_of_other : (parts : LedgerParts) (held more ledger : ℕ) → (held ≡ ledger → ⊥)
    → contains_key (with_last parts (Some (held, more))) ledger ≡ contains_key parts ledger
room_of_other parts held more ledger apart =
    ap is_some (get-insert nat_cmp_total parts held (unwrap_or (get parts held) 0 + more) ledger
    ∙ elim (eq_by_cmp nat_cmp ledger held) as (λ b. eq_by_cmp nat_cmp ledger held ≡ b
    → cond b (Some (unwrap_or (get parts held) 0 + more)) (get parts ledger) ≡ get parts ledger) [
      | true ↦ λ is. absurd (apart (sym (tells_apart nat_cmp-IsAntisymmetric ledger held is)))
      | false ↦ λ _. refl
    ] refl)

-- counting more bytes of the last ledger
pub counted_again : (parts : LedgerParts) (ledger more size : ℕ)
    → insert (with_last parts (Some (ledger, more))) ledger (unwrap_or (get (with_last parts (Some (ledger, more))) ledger) 0 + size)
    ≡ with_last parts (Some (ledger, more + size))
counted_again parts ledger more size =
    let part = unwrap_or (get parts ledger) 0 in
    let more_is : part + more + size ≡ part + (more + size) = omega arith in
    ap (λ o. insert (insert parts ledger (part + more)) ledger (unwrap_or o 0 + size)) (get-inserted parts ledger (part + more))
    ∙ insert_twice parts ledger (part + more) (part + more + size) ∙ ap (insert parts ledger) more_is

-- invariant after counting more bytes of the last ledger
pub kept_again : (total remaining : ℕ) (parts : LedgerParts) (ledger more size : ℕ) → AreKept total remaining parts (Some (ledger, more)) → total + size < 2 ^ 32
    → AreKept (total + size) (remaining + size) parts (Some (ledger, more + size))
kept_again total remaining parts ledger more size kept fits =
    let live = with_last parts (Some (ledger, more)) in
    let part = unwrap_or (get parts ledger) 0 in
    let least : part + more ≤ remaining = omega (arith, kept.split.sum_is, get-le-sum live ledger, ap (λ o. unwrap_or o 0) (get-inserted parts ledger (part + more))) in
    record {
      split = subst (IsSplit (total + size) (remaining + size))
          (ap (λ o. insert live ledger (unwrap_or o 0 + size)) (sym (get-inserted parts ledger (part + more))) ∙ counted_again parts ledger more size)
          (split_count kept.split ledger (part + more) size (get-inserted parts ledger (part + more)));
      held = record { there = kept.held.there; fits = omega (arith, kept.split.within) };
    }

-- the bytes counted last are at most the total
pub last_fits : (total remaining : ℕ) (parts : LedgerParts) (ledger more size : ℕ) → AreKept total remaining parts (Some (ledger, more)) → total + size < 2 ^ 32
    → more + size < 2 ^ 32
last_fits total remaining parts ledger more size kept fits =
    let next = (kept_again total remaining parts ledger more size kept fits).held.fits in omega (arith, next)

-- invariant after counting another ledger, with nothing counted last before
pub kept_next : (total remaining : ℕ) (parts : LedgerParts) (ledger size : ℕ) → IsSplit total remaining parts → IsSome (get parts ledger) → total + size < 2 ^ 32
    → AreKept (total + size) (remaining + size) parts (Some (ledger, size))
kept_next total remaining parts ledger size split there fits =
    elim (get parts ledger) as (λ o. get parts ledger ≡ o → IsSome o → AreKept (total + size) (remaining + size) parts (Some (ledger, size))) [
      | None ↦ λ is none. absurd (cc)
      | Some part ↦ λ is _.
          let least : part ≤ remaining = omega (arith, split.sum_is, get-le-sum parts ledger, ap (λ o. unwrap_or o 0) is) in
          let value : unwrap_or (get parts ledger) 0 ≡ part = ap (λ o. unwrap_or o 0) is in
          record {
            split = subst (IsSplit (total + size) (remaining + size)) (ap (λ n. insert parts ledger (n + size)) (sym value))
                (split_count split ledger part size is);
            held = record { there = there; fits = omega (arith, split.within) };
          }
    ] refl there

-- the account after counting more bytes of the last ledger
pub viewed_again : (total named : ℕ) (parts : LedgerParts) (last : Option (ℕ × ℕ)) (account : Account) (ledger more size : ℕ)
    → account_of total named (with_last parts last) ≡ account → last ≡ Some (ledger, more)
    → account_of (total + size) named (with_last parts (Some (ledger, more + size))) ≡ with_size ledger size account
viewed_again total named parts last account ledger more size view_is is =
    ap (account_of (total + size) named)
    (sym (counted_again parts ledger more size)
    ∙ ap (λ l. insert (with_last parts l) ledger (unwrap_or (get (with_last parts l) ledger) 0 + size)) (sym is))
    ∙ ap (with_size ledger size) view_is

-- the account after counting another ledger
pub viewed_next : (total named : ℕ) (live new : LedgerParts) (account : Account) (ledger size : ℕ) → account_of total named live ≡ account → new ≡ live
    → account_of (total + size) named (with_last new (Some (ledger, size))) ≡ with_size ledger size account
viewed_next total named live new account ledger size view_is new_is =
    ap (λ m. account_of (total + size) named (insert m ledger (unwrap_or (get m ledger) 0 + size))) new_is ∙ ap (with_size ledger size) view_is

-- the account is unchanged if the bytes counted last are added to their part
pub viewed_back : (total named : ℕ) (live new : LedgerParts) (account : Account) → account_of total named live ≡ account → new ≡ live
    → account_of total named new ≡ account
viewed_back total named live new account view_is new_is = ap (account_of total named) new_is ∙ view_is

-- then nothing is counted last
pub kept_back : (total remaining : ℕ) (live new : LedgerParts) → IsSplit total remaining live → new ≡ live → AreKept total remaining new None
kept_back total remaining live new split new_is = record { split = subst (IsSplit total remaining) (sym new_is) split; held = tt }

-- a ledger has room in the parts exactly if it has room in the account
pub there_in : (total named : ℕ) (live new : LedgerParts) (account : Account) (ledger : ℕ) (b : Bool) → account_of total named live ≡ account → new ≡ live
    → has_room account ledger ≡ b → is_some (get new ledger) ≡ b
there_in total named live new account ledger b view_is new_is room =
    ap (λ m. is_some (get m ledger)) new_is ∙ ap (λ a. has_room a ledger) view_is ∙ room
