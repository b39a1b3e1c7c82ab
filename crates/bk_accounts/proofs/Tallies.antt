-- An account has the sums of its rows: after making room, adding a row, and forgetting a ledger.
use Rattle.std.proofs.Common.{◌≡◌, ℕ, ◌+◌, Bool, true, false, cond, not, ◌&&◌, ◌||◌, ◌==◌, List, [], ◌∷◌, ◌++◌, map, Some, None, nat_cmp, if◌then◌else◌}
use Rattle.std.proofs.Common.{unwrap_or, refl, sym, ap, ◌∙◌, eqb-true, arith}
use Rattle.std.specs.Option.{is_some}
use Rattle.std.specs.Cmp.{nat_cmp_total, unsigned_tied}
use Rattle.std.specs.FinMap.{FinMap, get, insert, remove, get-empty, get-insert, get-remove}
use Rattle.std.proofs.lemmas.List.Sums.{sum_by-cons, sum_by_push}
use Rattle.std.proofs.lemmas.Bool.Decides.{nat_tests}
use Rattle.bk_accounts.specs.Account.{Account, fresh, ledger_size, with_room, with_size, with_dead_size, without_size}
use Rattle.bk_accounts.specs.Rows.{Row, Tallies, total_of, remaining_of, remaining_of_ledger, forget_row}
use Rattle.bk_accounts.proofs.ValueSums.{sum-empty, sum-insert, sum-remove}

-- size of a ledger after an insertion
pub size-insert : (m : FinMap nat_cmp ℕ) (k v q : ℕ) → unwrap_or (get (insert m k v) q) 0 ≡ (if q == k then v else unwrap_or (get m q) 0)
size-insert m k v q =
    ap (λ o. unwrap_or o 0) (get-insert nat_cmp_total m k v q)
    ∙ ap (λ b. unwrap_or (cond b (Some v) (get m q)) 0) (unsigned_tied q k) ∙ either (q == k)
  where
    either : (b : Bool) → unwrap_or (cond b (Some v) (get m q)) 0 ≡ (if b then v else unwrap_or (get m q) 0)
    either true = refl
    either false = refl

-- a removed ledger has no size
pub size-remove : (m : FinMap nat_cmp ℕ) (k q : ℕ) → unwrap_or (get (remove m k) q) 0 ≡ (if q == k then 0 else unwrap_or (get m q) 0)
size-remove m k q =
    ap (λ o. unwrap_or o 0) (get-remove nat_cmp_total m k q)
    ∙ ap (λ b. unwrap_or (cond b None (get m q)) 0) (unsigned_tied q k) ∙ either (q == k)
  where
    either : (b : Bool) → unwrap_or (cond b None (get m q)) 0 ≡ (if b then 0 else unwrap_or (get m q) 0)
    either true = refl
    either false = refl

-- no rows
pub tallies_fresh : Tallies [] fresh
tallies_fresh = record {
  total = refl;
  remaining = sum-empty;
  by_ledger = λ ledger. ap (λ o. unwrap_or o 0) (get-empty nat_cmp ledger);
}

-- making room changes no sum
pub tallies_room : (rows : List Row) (account : Account) (ledger : ℕ) → Tallies rows account → Tallies rows (with_room ledger account)
tallies_room rows account ledger tallies =
    elim (get account.live ledger)
    as (λ o. get account.live ledger ≡ o → Tallies rows (record account { live = cond (is_some o) account.live (insert account.live ledger 0) })) [
      | Some size ↦ λ _. record { total = tallies.total; remaining = tallies.remaining; by_ledger = tallies.by_ledger }
      | None ↦ λ none.
          let gone : unwrap_or (get account.live ledger) 0 ≡ 0 = ap (λ o. unwrap_or o 0) none in
          record {
            total = tallies.total;
            remaining = omega (arith, tallies.remaining, sum-insert account.live ledger 0);
            by_ledger = λ other. size-insert account.live ledger 0 other ∙ same_zero other ledger account.live gone ∙ tallies.by_ledger other;
          }
    ] refl
  where
    same_zero : (other ledger : ℕ) (m : FinMap nat_cmp ℕ) → unwrap_or (get m ledger) 0 ≡ 0
        → (if other == ledger then 0 else unwrap_or (get m other) 0) ≡ unwrap_or (get m other) 0
    same_zero other ledger m gone =
        elim (other == ledger) as (λ b. (other == ledger) ≡ b → (if b then 0 else unwrap_or (get m other) 0) ≡ unwrap_or (get m other) 0) [
          | true ↦ λ same. sym gone ∙ ap (λ q. unwrap_or (get m q) 0) (sym (eqb-true other ledger same))
          | false ↦ λ _. refl
        ] refl

-- counting a size adds a row
pub tallies_count : (rows : List Row) (account : Account) (ledger size : ℕ) → Tallies rows account
    → Tallies (rows ++ (record { ledger = ledger; size = size; forgotten = false }) ∷ []) (with_size ledger size account)
tallies_count rows account ledger size tallies =
    let row : Row = record { ledger = ledger; size = size; forgotten = false } in
    let sum_is = sum-insert account.live ledger (ledger_size account ledger + size) in
    record {
      total = ap (λ n. n + size) tallies.total ∙ sym (sum_by_push (λ row. row.size) rows row);
      remaining = omega (arith, tallies.remaining, sum_is, sum_by_push (λ row. if row.forgotten then 0 else row.size) rows row);
      by_ledger = λ other.
          size-insert account.live ledger (ledger_size account ledger + size) other
          ∙ added other
          ∙ sym (sum_by_push (λ row. if other == row.ledger && not row.forgotten then row.size else 0) rows row);
    }
  where
    added : (other : ℕ) → (if other == ledger then ledger_size account ledger + size else ledger_size account other)
        ≡ remaining_of_ledger other rows + (if other == ledger && true then size else 0)
    added other =
        elim (other == ledger)
        as (λ b. (other == ledger) ≡ b → (if b then ledger_size account ledger + size else ledger_size account other)
        ≡ remaining_of_ledger other rows + (if b && true then size else 0)) [
          | true ↦ λ same. ap (λ q. ledger_size account q + size) (sym (eqb-true other ledger same)) ∙ ap (λ n. n + size) (tallies.by_ledger other)
          | false ↦ λ _. omega (arith, tallies.by_ledger other)
        ] refl

-- counting a size of a deleted ledger adds a row of which nothing remains
pub tallies_dead : (rows : List Row) (account : Account) (ledger size : ℕ) → Tallies rows account
    → Tallies (rows ++ (record { ledger = ledger; size = size; forgotten = true }) ∷ []) (with_dead_size size account)
tallies_dead rows account ledger size tallies =
    let row : Row = record { ledger = ledger; size = size; forgotten = true } in
    record {
      total = ap (λ n. n + size) tallies.total ∙ sym (sum_by_push (λ row. row.size) rows row);
      remaining = omega (arith, tallies.remaining, sum_by_push (λ row. if row.forgotten then 0 else row.size) rows row);
      by_ledger = λ other.
          tallies.by_ledger other ∙ zero (other == ledger) (remaining_of_ledger other rows)
          ∙ sym (sum_by_push (λ row. if other == row.ledger && not row.forgotten then row.size else 0) rows row);
    }
  where
    zero : (b : Bool) (n : ℕ) → n ≡ n + (if b && false then size else 0)
    zero true n = omega arith
    zero false n = omega arith

-- remaining bytes of a row
abbrev kept_size : Row → ℕ
kept_size row = if row.forgotten then 0 else row.size

-- remaining bytes of a row, for one ledger
abbrev kept_size_of : ℕ → Row → ℕ
kept_size_of ledger row = if ledger == row.ledger && not row.forgotten then row.size else 0

total-forget : (ledger : ℕ) (rows : List Row) → total_of (map (forget_row ledger) rows) ≡ total_of rows
total-forget ledger [] = refl
total-forget ledger (row ∷ rows) =
    sum_by-cons (λ r. r.size) (forget_row ledger row) (map (forget_row ledger) rows) ∙ ap (λ n. row.size + n) (total-forget ledger rows)
    ∙ sym (sum_by-cons (λ r. r.size) row rows)

-- the remaining bytes of a row after `forget`, plus those of the ledger, are those before
row-forget : (ledger : ℕ) (row : Row) → kept_size (forget_row ledger row) + kept_size_of ledger row ≡ kept_size row
row-forget ledger row = bits (ledger == row.ledger) row.forgotten row.size
  where
    bits : (here gone : Bool) (size : ℕ) → (if gone || here then 0 else size) + (if here && not gone then size else 0) ≡ (if gone then 0 else size)
    bits true true size = refl
    bits true false size = omega arith
    bits false true size = refl
    bits false false size = omega arith

remaining-forget : (ledger : ℕ) (rows : List Row) → remaining_of (map (forget_row ledger) rows) + remaining_of_ledger ledger rows ≡ remaining_of rows
remaining-forget ledger [] = refl
remaining-forget ledger (row ∷ rows) =
    omega (
      arith,
      row-forget ledger row,
      remaining-forget ledger rows,
      sum_by-cons kept_size (forget_row ledger row) (map (forget_row ledger) rows),
      sum_by-cons kept_size row rows,
      sum_by-cons (kept_size_of ledger) row rows,
    )

row_of-forget : (other ledger : ℕ) (row : Row) → kept_size_of other (forget_row ledger row) ≡ (if other == ledger then 0 else kept_size_of other row)
row_of-forget other ledger row = bits row.ledger row.forgotten row.size
  where
    bits : (here : ℕ) (gone : Bool) (size : ℕ) → (if other == here && not (gone || ledger == here) then size else 0)
        ≡ (if other == ledger then 0 else if other == here && not gone then size else 0)
    bits here true size = grind (arith, nat_tests)
    bits here false size = grind (arith, nat_tests)

remaining_of-forget : (other ledger : ℕ) (rows : List Row)
    → remaining_of_ledger other (map (forget_row ledger) rows) ≡ (if other == ledger then 0 else remaining_of_ledger other rows)
remaining_of-forget other ledger [] = elim (other == ledger) as (λ b. remaining_of_ledger other [] ≡ (if b then 0 else remaining_of_ledger other []))
    [ true ↦ refl | false ↦ refl ]
remaining_of-forget other ledger (row ∷ rows) =
    sum_by-cons (kept_size_of other) (forget_row ledger row) (map (forget_row ledger) rows)
    ∙ ap (λ n. n + remaining_of_ledger other (map (forget_row ledger) rows)) (row_of-forget other ledger row)
    ∙ ap (λ n. (if other == ledger then 0 else kept_size_of other row) + n) (remaining_of-forget other ledger rows)
    ∙ both (other == ledger) (kept_size_of other row) (remaining_of_ledger other rows)
    ∙ ap (λ n. if other == ledger then 0 else n) (sym (sum_by-cons (kept_size_of other) row rows))
  where
    both : (b : Bool) (m n : ℕ) → (if b then 0 else m) + (if b then 0 else n) ≡ (if b then 0 else m + n)
    both true m n = refl
    both false m n = refl

-- forgetting a ledger forgets it in each row
pub tallies_forget : (rows : List Row) (account : Account) (ledger : ℕ) → Tallies rows account
    → Tallies (map (forget_row ledger) rows) (without_size ledger account)
tallies_forget rows account ledger tallies = record {
  total = tallies.total ∙ sym (total-forget ledger rows);
  remaining = omega (arith, tallies.remaining, tallies.by_ledger ledger, sum-remove account.live ledger, remaining-forget ledger rows);
  by_ledger = λ other.
      size-remove account.live ledger other ∙ ap (λ n. if other == ledger then 0 else n) (tallies.by_ledger other)
      ∙ sym (remaining_of-forget other ledger rows);
}
