-- Logs that are tallied one after another: which are held, with which entries, and the ids that
-- they have.
use Rattle.std.proofs.Common.{◌≡◌, ◌⊎◌, inl, inr, ℕ, ◌+◌, ◌<◌, ◌≤◌, ◌^◌, true, false, cond, ◌==◌, if◌then◌else◌, List, [], ◌∷◌}
use Rattle.std.proofs.Common.{◌++◌, Some, refl, sym, ap, subst, ◌∙◌, arith, eqb-true, eq-eqb}
use Rattle.std.specs.List.{AllByRecursion}
use Rattle.std.specs.Cmp.{nat_cmp_total, unsigned_tied}
use Rattle.std.specs.FinMap as finite
use Rattle.bk_record.specs.Files.{In}
use Rattle.bk_store.specs.Logs.{Logs, found_log}
use Rattle.bk_store.specs.Found.{LogRead, AreIds, logs_with}
use Rattle.bk_store.proofs.OpenedSums.{Lists, with_list, with_lists}

-- the log of this read is held, with these entries
pub record IsHeldAs (reads : List LogRead) (lists : Lists) (logs : Logs) (id : ℕ) (r : LogRead) : Type 0 where
  pub there : In r reads
  pub own : r.id ≡ id
  pub listed : lists id ≡ Some r.founds
  pub held : finite.get logs id ≡ Some (found_log r.view r.slot r.end)

-- no read is of this log, which is as it was before
pub record IsElsewhere (reads : List LogRead) (old : Lists) (before : Logs) (lists : Lists) (logs : Logs) (id : ℕ) : Type 0 where
  pub apart : (r : LogRead) → In r reads → r.id ≡ id → ⊥
  pub listed : lists id ≡ old id
  pub held : finite.get logs id ≡ finite.get before id

abbrev pub HeldOr : List LogRead → Lists → Logs → Lists → Logs → ℕ → Type 0
HeldOr reads old before lists logs id = IsElsewhere reads old before lists logs id ⊎ ((r : LogRead) × IsHeldAs reads lists logs id r)

abbrev with_log : Logs → LogRead → Logs
with_log logs r = finite.insert logs r.id (found_log r.view r.slot r.end)

get-with_log : (logs : Logs) (r : LogRead) (id : ℕ)
    → finite.get (with_log logs r) id ≡ (if id == r.id then Some (found_log r.view r.slot r.end) else finite.get logs id)
get-with_log logs r id =
    finite.get-insert nat_cmp_total logs r.id (found_log r.view r.slot r.end) id
    ∙ ap (λ b. cond b (Some (found_log r.view r.slot r.end)) (finite.get logs id)) (unsigned_tied id r.id)

pub each_log : (reads : List LogRead) (old : Lists) (before : Logs) (id : ℕ) → HeldOr reads old before (with_lists old reads) (logs_with before reads) id
each_log [] old before id = inl (record { apart = λ r never. absurd never; listed = refl; held = refl })
each_log (r ∷ later) old before id = elim (each_log later (with_list old r.id r.founds) (with_log before r) id) [
  | inr found ↦ inr (found.0, record { there = inr found.1.there; own = found.1.own; listed = found.1.listed; held = found.1.held })
  | inl apart ↦ elim (id == r.id) as (λ b. (id == r.id) ≡ b
      → HeldOr (r ∷ later) old before (with_lists (with_list old r.id r.founds) later) (logs_with (with_log before r) later) id) [
        | true ↦ λ same. inr (
          r,
          record {
            there = inl refl;
            own = sym (eqb-true id r.id same);
            listed = apart.listed ∙ ap (λ b. if b then Some r.founds else old id) same;
            held = apart.held ∙ get-with_log before r id ∙ ap (λ b. if b then Some (found_log r.view r.slot r.end) else finite.get before id) same;
          },
        )
        | false ↦ λ other. inl (record {
          apart = λ x there own. elim there [
            | inl here ↦ let wrong : (id == r.id) ≡ true = eq-eqb id r.id (sym own ∙ ap (λ (y : LogRead). y.id) (sym here)) in cc
            | inr behind ↦ apart.apart x behind own
          ];
          listed = apart.listed ∙ ap (λ b. if b then Some r.founds else old id) other;
          held = apart.held ∙ get-with_log before r id ∙ ap (λ b. if b then Some (found_log r.view r.slot r.end) else finite.get before id) other;
        })
      ] refl
]

-- ---- ids

pub ids_within : (first next : ℕ) (ids : List ℕ) → AreIds first ids next → first ≤ next
ids_within first next [] is = omega (arith, is)
ids_within first next (id ∷ ids) is = omega (arith, is.0, ids_within (id + 1) next ids is.2)

-- each id lies before the next one
pub id_below : (first next : ℕ) (ids : List ℕ) (id : ℕ) → AreIds first ids next → In id ids → id < next
id_below first next [] id is never = absurd never
id_below first next (x ∷ ids) id is (inl here) = omega (arith, here, ids_within (x + 1) next ids is.2)
id_below first next (x ∷ ids) id is (inr later) = id_below (x + 1) next ids id is.2 later

-- and the next one is the first or after one of them
pub next_cases : (first next : ℕ) (ids : List ℕ) → AreIds first ids next → (next ≡ first) ⊎ ((last : ℕ) × ((next ≡ last + 1) × ((last < 2 ^ 31) × In last ids)))
next_cases first next [] is = inl is
next_cases first next (x ∷ ids) is = elim (next_cases (x + 1) next ids is.2) [
  | inl same ↦ inr (x, (same, (is.1, inl refl)))
  | inr behind ↦ inr (behind.0, (behind.1.0, (behind.1.1.0, inr behind.1.1.1)))
]

-- one id more
pub ids_push : (first next id : ℕ) (ids : List ℕ) → AreIds first ids next → next ≤ id → id < 2 ^ 31 → AreIds first (ids ++ id ∷ []) (id + 1)
ids_push first next id [] is above below = (omega (arith, is, above), below, refl)
ids_push first next id (x ∷ ids) is above below = (is.0, is.1, ids_push (x + 1) next id ids is.2 above below)

-- ---- each of a list

pub all-In : {X : Type 0} (P : X → Type 0) (x : X) (xs : List X) → AllByRecursion P xs → In x xs → P x
all-In P x [] all never = absurd never
all-In P x (y ∷ ys) all (inl here) = subst P here all.0
all-In P x (y ∷ ys) all (inr later) = all-In P x ys all.1 later

pub all_push : {X : Type 0} (P : X → Type 0) (x : X) (xs : List X) → AllByRecursion P xs → P x → AllByRecursion P (xs ++ x ∷ [])
all_push P x [] all is = (is, tt)
all_push P x (y ∷ ys) all is = (all.0, all_push P x ys all.1 is)
