-- How many entries, heads and steps there are at most, and the sum of the sizes.
use Rattle.std.proofs.Common.{◌≡◌, ℕ, zero, suc, ◌+◌, ◌-◌, ◌*◌, ◌^◌, ◌<◌, ◌≤◌, List, [], ◌∷◌, ◌++◌, length, ap, arith, inl, inr}
use Rattle.std.specs.List.{AllByRecursion}
use Rattle.std.proofs.lemmas.Bool.{cases_lt}
use Rattle.std.proofs.lemmas.List.{length-append}
use Rattle.bk_hint.specs.declared.listed.Listed.{Listed}
use Rattle.bk_hint.specs.declared.head.Head.{Head}
use Rattle.bk_hint.specs.Entries.{IsLegal, past, AreFrom, last_of, bytes_of, origin, repeats, first_of, part_of, entries_of, begins, IsSound}
use Rattle.bk_hint.specs.Hint.{HeadFits}
use Rattle.bk_hint.proofs.Steps.{part-next, part-again, past-below}

pub bytes_fit : (before : Listed) (xs : List Listed) → AreFrom (past before) xs → past before + bytes_of xs ≤ past (last_of before xs)
bytes_fit before [] each = omega arith
bytes_fit before (x ∷ xs) each = let rest = bytes_fit x xs each.1.1 in let first = each.1.0 in omega arith

pub bytes_below : (xs : List Listed) → AreFrom (past origin) xs → bytes_of xs < 2 ^ 32 + 4
bytes_below xs each = omega (arith, bytes_fit origin xs each, past-below origin xs (omega arith) each)

pub many_bytes : (from : ℕ) (xs : List Listed) → AreFrom from xs → 20 * length xs ≤ bytes_of xs
many_bytes from [] each = omega arith
many_bytes from (x ∷ xs) each = let rest = many_bytes (past x) xs each.1.1 in let size = each.0.least in omega arith

pub many_below : (xs : List Listed) → AreFrom (past origin) xs → length xs < 2 ^ 31
many_below xs each = omega (arith, bytes_below xs each, many_bytes (past origin) xs each)

-- ---- heads and steps

repeats_some : (count : ℕ) (last : Listed) → 0 < count → 1 ≤ length (repeats count last)
repeats_some zero last some = absurd (omega arith)
repeats_some (suc count) last some = omega arith

part_some : (last : Listed) (step : ℕ) (heads : List Head) → 0 < step → 1 ≤ length (part_of last step heads)
part_some last step heads some =
    elim (cases_lt step (2 ^ 31)) [
      | inl low ↦ omega (arith, ap length (part-next last step heads some low))
      | inr high ↦ omega (arith, ap length (part-again last step heads high), repeats_some (step - 2 ^ 31 + 1) last (omega arith))
    ]

pub few_steps : (last : Listed) (heads : List Head) (steps : List ℕ) → begins steps ≡ length heads → length steps ≤ length (entries_of last heads steps)
unfolding entries_of begins
few_steps last heads [] fit = omega arith
few_steps last [] (zero ∷ steps) fit = absurd (omega (arith, fit))
few_steps last (head ∷ heads) (zero ∷ steps) fit = let rest = few_steps (first_of head) heads steps (omega (arith, fit)) in omega arith
few_steps last heads (suc step ∷ steps) fit =
    let part : List Listed = part_of last (suc step) heads in
    let some : 0 < suc step = omega arith in
    omega (
      arith,
      few_steps (last_of last part) heads steps fit,
      part_some last (suc step) heads some,
      length-append part (entries_of (last_of last part) heads steps),
    )

pub few_begins : (steps : List ℕ) → begins steps ≤ length steps
unfolding begins
few_begins [] = omega arith
few_begins (zero ∷ steps) = let rest = few_begins steps in omega arith
few_begins (suc step ∷ steps) = let rest = few_begins steps in omega arith

pub sound_few_steps : (heads : List Head) (steps : List ℕ) → IsSound heads steps → length steps < 2 ^ 32
sound_few_steps heads steps sound = omega (arith, few_steps origin heads steps sound.heads_fit, many_below (entries_of origin heads steps) sound.in_order)

pub sound_few_heads : (heads : List Head) (steps : List ℕ) → IsSound heads steps → length heads < 2 ^ 32
sound_few_heads heads steps sound = omega (arith, sound_few_steps heads steps sound, few_begins steps, sound.heads_fit)

-- ---- heads of legal entries

pub AreFrom-right : (before : Listed) (xs ys : List Listed) → AreFrom (past before) (xs ++ ys) → AreFrom (past (last_of before xs)) ys
AreFrom-right before [] ys each = each
AreFrom-right before (x ∷ xs) ys each = AreFrom-right x xs ys each.1.1

pub AreFrom-left : (before : Listed) (xs ys : List Listed) → AreFrom (past before) (xs ++ ys) → AreFrom (past before) xs
AreFrom-left before [] ys each = tt
AreFrom-left before (x ∷ xs) ys each = (each.0, (each.1.0, AreFrom-left x xs ys each.1.1))

legal_fits : (head : Head) → IsLegal (first_of head) → HeadFits head
legal_fits head legal = record {
  ledger = omega (arith, legal.ledger);
  entry = omega (arith, legal.id);
  at = omega (arith, legal.ends, legal.least);
  size = omega (arith, legal.most);
}

pub heads_fit : (last : Listed) (heads : List Head) (steps : List ℕ) → begins steps ≡ length heads → AreFrom (past last) (entries_of last heads steps)
    → AllByRecursion HeadFits heads
unfolding entries_of begins
heads_fit last [] [] fit each = tt
heads_fit last (head ∷ heads) [] fit each = absurd (omega (arith, fit))
heads_fit last [] (zero ∷ steps) fit each = tt
heads_fit last (head ∷ heads) (zero ∷ steps) fit each = (legal_fits head each.0, heads_fit (first_of head) heads steps (omega (arith, fit)) each.1.1)
heads_fit last [] (suc step ∷ steps) fit each = tt
heads_fit last (head ∷ heads) (suc step ∷ steps) fit each =
    let part : List Listed = part_of last (suc step) (head ∷ heads) in
    heads_fit (last_of last part) (head ∷ heads) steps fit (AreFrom-right last part (entries_of (last_of last part) (head ∷ heads) steps) each)
