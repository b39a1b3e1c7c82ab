-- Cells whose locations are all in one log.
use Rattle.std.proofs.Common.{◌≡◌, ℕ, zero, suc, ◌+◌, ◌<◌, ◌^◌, List, [], ◌∷◌, ◌++◌, refl, sym, subst}
use Rattle.std.specs.List.{AllByRecursion}
use Rattle.bk_record.specs.Location.{Place}
use Rattle.bk_index.specs.Packed.{AreInLog}
use Rattle.bk_index.specs.Runs.{place_behind, cells_of_run}

abbrev IsInLog : ℕ → ℕ × Place → Type 0
IsInLog log cell = cell.1.log ≡ log

both_in_log : (log : ℕ) (cells others : List (ℕ × Place)) → AllByRecursion (IsInLog log) cells → AllByRecursion (IsInLog log) others
    → AllByRecursion (IsInLog log) (cells ++ others)
both_in_log log [] others front back = back
both_in_log log (cell ∷ cells) others front back = (front.0, both_in_log log cells others front.1 back)

pub run_in_log : (offset : ℕ) (place : Place) (size count : ℕ) → AllByRecursion (IsInLog place.log) (cells_of_run offset place size count)
run_in_log offset place size zero = tt
run_in_log offset place size (suc count) = (refl, run_in_log (offset + 1) (place_behind place size) size count)

-- cells and those of a run, whose log is the same if the joint log is known
pub in_log_run : (log : ℕ) (cells : List (ℕ × Place)) (offset : ℕ) (place : Place) (size count : ℕ) → AreInLog log cells → (joint : ℕ)
    → (joint < 2 ^ 31 → (joint ≡ log) × (place.log ≡ log)) → AreInLog joint (cells ++ cells_of_run offset place size count)
in_log_run log cells offset place size count held joint told known =
    let same = told known in
    let others = cells_of_run offset place size count in
    subst (λ l. AllByRecursion (IsInLog l) (cells ++ others)) (sym same.0)
    (both_in_log log cells others (held (subst (λ l. l < 2 ^ 31) same.0 known)) (subst (λ l. AllByRecursion (IsInLog l) others) same.1 (run_in_log offset place size count)))

pub in_log_more : (log : ℕ) (cells : List (ℕ × Place)) (cell : ℕ × Place) → AreInLog log cells → (joint : ℕ)
    → (joint < 2 ^ 31 → (joint ≡ log) × (cell.1.log ≡ log)) → AreInLog joint (cells ++ cell ∷ [])
in_log_more log cells cell held joint told known =
    let same = told known in
    subst (λ l. AllByRecursion (IsInLog l) (cells ++ cell ∷ [])) (sym same.0)
    (both_in_log log cells (cell ∷ []) (held (subst (λ l. l < 2 ^ 31) same.0 known)) (same.1, tt))
