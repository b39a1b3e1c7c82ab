-- Walks over runs: counts, sums and places.
use Rattle.std.proofs.Common.{◌≡◌, ℕ, zero, suc, ◌+◌, ◌-◌, ◌*◌, ◌^◌, ◌<◌, ◌≤◌, List, [], ◌∷◌, ◌++◌, length, Some, slice_get, refl, ap, subst, ◌∙◌, arith}
use Rattle.std.proofs.Math.Nat.{mul-le-mul}
use Rattle.std.proofs.lemmas.List.{length-append}
use Rattle.bk_hint.specs.declared.listed.Listed.{Listed}
use Rattle.bk_hint.specs.declared.runs.ListedRun.{ListedRun}
use Rattle.bk_hint.specs.Entries.{IsLegal, past, AreFrom, last_of, bytes_of, next_of, repeats}
use Rattle.bk_hint.specs.Runs.{entries_of_run, entries_of_runs}
use Rattle.bk_hint.specs.Checking.{repeated_by, IsRepeatable}
use Rattle.bk_hint.proofs.Counts.{AreFrom-right}
use Rattle.bk_hint.proofs.Turning.{repeatable}

-- ---- one run

repeats_many : (count : ℕ) (last : Listed) → length (repeats count last) ≡ count
repeats_many zero last = refl
repeats_many (suc count) last = ap suc (repeats_many count (next_of last last.size))

pub run_many : (run : ListedRun) → length (entries_of_run run) ≡ run.again + 1
run_many run = omega (arith, repeats_many run.again run.first)

repeats_bytes : (count : ℕ) (last : Listed) → bytes_of (repeats count last) ≡ count * last.size
repeats_bytes zero last = omega arith
repeats_bytes (suc count) last = omega (arith, repeats_bytes count (next_of last last.size))

pub run_bytes : (run : ListedRun) → bytes_of (entries_of_run run) ≡ (run.again + 1) * run.first.size
run_bytes run = omega (arith, repeats_bytes run.again run.first)

-- a number of entries up to 2 ^ 32, times a size
pub bytes_fit_in : (count size : ℕ) → count ≤ 2 ^ 32 → size < 2 ^ 32 → count * size < 2 ^ 64
bytes_fit_in zero size low fits = omega arith
bytes_fit_in (suc count) size low fits =
    let p : count ≤ 4294967295 = omega (arith, low) in
    let q : size ≤ 4294967295 = omega (arith, fits) in
    omega (arith, mul-le-mul p q, q)

-- the entry at a place
repeats_at : (count place : ℕ) (last : Listed) → place ≤ count → slice_get (last ∷ repeats count last) place ≡ Some (repeated_by place last)
repeats_at count zero last inside =
    let entry : last.key.entry ≡ last.key.entry + 0 = omega arith in
    let at : last.at ≡ last.at + 0 * last.size = omega arith in
    λ i. Some (record { key = record { ledger = last.key.ledger; entry = entry i }; at = at i; size = last.size })
repeats_at zero (suc place) last inside = absurd (omega (arith, inside))
repeats_at (suc count) (suc place) last inside =
    let entry : last.key.entry + 1 + place ≡ last.key.entry + suc place = omega arith in
    let at : last.at + last.size + place * last.size ≡ last.at + suc place * last.size = omega arith in
    repeats_at count place (next_of last last.size) (omega (arith, inside))
    ∙ (λ i. Some (record { key = record { ledger = last.key.ledger; entry = entry i }; at = at i; size = last.size }))

pub run_at : (run : ListedRun) (place : ℕ) → place ≤ run.again → slice_get (entries_of_run run) place ≡ Some (repeated_by place run.first)
run_at run place inside = repeats_at run.again place run.first inside

-- ---- what is left of runs

-- their entries are legal and in order
pub record LegalRuns (runs : List ListedRun) : Type 0 where
  pub from : ℕ
  pub each : AreFrom from (entries_of_runs runs)

-- the legal entries of the first run and the others
record FirstRun (run : ListedRun) (others : List ListedRun) : Type 0 where
  legal : IsLegal run.first
  again : AreFrom (past run.first) (repeats run.again run.first ++ entries_of_runs others)

first_run : (runs others : List ListedRun) (run : ListedRun) → runs ≡ run ∷ others → LegalRuns runs → FirstRun run others
first_run runs others run is left =
    let split : AreFrom left.from (run.first ∷ (repeats run.again run.first ++ entries_of_runs others)) =
    subst (λ (rs : List ListedRun). AreFrom left.from (entries_of_runs rs)) is left.each in
    record { legal = split.0; again = split.1.1 }

pub legal_first : (runs others : List ListedRun) (run : ListedRun) → runs ≡ run ∷ others → LegalRuns runs → IsLegal run.first
legal_first runs others run is left = (first_run runs others run is left).legal

pub legal_run : (runs others : List ListedRun) (run : ListedRun) → runs ≡ run ∷ others → LegalRuns runs → IsRepeatable run.again run.first
legal_run runs others run is left =
    let first = first_run runs others run is left in
    repeatable run.first run.again (entries_of_runs others) first.legal first.again

pub legal_others : (runs others : List ListedRun) (run : ListedRun) → runs ≡ run ∷ others → LegalRuns runs → LegalRuns others
legal_others runs others run is left =
    let first = first_run runs others run is left in
    record {
      from = past (last_of run.first (repeats run.again run.first));
      each = AreFrom-right run.first (repeats run.again run.first) (entries_of_runs others) first.again;
    }

-- ---- a loop over runs

-- the runs before and after a turn, and how far a count has come
pub counted_run : (runs others : List ListedRun) (run : ListedRun) → runs ≡ run ∷ others
    → length (entries_of_runs runs) ≡ length (entries_of_run run) + length (entries_of_runs others)
counted_run runs others run is =
    ap (λ (rs : List ListedRun). length (entries_of_runs rs)) is ∙ length-append (entries_of_run run) (entries_of_runs others)

bytes_of-append : (xs ys : List Listed) → bytes_of (xs ++ ys) ≡ bytes_of xs + bytes_of ys
bytes_of-append [] ys = omega arith
bytes_of-append (x ∷ xs) ys = omega (arith, bytes_of-append xs ys)

pub summed_run : (runs others : List ListedRun) (run : ListedRun) → runs ≡ run ∷ others
    → bytes_of (entries_of_runs runs) ≡ bytes_of (entries_of_run run) + bytes_of (entries_of_runs others)
summed_run runs others run is =
    ap (λ (rs : List ListedRun). bytes_of (entries_of_runs rs)) is ∙ bytes_of-append (entries_of_run run) (entries_of_runs others)

slice_get-inside : (xs ys : List Listed) (place : ℕ) (entry : Listed) → slice_get xs place ≡ Some entry → slice_get (xs ++ ys) place ≡ Some entry
slice_get-inside [] ys place entry is = absurd cc
slice_get-inside (x ∷ xs) ys zero entry is = is
slice_get-inside (x ∷ xs) ys (suc place) entry is = slice_get-inside xs ys place entry is

-- the entry at a place of the first run
pub place_found : (runs others : List ListedRun) (run : ListedRun) (place : ℕ) (entry : Listed) → runs ≡ run ∷ others
    → slice_get (entries_of_run run) place ≡ Some entry → slice_get (entries_of_runs runs) place ≡ Some entry
place_found runs others run place entry is found =
    ap (λ (rs : List ListedRun). slice_get (entries_of_runs rs) place) is ∙ slice_get-inside (entries_of_run run) (entries_of_runs others) place entry found

slice_get-behind : (xs ys : List Listed) (place : ℕ) → length xs ≤ place → slice_get (xs ++ ys) place ≡ slice_get ys (place - length xs)
slice_get-behind [] ys place after =
    let same : place ≡ place - 0 = omega arith in
    ap (slice_get ys) same
slice_get-behind (x ∷ xs) ys zero after = absurd (omega (arith, after))
slice_get-behind (x ∷ xs) ys (suc place) after =
    let less : place - length xs ≡ suc place - suc (length xs) = omega arith in
    slice_get-behind xs ys place (omega (arith, after)) ∙ ap (slice_get ys) less

-- a place behind the first run
pub place_behind : (runs others : List ListedRun) (run : ListedRun) (place left : ℕ) → runs ≡ run ∷ others → place ≡ run.again + 1 + left
    → slice_get (entries_of_runs runs) place ≡ slice_get (entries_of_runs others) left
place_behind runs others run place left is placed =
    let many = run_many run in
    let less : place - length (entries_of_run run) ≡ left = omega arith in
    ap (λ (rs : List ListedRun). slice_get (entries_of_runs rs) place) is
    ∙ slice_get-behind (entries_of_run run) (entries_of_runs others) place (omega arith)
    ∙ ap (slice_get (entries_of_runs others)) less
