-- The records of a run from one of them on are in a file of which the table is true.
use Rattle.std.proofs.Common.{◌≡◌, ◌∙◌, ℕ, zero, suc, ◌+◌, ◌-◌, ◌*◌, ◌≤◌, List, [], ◌∷◌, ◌++◌, length, get_or, drop, slice_get, Option, Some, true, refl, sym, ap, subst, arith}
use Rattle.std.specs.Int.{w32, w64, to_be_bytes}
use Rattle.std.specs.List.{All}
use Rattle.bk_disk.specs.Blocks.{HasPrefix}
use Rattle.bk_disk.specs.Runs.{IsRunAt, head_in_run}
use Rattle.bk_disk.specs.declared.record_run.RecordRun.{RecordRun}
use Rattle.bk_hint.specs.declared.listed.Listed.{Listed}
use Rattle.bk_hint.specs.declared.runs.ListedRun.{ListedRun}
use Rattle.bk_hint.specs.Checking.{repeated_by}
use Rattle.bk_hint.specs.Entries.{next_of, repeats}
use Rattle.bk_hint.specs.Runs.{entries_of_run, entries_of_runs}
use Rattle.bk_hint_view.specs.Rows.{head_of, IsTrueTable, IsRestOf, IsRestIn}
use Rattle.bk_hint_view.specs.Showing.{has_true_table}
use Rattle.bk_hint_view.proofs.Truths.{test_true}

-- an entry behind the next one
repeated_next : (n : ℕ) (first : Listed) → repeated_by n (next_of first first.size) ≡ repeated_by (suc n) first
repeated_next n first =
    let id : first.key.entry + 1 + n ≡ first.key.entry + suc n = omega arith in
    let at : first.at + first.size + n * first.size ≡ first.at + suc n * first.size = omega arith in
    λ i. record { key = record { ledger = first.key.ledger; entry = id i }; at = at i; size = first.size }

repeated_none : (first : Listed) → first ≡ repeated_by 0 first
repeated_none first =
    let id : first.key.entry ≡ first.key.entry + 0 = omega arith in
    let at : first.at ≡ first.at + 0 * first.size = omega arith in
    λ i. record { key = record { ledger = first.key.ledger; entry = id i }; at = at i; size = first.size }

-- the entry of a run at a place
in_run : (again : ℕ) (first : Listed) (place : ℕ) (d : Listed) → place ≤ again → get_or (first ∷ repeats again first) place d ≡ repeated_by place first
in_run again first zero d within = repeated_none first
in_run zero first (suc place) d within = absurd (omega arith)
in_run (suc again) first (suc place) d within =
    in_run again (next_of first first.size) place d (omega arith) ∙ repeated_next place first

length-run : (again : ℕ) (first : Listed) → length (first ∷ repeats again first) ≡ again + 1
length-run zero first = refl
length-run (suc again) first =
    let more : suc (again + 1) ≡ suc again + 1 = omega arith in
    ap suc (length-run again (next_of first first.size)) ∙ more

module _ {X : Type 0} (P : X → Type 0) where
  front_all : (xs ys : List X) → All P (xs ++ ys) → All P xs
  front_all [] ys each k d within = absurd (omega arith)
  front_all (x ∷ xs) ys each zero d within = each zero d (omega arith)
  front_all (x ∷ xs) ys each (suc k) d within = front_all xs ys (λ j e less. each (suc j) e (omega arith)) k d (omega arith)

  back_all : (xs ys : List X) → All P (xs ++ ys) → All P ys
  back_all [] ys each = each
  back_all (x ∷ xs) ys each = back_all xs ys (λ j e less. each (suc j) e (omega arith))

-- what holds of all entries holds of those of a run
of_run : (P : Listed → Type 0) (rows : List ListedRun) (number : ℕ) (row : ListedRun) → All P (entries_of_runs rows) → slice_get rows number ≡ Some row
    → All P (entries_of_run row)
of_run P [] number row each is = absurd cc
of_run P (r ∷ rows) zero row each is =
    let same : r ≡ row = cc in
    subst (λ (x : ListedRun). All P (entries_of_run x)) same (front_all P (entries_of_run r) (entries_of_runs rows) each)
of_run P (r ∷ rows) (suc number) row each is = of_run P rows number row (back_all P (entries_of_run r) (entries_of_runs rows) each) is

-- product of a sum
both_times : (m n size : ℕ) → (m + n) * size ≡ m * size + n * size
both_times zero n size = omega arith
both_times (suc m) n size =
    let left : (suc m + n) * size ≡ (m + n) * size + size = omega arith in
    omega (arith, left, both_times m n size)

-- head of the record at a place
head_same : (row : ListedRun) (run : RecordRun) (payload : ℕ) (rest : IsRestOf row payload run) (k : ℕ)
    → head_of (repeated_by (rest.place + k) row.first) ≡ head_in_run run k
unfolding head_of
head_same row run payload rest k =
    let ledger : row.first.key.ledger ≡ run.first.ledger = sym (ap (λ x. x.ledger) rest.first_is) in
    let entry : row.first.key.entry + (rest.place + k) ≡ run.first.entry + k =
    omega (arith, ap (λ x. x.entry) rest.first_is) in
    λ i. to_be_bytes w32 (sym rest.size_is i - 4) ++ (to_be_bytes w64 (ledger i) ++ to_be_bytes w64 (entry i))

pub rest_stands : (rows : List ListedRun) (bytes : List ℕ) (at : ℕ) (run : RecordRun) → IsTrueTable rows bytes → IsRestIn rows at run → IsRunAt bytes at run
rest_stands rows bytes at run holds (number, (row, (is, rest))) = λ k less.
    let place = rest.place + k in
    let entry = repeated_by place row.first in
    let within : place ≤ row.again = omega (arith, less, rest.within) in
    let long = length-run row.again row.first in
    let each = of_run (λ (e : Listed). HasPrefix (drop (e.at - 4) bytes) (head_of e)) rows number row holds is in
    let found = each place row.first (omega (arith, within, long)) in
    let here : HasPrefix (drop (entry.at - 4) bytes) (head_of entry) =
    subst (λ (e : Listed). HasPrefix (drop (e.at - 4) bytes) (head_of e)) (in_run row.again row.first place row.first within) found in
    let step : at + k * run.size ≡ entry.at - 4 =
    omega (arith, ap (λ n. k * n) rest.size_is, both_times rest.place k row.first.size, rest.payload_is) in
    subst (λ n. HasPrefix (drop n bytes) (head_in_run run k)) (sym step)
    (subst (HasPrefix (drop (entry.at - 4) bytes)) (head_same row run (at + 4) rest k) here)

pub lent_stands : (table : Option (List ListedRun)) (rows : List ListedRun) (bytes : List ℕ) (at : ℕ) (run : RecordRun) → table ≡ Some rows
    → has_true_table table bytes ≡ true → IsRestIn rows at run → IsRunAt bytes at run
lent_stands table rows bytes at run is holds rest =
    rest_stands rows bytes at run
    (test_true bytes (entries_of_runs rows) (ap (λ (t : Option (List ListedRun)). has_true_table t bytes) (sym is) ∙ holds)) rest
