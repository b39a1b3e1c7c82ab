-- A cursor that finds entries by their places.
use Rattle.std.proofs.Common.{◌≡◌, ℕ, ◌+◌, ◌-◌, ◌^◌, ◌<◌, ◌≤◌, List, [], ◌∷◌, length, Some, None, slice_get, sym, ap, subst, ◌∙◌, arith}
use Rattle.bk_hint.specs.declared.listed.Listed.{Listed}
use Rattle.bk_hint.specs.declared.runs.ListedRun.{ListedRun}
use Rattle.bk_hint.specs.Entries.{past, origin, AreFrom}
use Rattle.bk_hint.specs.Runs.{entries_of_run, entries_of_runs}
use Rattle.bk_hint.specs.Cursor.{IsReached}
use Rattle.bk_hint.proofs.Counts.{many_below}
use Rattle.bk_hint.proofs.Runwise.{counted_run, legal_others, place_behind, place_found, run_many, LegalRuns}

pub begins_at : (entries : List Listed) (runs : List ListedRun) → entries_of_runs runs ≡ entries → AreFrom (past origin) entries → IsReached entries runs 0
begins_at entries runs is each = record {
  from = past origin;
  in_order = subst (AreFrom (past origin)) (sym is) each;
  many = omega (arith, ap length is);
  few = many_below entries each;
  placed = λ place. let same : 0 + place ≡ place = omega arith in ap (slice_get entries) same ∙ ap (λ (es : List Listed). slice_get es place) (sym is);
}

pub left_legal : (entries : List Listed) (runs : List ListedRun) (before : ℕ) → IsReached entries runs before → LegalRuns runs
left_legal entries runs before reached = record { from = reached.from; each = reached.in_order }

-- one run is passed
pub passes : (entries : List Listed) (runs others : List ListedRun) (run : ListedRun) (before next : ℕ) → runs ≡ run ∷ others
    → IsReached entries runs before → next ≡ before + length (entries_of_run run) → IsReached entries others next
passes entries runs others run before next is reached moved =
    let legal = legal_others runs others run is (left_legal entries runs before reached) in
    let counted = counted_run runs others run is in
    let one = run_many run in
    let many = reached.many in
    record {
      from = legal.from;
      in_order = legal.each;
      many = omega arith;
      few = reached.few;
      placed = λ place.
          let behind : ℕ = run.again + 1 + place in
          let sum : next + place ≡ before + behind = omega arith in
          ap (slice_get entries) sum ∙ reached.placed behind ∙ place_behind runs others run behind place is (omega arith);
    }

-- the next run has the entry at a place
pub finds : (entries : List Listed) (runs others : List ListedRun) (run : ListedRun) (before place left : ℕ) (entry : Listed) → runs ≡ run ∷ others
    → IsReached entries runs before → place ≡ before + left → slice_get (entries_of_run run) left ≡ Some entry → slice_get entries place ≡ Some entry
finds entries runs others run before place left entry is reached placed found =
    ap (slice_get entries) placed ∙ reached.placed left ∙ place_found runs others run left entry is found

-- no run has it
pub ends : (entries : List Listed) (runs : List ListedRun) (before place : ℕ) → runs ≡ [] → IsReached entries runs before → before ≤ place
    → slice_get entries place ≡ None
ends entries runs before place none reached behind =
    let left : ℕ = place - before in
    let sum : place ≡ before + left = omega arith in
    ap (slice_get entries) sum ∙ reached.placed left ∙ ap (λ (rs : List ListedRun). slice_get (entries_of_runs rs) left) none

-- the next run has no more entries than are left
pub run_fits : (entries : List Listed) (runs others : List ListedRun) (run : ListedRun) (before : ℕ) → runs ≡ run ∷ others → IsReached entries runs before
    → before + length (entries_of_run run) < 2 ^ 31
run_fits entries runs others run before is reached =
    let counted = counted_run runs others run is in
    omega (arith, reached.many, reached.few, counted)
