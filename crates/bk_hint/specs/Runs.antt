-- Runs of entries: the entries of the short form, step by step. Read `entries_of_run`, then `runs_of`.
use Rattle.std.specs.Prelude.{ℕ, zero, suc, ◌+◌, ◌-◌, ◌^◌, List, [], ◌∷◌, ◌++◌, flat_map, nat_lt, if◌then◌else◌}
use Rattle.bk_hint.specs.declared.listed.Listed.{Listed}
use Rattle.bk_hint.specs.declared.head.Head.{Head}
use Rattle.bk_hint.specs.declared.runs.ListedRun.{ListedRun}
use Rattle.bk_hint.specs.Entries.{last_of, next_of, repeats, first_of, part_of, heads_behind}

-- entries of a run, in file order
abbrev pub entries_of_run : ListedRun → List Listed
entries_of_run run = run.first ∷ repeats run.again run.first

-- entries of runs, in file order
abbrev pub entries_of_runs : List ListedRun → List Listed
entries_of_runs runs = flat_map entries_of_run runs

-- ---- the short form

-- run of a head
abbrev pub head_run : List Head → List ListedRun
head_run [] = []
head_run (head ∷ heads) = record { first = first_of head; again = 0 } ∷ []

-- Run of a step behind `last`, none for a step 0 without a head. Its entries are `part_of` the step.
abbrev pub run_of : Listed → ℕ → List Head → List ListedRun
run_of last zero heads = head_run heads
run_of last (suc step) heads =
    if nat_lt (suc step) (2 ^ 31)
    then record { first = next_of last (suc step + 4); again = 0 } ∷ []
    else record { first = next_of last last.size; again = suc step - 2 ^ 31 } ∷ []

-- runs of heads and steps behind `last`
unfoldable pub runs_of : Listed → List Head → List ℕ → List ListedRun
runs_of last heads [] = []
runs_of last heads (step ∷ steps) =
    run_of last step heads ++ runs_of (last_of last (part_of last step heads)) (heads_behind step heads) steps
