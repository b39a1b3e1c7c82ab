-- Runs that are put into an index one after another: the value of an `IndexBuilder`.
use Rattle.std.specs.Prelude.{◌≡◌, ◌⊎◌, ◌+◌, ◌*◌, ◌^◌, ◌<◌, ◌≤◌, List, [], ◌∷◌}
use Rattle.bk_record.specs.Keyed.{Places}
use Rattle.bk_index.specs.Runs.{with_run}
use Rattle.bk_index.specs.declared.builder.PlacedRun.{PlacedRun}

-- sets the places of the keys of several runs, in order; a later run wins
abbrev pub with_runs : Places → List PlacedRun → Places
with_runs index [] = index
with_runs index (run ∷ runs) = with_runs (with_run index run.first run.place run.size run.count) runs

-- entry ids are below 2 ^ 63, and positions below 2 ^ 32
abbrev pub IsPlacedRun : PlacedRun → Type 0
IsPlacedRun run = (run.first.entry + run.count ≤ 2 ^ 63) × (run.place.at + run.count * run.size < 2 ^ 32 + run.size)

-- the keys of a run are all before those of another
abbrev pub RunEndsBefore : PlacedRun → PlacedRun → Type 0
RunEndsBefore run next =
    (run.first.ledger < next.first.ledger) ⊎ ((run.first.ledger ≡ next.first.ledger) × (run.first.entry + run.count ≤ next.first.entry))

-- a run goes on directly behind another: with the next entry, at the next place
pub record RunGoesOn (last run : PlacedRun) : Type 0 where
  pub ledger : last.first.ledger ≡ run.first.ledger
  pub entry : last.first.entry + last.count ≡ run.first.entry
  pub log : last.place.log ≡ run.place.log
  pub at : last.place.at + last.count * last.size ≡ run.place.at
  pub size : last.size ≡ run.size
  pub fits : last.count + run.count < 2 ^ 32
