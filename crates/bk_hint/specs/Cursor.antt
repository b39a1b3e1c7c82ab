-- A cursor that finds entries by their places. Read `IsReached`.
use Rattle.std.specs.Prelude.{◌≡◌, ℕ, ◌+◌, ◌<◌, ◌^◌, List, length, slice_get}
use Rattle.bk_hint.specs.declared.listed.Listed.{Listed}
use Rattle.bk_hint.specs.declared.runs.ListedRun.{ListedRun}
use Rattle.bk_hint.specs.Entries.{AreFrom}
use Rattle.bk_hint.specs.Runs.{entries_of_runs}

-- The runs are those of the entries behind the first `before`, which are legal and in order.
pub record IsReached (entries : List Listed) (runs : List ListedRun) (before : ℕ) : Type 0 where
  pub from : ℕ
  pub in_order : AreFrom from (entries_of_runs runs)
  pub many : before + length (entries_of_runs runs) ≡ length entries
  pub few : length entries < 2 ^ 31
  pub placed : (place : ℕ) → slice_get entries (before + place) ≡ slice_get (entries_of_runs runs) place
