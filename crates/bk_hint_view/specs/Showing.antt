-- A view with a table. Read `has_true_table` first.
use Rattle.std.specs.Prelude.{ℕ, Bool, true, List, Option, Some, None}
use Rattle.bk_hint.specs.declared.runs.ListedRun.{ListedRun}
use Rattle.bk_hint_view.specs.Rows.{is_true_table}

-- the table is true of the bytes, if there is one
abbrev pub has_true_table : Option (List ListedRun) → List ℕ → Bool
has_true_table None bytes = true
has_true_table (Some rows) bytes = is_true_table rows bytes

-- the bytes of the inner view, whether it is honest and sound, and the rows of the table
pub record HintedBytes : Type 0 where
  pub bytes : List ℕ
  pub inner : Bool
  pub sound : Bool
  pub table : Option (List ListedRun)
