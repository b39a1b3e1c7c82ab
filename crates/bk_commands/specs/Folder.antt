-- The output of a script that ran on a directory. Other processes may change a directory at any time, so nothing is said of its
-- files or of the answers.
use Rattle.std.specs.Prelude.{◌≡◌, ℕ, List, Option}
use Rattle.std.specs.FinMap as finite
use Rattle.bk_store.specs.declared.settings.Settings.{Settings}
use Rattle.bk_script.specs.Run.{RunsOn}

-- The input was read to its end, its lines are steps, and each step has one line in the output.
abbrev pub RunsOverFolder : Settings → List ℕ → Option (List ℕ) → Option (List ℕ) → Option (List ℕ) → Option (List ℕ) → Type 0
RunsOverFolder settings dead unread read shown written = RunsOn ⊥ ⊥ finite.empty settings dead unread read shown written
