-- A script: its lines, and the steps that they encode.
use Rattle.std.specs.Prelude.{◌≡◌, ◌≢◌, ℕ, ◌+◌, ◌==◌, ◌⊎◌, List, [], ◌∷◌, ◌++◌, length, Bool, not}
use Rattle.std.specs.List.{All, AllZip, filter, slice_split}
use Rattle.bk_drive.specs.declared.step.Step.{Step}
use Rattle.bk_script.specs.Line.{Spells}

-- The lines, which line feeds separate.
abbrev pub lines_in : List ℕ → List (List ℕ)
lines_in = slice_split (λ byte. byte == 10)

abbrev pub has_bytes : List ℕ → Bool
has_bytes line = not (length line == 0)

-- Number of the last reader of a script.
abbrev pub last_reader : ℕ
last_reader = 3

-- The input encodes the steps: each non-empty line encodes one.
abbrev pub IsScript : List ℕ → List Step → Type 0
IsScript input steps = AllZip (Spells last_reader) (filter has_bytes (lines_in input)) steps

-- The line encodes a step or is empty (`IsGood`), or does neither (`IsBad`).
abbrev pub IsGood : List ℕ → Type 0
IsGood line = (line ≡ []) ⊎ ((step : Step) × Spells last_reader line step)

abbrev pub IsBad : List ℕ → Type 0
IsBad line = (line ≢ []) × ((step : Step) → ¬ (Spells last_reader line step))

-- The first bad line has this number, counted from 1.
pub record IsFirstBad (input : List ℕ) (number : ℕ) : Type 0 where
  pub before : List (List ℕ)
  pub line : List ℕ
  pub behind : List (List ℕ)
  pub whole : lines_in input ≡ before ++ line ∷ behind
  pub good : All IsGood before
  pub bad : IsBad line
  pub counted : number ≡ length before + 1
