-- Parts of the contract of a push.
use Rattle.std.specs.Prelude.{◌≡◌, ℕ, ◌+◌, ◌≤◌, ◌^◌, ◌⊎◌, List, [], ◌∷◌, ◌++◌}
use Rattle.bk_hint.specs.declared.listed.Listed.{Listed}
use Rattle.bk_hint.specs.declared.head.Head.{Head}
use Rattle.bk_hint.specs.Entries.{first_of, entries_of, origin, IsKept}

-- a run of one entry was appended
pub record IsBegun (heads : List Head) (steps : List ℕ) (entry : Listed) (heads_now : List Head) (steps_now : List ℕ) : Type 0 where
  pub head : Head
  pub first : first_of head ≡ entry
  pub heads_are : heads_now ≡ heads ++ head ∷ []
  pub steps_are : steps_now ≡ steps ++ 0 ∷ []

-- the last step was a repetition, which now has one entry more
pub record Counts (steps now : List ℕ) : Type 0 where
  pub front : List ℕ
  pub step : ℕ
  pub many : 2 ^ 31 ≤ step
  pub was : steps ≡ front ++ step ∷ []
  pub is : now ≡ front ++ (step + 1) ∷ []

-- one entry more, of the size of the last one
abbrev pub Repeats : List ℕ → List ℕ → Type 0
Repeats steps now = (now ≡ steps ++ 2147483648 ∷ []) ⊎ Counts steps now

-- the entry was appended, and is the last one now
pub record Gains (heads : List Head) (steps : List ℕ) (entry : Listed) (heads_now : List Head) (steps_now : List ℕ) : Type 0 where
  pub kept : IsKept heads_now steps_now entry
  pub entries_are : entries_of origin heads_now steps_now ≡ entries_of origin heads steps ++ entry ∷ []
