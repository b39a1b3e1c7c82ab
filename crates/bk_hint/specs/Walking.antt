-- A walk over the entries: what is left of it.
use Rattle.std.specs.Prelude.{◌≡◌, ℕ, ◌+◌, ◌<◌, ◌^◌, List, ◌∷◌, ◌++◌, length}
use Rattle.bk_hint.specs.declared.listed.Listed.{Listed}
use Rattle.bk_hint.specs.declared.head.Head.{Head}
use Rattle.bk_hint.specs.Entries.{past, AreFrom, last_of, repeats, entries_of, begins}
use Rattle.bk_hint.specs.Runs.{runs_of}

-- entries behind `last`: so many of its size, then those of heads and steps
unfoldable pub left_of : Listed → ℕ → List Head → List ℕ → List Listed
left_of last again heads steps = repeats again last ++ entries_of (last_of last (repeats again last)) heads steps

-- what is left are legal entries in order behind `last`
pub record CanGoOn (last : Listed) (again : ℕ) (heads : List Head) (steps : List ℕ) : Type 0 where
  pub heads_fit : begins steps ≡ length heads
  pub in_order : AreFrom (past last) (left_of last again heads steps)
  pub room : past last < 2 ^ 32 + 4

-- `next` and so many more of its size are the first run, and the rest is left
abbrev pub IsFirstRun : Listed → List Head → List ℕ → Listed → ℕ → List Head → List ℕ → Type 0
IsFirstRun last heads steps next again others behind =
    runs_of last heads steps ≡ record { first = next; again = again } ∷ runs_of (last_of next (repeats again next)) others behind

-- `next` is the first entry of a step, and the rest is left
pub record Turns (last : Listed) (heads : List Head) (steps : List ℕ) (next : Listed) (again : ℕ) (others : List Head) (behind : List ℕ) : Type 0 where
  pub gives : left_of last 0 heads steps ≡ next ∷ left_of next again others behind
  pub is_run : IsFirstRun last heads steps next again others behind
  pub goes_on : CanGoOn next again others behind
