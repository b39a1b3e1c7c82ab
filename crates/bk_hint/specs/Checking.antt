-- Whether heads and steps list legal entries in order: the contracts of the check.
use Rattle.std.specs.Prelude.{◌≡◌, ℕ, ◌+◌, ◌*◌, ◌<◌, ◌≤◌, ◌^◌, List, ◌∷◌}
use Rattle.bk_hint.specs.declared.listed.Listed.{Listed}
use Rattle.bk_hint.specs.declared.head.Head.{Head}
use Rattle.bk_hint.specs.Entries.{past, last_of, entries_of}
use Rattle.bk_hint.specs.Walking.{CanGoOn}

-- last of so many entries directly behind `last`, of the size that it has
abbrev pub repeated_by : ℕ → Listed → Listed
repeated_by count last = record {
  key = record { ledger = last.key.ledger; entry = last.key.entry + count };
  at = last.at + count * last.size;
  size = last.size;
}

-- these entries are legal
pub record IsRepeatable (count : ℕ) (last : Listed) : Type 0 where
  pub ledger : last.key.ledger < 2 ^ 63
  pub id : last.key.entry + count < 2 ^ 63
  pub least : 20 ≤ last.size
  pub most : last.size < 2 ^ 31 + 4
  pub ends : past last + count * last.size < 2 ^ 32 + 4

-- a step leads from `last` to `next`: what is left before it is legal if and only if what is left
-- after it is
pub record Passes (last : Listed) (heads : List Head) (step : ℕ) (steps : List ℕ) (next : Listed) (others : List Head) : Type 0 where
  pub back : CanGoOn next 0 others steps → CanGoOn last 0 heads (step ∷ steps)
  pub forth : CanGoOn last 0 heads (step ∷ steps) → CanGoOn next 0 others steps
  pub last_is : last_of last (entries_of last heads (step ∷ steps)) ≡ last_of next (entries_of next others steps)
  pub room : past next < 2 ^ 32 + 4
