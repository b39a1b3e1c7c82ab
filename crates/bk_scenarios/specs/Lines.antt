-- The lines of two texts, compared by number.
use Rattle.std.specs.Prelude.{◌≡◌, ◌≢◌, ℕ, ◌<◌, min, List, length, slice_index_or, String, string_bytes}

-- If both texts have a line with this number, counted from 0, the lines are equal.
abbrev pub HaveSame : {Z : Type 0} → List (String Z) → List (String Z) → ℕ → Type 0
HaveSame {Z} expected got k = (one other : String Z) → string_bytes (slice_index_or expected k one) ≡ string_bytes (slice_index_or got k other)

-- Both texts have a line with this number and the lines differ, or only one of them has it.
pub data HaveOther {Z : Type 0} (expected got : List (String Z)) (k : ℕ) : Type 0 where
  line : k < length expected → k < length got
      → ((one other : String Z) → string_bytes (slice_index_or expected k one) ≢ string_bytes (slice_index_or got k other))
      → HaveOther expected got k
  end : k ≡ min (length expected) (length got) → length expected ≢ length got → HaveOther expected got k
