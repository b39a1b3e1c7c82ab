-- The location of an entry, and the order of places. `Place` is the value of a `Location`.
use Rattle.std.specs.Prelude.{◌≡◌, ℕ, ◌+◌, ◌*◌, ◌^◌, ◌<◌, ◌⊎◌}

-- log id, and position of the payload's first byte in the log's file (BookKeeper entry log format)
pub record Place : Type 0 where
  pub log : ℕ
  pub at : ℕ

-- location as one number: the log in the upper 32 bits, the position in the lower 32
abbrev pub packed : Place → ℕ
packed place = place.log * 2 ^ 32 + place.at

-- order of places: by log, then position
abbrev pub Precedes : Place → Place → Type 0
Precedes first second = (first.log < second.log) ⊎ ((first.log ≡ second.log) × (first.at < second.at))
