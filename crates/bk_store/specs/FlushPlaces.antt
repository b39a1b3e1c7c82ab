-- The places of a flush in key order.
use Rattle.std.specs.Prelude.{◌≡◌, ℕ, ◌-◌, Option, IsSome, slice_get, option_map, refl}
use Rattle.std.specs.Coded.{Coded, code_by, coded×, coded_ℕ}
use Rattle.std.specs.FinMap as finite
use Rattle.std.specs.declared.cmp.Ordering.TheVariants.{Less}
use Rattle.bk_record.specs.Key.{EntryKey, key_cmp}
use Rattle.bk_record.specs.Keyed.{Places, places_code}

-- the greatest key that has a place
abbrev pub last_key : Places → Option EntryKey
last_key places = option_map (λ e. e.0) (slice_get (finite.entries places) (finite.len places - 1))

-- the key is greater than all that have a place
abbrev pub IsAfterPlaced : Places → EntryKey → Type 0
IsAfterPlaced places key = (other : EntryKey) → IsSome (finite.get places other) → key_cmp other key ≡ Less

-- places in memory, and how many more fit without an allocation
pub record HeldPlaces : Type 0 where
  pub places : Places
  pub room : ℕ

abbrev pub held_places_code : Coded HeldPlaces
held_places_code = code_by (Places × ℕ) (coded× places_code coded_ℕ) (λ h. (h.places, h.room)) (λ p. record { places = p.0; room = p.1 }) (λ _. refl)
