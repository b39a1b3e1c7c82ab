-- Places of keys among pairs sorted by key.
use Rattle.std.specs.Prelude.{◌≡◌, ℕ, ◌<◌, ◌≤◌, List, length, slice_get, Some, option_map}
use Rattle.std.specs.declared.cmp.Ordering.TheVariants.{Less, Greater}
use Rattle.bk_record.specs.Key.{EntryKey, key_cmp}

-- the pair at this place has the key
abbrev pub IsAt : {X : Type 0} → List (EntryKey × X) → EntryKey → ℕ → Type 0
IsAt pairs key at = option_map (λ e. e.0) (slice_get pairs at) ≡ Some key

-- the key would be inserted here: smaller keys before this place, greater keys from it on
pub record IsGapFor {X : Type 0} (pairs : List (EntryKey × X)) (key : EntryKey) (at : ℕ) : Type 0 where
  pub in_range : at ≤ length pairs
  pub smaller_before : (i : ℕ) (e : EntryKey × X) → i < at → slice_get pairs i ≡ Some e → key_cmp e.0 key ≡ Less
  pub greater_from : (i : ℕ) (e : EntryKey × X) → at ≤ i → slice_get pairs i ≡ Some e → key_cmp e.0 key ≡ Greater
