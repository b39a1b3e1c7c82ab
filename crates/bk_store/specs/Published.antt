-- The index points only to published entries.
use Rattle.std.specs.Prelude.{◌≡◌, ℕ, List, Some}
use Rattle.std.specs.FinMap as finite
use Rattle.bk_record.specs.Key.{EntryKey}
use Rattle.bk_record.specs.Location.{Place}
use Rattle.bk_record.specs.Keyed.{Places}
use Rattle.bk_store.specs.Entries.{Bytes, HasEntry}

-- `parts` are the published parts of open logs. Each entry of the parts is in the files, and each
-- key of the index has its entry in the parts.
pub record IndexIsPublished (bytes parts : Bytes) (index : Places) : Type 0 where
  pub stands : (place : Place) (key : EntryKey) (payload : List ℕ) → HasEntry parts place key payload → HasEntry bytes place key payload
  pub shown : (key : EntryKey) (place : Place) → finite.get index key ≡ Some place → (payload : List ℕ) × HasEntry parts place key payload
