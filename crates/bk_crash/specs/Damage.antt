-- A file that a device damages after its synced part.
use Rattle.std.specs.Prelude.{ℕ, List, take}
use Rattle.bk_record.specs.Files.{header_length}
use Rattle.bk_record.specs.Longer.{IsLonger}
use Rattle.bk_store.specs.Crash.{IsCut}

-- A damaged file: the durable part after the header is intact, and any bytes follow. The header is
-- a cut of the header.
pub record IsDamaged (kept file left : List ℕ) : Type 0 where
  pub begins : IsLonger kept file
  pub stands : IsLonger kept left
  pub headed : IsCut (take header_length file) (take header_length left)
