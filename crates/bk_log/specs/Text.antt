-- The bytes of a log that is being written.
use Rattle.std.specs.Prelude.{◌≡◌, ℕ, List, [], take, drop}
use Rattle.bk_record.specs.Files.{header_length}
use Rattle.bk_record.specs.Body.{Body}
use Rattle.bk_head.specs.Header.{empty_header}

-- header of a new log, then these records and nothing else
pub record IsLogText (file : List ℕ) (records : List (ℕ × List ℕ)) : Type 0 where
  pub headed : take header_length file ≡ empty_header
  pub spelled : Body header_length (drop header_length file) records []
