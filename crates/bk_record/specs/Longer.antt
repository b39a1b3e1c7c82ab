-- Logs that only grow after their headers.
use Rattle.std.specs.Prelude.{◌≡◌, ℕ, List, ◌++◌, drop}
use Rattle.bk_record.specs.Files.{Files, file_of, header_length}

-- after the header, `whole` begins with the bytes of `front`
pub record IsLonger (front whole : List ℕ) : Type 0 where
  pub behind : List ℕ
  pub is : drop header_length whole ≡ drop header_length front ++ behind

-- each log has grown in this way, and logs may have been added
abbrev pub AreLonger : Files → Files → Type 0
AreLonger files later = (log : ℕ) → IsLonger (file_of files log) (file_of later log)
