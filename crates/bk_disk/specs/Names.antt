-- File names of logs.
use Rattle.std.specs.Prelude.{ℕ, List, ◌++◌, false, codes}
use Rattle.std.specs.Fmt.{digits}

-- a log's id in lower-case hexadecimal, without leading zeros
abbrev pub id_text : ℕ → List ℕ
id_text log = digits 16 false log

-- file name of a log
abbrev pub name_text : ℕ → List ℕ
name_text log = id_text log ++ codes ".log"

-- its first part
abbrev pub un_text : ℕ → List ℕ
un_text log = id_text log ++ codes ".un"

-- the name of the file that sets a log aside, as `1f.unsynced`
abbrev pub unsynced_text : ℕ → List ℕ
unsynced_text log = un_text log ++ codes "synced"

-- the name of the copy of a log that is written again, as `1f.log.again`
abbrev pub again_text : ℕ → List ℕ
again_text log = name_text log ++ codes ".again"
