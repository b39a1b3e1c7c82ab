-- How a scanned entry changes an index, at an opening and at a rebuild.
use Rattle.std.specs.Prelude.{if◌then◌else◌}
use Rattle.std.specs.FinMap as finite
use Rattle.std.specs.FinSet as set
use Rattle.bk_record.specs.Key.{EntryKey}
use Rattle.bk_record.specs.Location.{Place}
use Rattle.bk_record.specs.Scan.{Ledgers}
use Rattle.bk_record.specs.Keyed.{Places}

-- adds one entry: its key points to its place, unless its ledger is deleted
abbrev pub with_key : Ledgers → Places → EntryKey → Place → Places
with_key dead index key place = if set.contains dead key.ledger then index else finite.insert index key place
