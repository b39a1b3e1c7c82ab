-- Crash safety of a store.
use Rattle.std.specs.Prelude.{◌≡◌, ◌<◌, List, ℕ, true, false}
use Rattle.std.specs.FinSet as set
use Rattle.bk_record.specs.Key.{EntryKey}
use Rattle.bk_record.specs.Files.{Files}
use Rattle.bk_record.specs.Scan.{Payloads}
use Rattle.bk_store.specs.State.{State}
use Rattle.bk_store.specs.Contents.{IsContents}
use Rattle.bk_store.specs.Opening.{IsOpened}
use Rattle.bk_store.specs.Trail.{HasAddMark, HasDigest}
use Rattle.bk_store.specs.Crash.{MayLeave, StayDead, IsBetween}
use Rattle.bk_store.specs.declared.settings.Settings.{Settings}

-- A store opened on any files that a crash may leave, with at least these deleted ledgers, has each
-- indexed pair of a live ledger, and only pairs that this store had. The arguments are the synced
-- parts of the logs and the removed files.
abbrev pub SurvivesCrash : Files → Files → State → Type 0
SurvivesCrash synced gone s = (map : Payloads) × IsContents map s × ((left : Files) (settings : Settings) (dead : List ℕ) (t : State)
    → MayLeave s.files gone synced left → IsOpened true left settings dead t → StayDead s.ledgers.dead t.ledgers.dead
    → (found : Payloads) × (IsContents found t × IsBetween s.index map t.ledgers.dead found))

-- Such a store has each entry that was added below the durable front, with the digest of its mark,
-- if the ledger is deleted in neither store.
abbrev pub DurableMarksSurvive : Files → Files → State → Type 0
DurableMarksSurvive synced gone s = (left : Files) (settings : Settings) (dead : List ℕ) (t : State)
    → MayLeave s.files gone synced left → IsOpened true left settings dead t → StayDead s.ledgers.dead t.ledgers.dead
    → (found : Payloads) × IsContents found t × ((number : ℕ) (key : EntryKey) (digest : List ℕ)
    → number < s.fronts.durable → HasAddMark s.ledgers.trail number key digest
    → set.contains s.ledgers.dead key.ledger ≡ false → set.contains t.ledgers.dead key.ledger ≡ false → HasDigest found key digest)
