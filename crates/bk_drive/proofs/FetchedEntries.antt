-- An entry that a view shows at a place is found there by a fetch.
use Rattle.std.proofs.Common.{ℕ, ◌<◌, ◌^◌, List}
use Rattle.std.specs.List.{All}
use Rattle.bk_record.specs.Key.{EntryKey}
use Rattle.bk_record.specs.Location.{Place}
use Rattle.bk_record.proofs.Records.{each_byte}
use Rattle.bk_log.specs.Places.{HasEntryAt}
use Rattle.bk_log.proofs.OneRecord.{stands_once}
use Rattle.bk_store.specs.Entries.{HasEntry}

pub stands_here : (bytes : List ℕ) (place : Place) (key : EntryKey) (payload : List ℕ) → All (λ b. b < 2 ^ 8) bytes
    → HasEntry (λ _. bytes) place key payload → HasEntryAt bytes place.at key payload
stands_here bytes place key payload all entry =
    record { here = (stands_once bytes place.at).computed payload (each_byte bytes all) entry.stands; keyed = entry.keyed }
