-- One entry is at each place.
use Rattle.std.proofs.Common.{◌≡◌, ℕ, List, sym, ap, ◌∙◌}
use Rattle.bk_record.specs.Key.{EntryKey}
use Rattle.bk_record.specs.Location.{Place}
use Rattle.bk_record.specs.Record.{key_of}
use Rattle.bk_record.specs.Files.{Files}
use Rattle.bk_record.specs.Entry.{HasKeyedRecord}
use Rattle.bk_record.proofs.Places.{one_record}
use Rattle.bk_record.proofs.SortedPairs.{Some-same}

-- there is one entry at a place
pub one_entry : (files : Files) (place : Place) (key other : EntryKey) (a b : List ℕ) → HasKeyedRecord files place key a → HasKeyedRecord files place other b
    → (key ≡ other) × (a ≡ b)
one_entry files place key other a b here there =
    let same = one_record files place a b here.stands there.stands in
    (Some-same (sym here.keyed ∙ ap key_of same ∙ there.keyed), same)
