-- The logs on which a call failed, against what the calls on the map of them say.
use Rattle.std.proofs.Common.{◌≡◌, ℕ, Bool, Option, Some, None, if◌then◌else◌, ◌∙◌, ap}
use Rattle.std.specs.Ordering.{nat_cmp}
use Rattle.std.specs.BTreeMap.{BTreeMap}
use Rattle.std.specs.BTreeMap as tree
use Rattle.std.specs.Option.{option_or}
use Rattle.std.specs.FinMap as map
use Rattle.bk_record.proofs.NumberMaps.{get-entries, inserted, removed}
use Rattle.bk_disk.specs.declared.trouble.Trouble.{Trouble}
use Rattle.bk_disk.specs.Doubts.{Doubts, noted, forgotten, lost, trouble_of}

-- the doubts that a map of logs is
abbrev pub doubts_of : BTreeMap ℕ Trouble → Bool → Doubts
doubts_of logs all = record { logs = map.from_entries logs.entries; all = all }

-- a log that is noted
pub doubts_of-insert : (m n : BTreeMap ℕ Trouble) (all : Bool) (log : ℕ) (trouble : Trouble) → tree.Updates nat_cmp m n log (Some trouble)
    → doubts_of n all ≡ noted (doubts_of m all) log trouble
doubts_of-insert m n all log trouble updates =
    ap (λ (logs : map.FinMap nat_cmp Trouble). record { logs = logs; all = all }) (inserted m.entries n.entries log trouble updates.0)

-- a log that is forgotten
pub doubts_of-remove : (m n : BTreeMap ℕ Trouble) (all : Bool) (log : ℕ) → tree.Updates nat_cmp m n log None
    → doubts_of n all ≡ forgotten (doubts_of m all) log
doubts_of-remove m n all log updates =
    ap (λ (logs : map.FinMap nat_cmp Trouble). record { logs = logs; all = all }) (removed m.entries n.entries log updates.0)

-- what is found of a log, from what the map has of it
pub trouble_of-get : (m : BTreeMap ℕ Trouble) (all : Bool) (log : ℕ) (found : Option Trouble) → tree.get nat_cmp m log ≡ found
    → trouble_of (doubts_of m all) log ≡ option_or found (if all then Some lost else None)
trouble_of-get m all log found is = ap (λ o. option_or o (if all then Some lost else None)) (get-entries m.entries log ∙ is)
