-- The files that a map of logs is, against what the calls on that map say.
use Rattle.std.proofs.Common.{◌≡◌, ℕ, ◌≤◌, List, ◌++◌, map, length, take, drop, if◌then◌else◌, Some, None, sym, ◌∙◌}
use Rattle.std.proofs.Common.{ap, subst, refl, IsSome}
use Rattle.std.specs.Ordering.{nat_cmp}
use Rattle.std.specs.BTreeMap.{BTreeMap, keys}
use Rattle.std.specs.BTreeMap as tree
use Rattle.std.specs.Option.{option_map_or}
use Rattle.std.proofs.lemmas.Bool.{le-leb}
use Rattle.std.specs.FinMap as files
use Rattle.bk_record.specs.Files.{Files}
use Rattle.bk_record.proofs.NumberMaps.{get-entries, inserted, removed, get-insert_same, insert-insert, entries-from_rising}
use Rattle.bk_disk.specs.Disk.{files_after_append, files_after_patch, patched_file}
use Rattle.bk_disk.specs.Logs.{files_of}

pub get-files_of : (logs : BTreeMap ℕ (List ℕ)) (q : ℕ) → files.get (files_of logs) q ≡ tree.get nat_cmp logs q
get-files_of logs q = get-entries logs.entries q

-- a key that gets a file
pub files_of-insert : (m n : BTreeMap ℕ (List ℕ)) (k : ℕ) (file : List ℕ) → tree.Updates nat_cmp m n k (Some file)
    → files_of n ≡ files.insert (files_of m) k file
files_of-insert m n k file updates = inserted m.entries n.entries k file updates.0

-- a key that goes
pub files_of-remove : (m n : BTreeMap ℕ (List ℕ)) (k : ℕ) → tree.Updates nat_cmp m n k None → files_of n ≡ files.remove (files_of m) k
files_of-remove m n k updates = removed m.entries n.entries k updates.0

-- the ids of the logs, rising
pub keys-files_of : (logs : BTreeMap ℕ (List ℕ)) → tree.IsOrdered nat_cmp logs → files.keys (files_of logs) ≡ tree.keys logs
keys-files_of logs ordered = ap (map (λ e. e.0)) (entries-from_rising logs.entries ordered)

-- what was written through a loan of a log
pub written : {old : Files} (m n : BTreeMap ℕ (List ℕ)) (log : ℕ) (file now : List ℕ) → files_of m ≡ old → Some file ≡ tree.get nat_cmp m log
    → tree.WritesThrough nat_cmp (nat_cmp log) m now n → (files.get old log ≡ Some file) × (files_of n ≡ files.insert old log now)
written m n log file now is found wrote = (
  ap (λ fs. files.get fs log) (sym is) ∙ get-files_of m log ∙ sym found,
  files_of-insert m n log now (wrote.3 (subst IsSome found refl)) ∙ ap (λ fs. files.insert fs log now) is,
)

-- what a piece at the end of a log that is there leaves
pub grown_there : (old : Files) (log : ℕ) (file piece : List ℕ) → files.get old log ≡ Some file → files.insert old log (file ++ piece) ≡ files_after_append old log piece
grown_there old log file piece there = ap (λ o. option_map_or (λ f. files.insert old log (f ++ piece)) o old) (sym there)

-- what a patch of a log that is there and long enough leaves
pub patched_there : (old : Files) (log : ℕ) (file bytes : List ℕ) → files.get old log ≡ Some file → 20 ≤ length file
    → files.insert old log (take 8 file ++ bytes ++ drop 20 file) ≡ files_after_patch old log bytes
patched_there old log file bytes there long =
    ap (λ b. files.insert old log (if b then take 8 file ++ bytes ++ drop 20 file else file)) (sym (le-leb 20 (length file) long))
    ∙ ap (λ o. option_map_or (λ f. files.insert old log (patched_file f bytes)) o old) (sym there)

-- a piece at the end of a log that was just put
pub grown-insert : (old : Files) (log : ℕ) (file piece : List ℕ) → files_after_append (files.insert old log file) log piece ≡ files.insert old log (file ++ piece)
grown-insert old log file piece =
    sym (grown_there (files.insert old log file) log file piece (get-insert_same old log file)) ∙ insert-insert old log file (file ++ piece)

pub ruleset file_maps = (get-files_of, files_of-insert, files_of-remove, keys-files_of)
