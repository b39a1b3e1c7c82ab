-- A log after `seal`: its entries are unchanged, and a sealed log has its map.
use Rattle.std.proofs.Common.{◌≡◌, inl, inr, ℕ, ◌≤◌, Bool, true, false, cond, List, ◌++◌, length, take, Result, Ok, Err, refl, sym, ap, ◌∙◌, subst, arith}
use Rattle.std.proofs.Common.{length-append}
use Rattle.std.proofs.lemmas.List.{take_all}
use Rattle.std.specs.FinMap.{insert, len}
use Rattle.bk_record.specs.Files.{Files, IsWhole}
use Rattle.bk_record.specs.Scan.{entries_of}
use Rattle.bk_record.proofs.NumberMaps.{insert-insert, get-insert_same}
use Rattle.bk_disk.specs.Disk.{files_after_append, files_after_patch, patched_file}
use Rattle.bk_head.specs.Header.{patch_of}
use Rattle.bk_head.specs.Written.{IsWritable}
use Rattle.bk_head.proofs.Spelling.{written_spells}
use Rattle.bk_log.specs.declared.fault.LogFault.{LogFault}
use Rattle.bk_log.specs.declared.fault.LogFault.TheVariants.{Disk, Failed, Memory, Odd}
use Rattle.bk_log.specs.Writing.{Writing, Writes}
use Rattle.bk_log.specs.Sealing.{map_bytes, map_fits, files_with_map, WriterSealTransition, KeepsEntries}
use Rattle.bk_log.proofs.Files.{grown-stands, patched-stands}
use Rattle.bk_log.proofs.Writes.{text_is_long}
use Rattle.bk_log.proofs.Others.{batches_prefix, keeps_append, keeps_patch, keeps_insert}

pub whole_of : (files : Files) (w : Writing) (writes : Writes files w) → IsWhole writes.file
whole_of files w writes = record { headed = text_is_long writes.file writes.records writes.text; records = writes.records; spelled = writes.text.spelled }

-- a prefix of the map after the records leaves the entries unchanged
mapped_entries : (files : Files) (w : Writing) (n : ℕ) (writes : Writes files w) → IsWritable w.sizes
    → entries_of (writes.file ++ take n (map_bytes w)) ≡ entries_of writes.file
mapped_entries files w n writes writable =
    keeps_append writes.file (take n (map_bytes w)) (whole_of files w writes) (batches_prefix (length writes.file) n (written_spells w.sizes writable).spelled)

pub all_entries : (files : Files) (w : Writing) (writes : Writes files w) → IsWritable w.sizes
    → entries_of (writes.file ++ map_bytes w) ≡ entries_of writes.file
all_entries files w writes writable =
    ap (λ b. entries_of (writes.file ++ b)) (sym (take_all (length (map_bytes w)) (map_bytes w) (omega arith)))
    ∙ mapped_entries files w (length (map_bytes w)) writes writable

-- the entries are unchanged with a prefix of the map, with all of it, and with the patched header
grown_keeps : (files : Files) (w : Writing) (n : ℕ) → Writes files w → IsWritable w.sizes → KeepsEntries files (files_after_append files w.log (take n (map_bytes w)))
grown_keeps files w n writes writable =
    subst (KeepsEntries files) (sym (grown-stands files w.log writes.file (take n (map_bytes w)) writes.stands))
    (keeps_insert files w.log writes.file _ writes.stands (mapped_entries files w n writes writable))

mapped_keeps : (files : Files) (w : Writing) → Writes files w → IsWritable w.sizes → KeepsEntries files (files_with_map files w)
mapped_keeps files w writes writable =
    subst (KeepsEntries files) (sym (grown-stands files w.log writes.file (map_bytes w) writes.stands))
    (keeps_insert files w.log writes.file _ writes.stands (all_entries files w writes writable))

pub patched-mapped : (files : Files) (w : Writing) (left : List ℕ) (writes : Writes files w)
    → files_after_patch (files_with_map files w) w.log left ≡ insert files w.log (patched_file (writes.file ++ map_bytes w) left)
patched-mapped files w left writes =
    let whole = writes.file ++ map_bytes w in
    let is : files_with_map files w ≡ insert files w.log whole = grown-stands files w.log writes.file (map_bytes w) writes.stands in
    ap (λ m. files_after_patch m w.log left) is ∙ patched-stands (insert files w.log whole) w.log whole left (get-insert_same files w.log whole)
    ∙ insert-insert files w.log whole (patched_file whole left)

pub long_enough : (files : Files) (w : Writing) (writes : Writes files w) → 20 ≤ length (writes.file ++ map_bytes w)
long_enough files w writes =
    omega (arith, text_is_long writes.file writes.records writes.text, length-append writes.file (map_bytes w))

patched_keeps : (files : Files) (w : Writing) (left : List ℕ) → Writes files w → IsWritable w.sizes → length left ≡ 12
    → KeepsEntries files (files_after_patch (files_with_map files w) w.log left)
patched_keeps files w left writes writable twelve =
    subst (KeepsEntries files) (sym (patched-mapped files w left writes))
    (keeps_insert files w.log writes.file _ writes.stands
    (keeps_patch (writes.file ++ map_bytes w) left twelve (long_enough files w writes) ∙ all_entries files w writes writable))

pub length-patch_of : (offset count : ℕ) → length (patch_of offset count) ≡ 12
unfolding patch_of
length-patch_of offset count = refl

sealed_keeps : (files : Files) (w : Writing) (b : Bool) → Writes files w → IsWritable w.sizes
    → KeepsEntries files (cond b (files_after_patch (files_with_map files w) w.log (patch_of w.end (len w.sizes))) files)
sealed_keeps files w true writes writable = patched_keeps files w (patch_of w.end (len w.sizes)) writes writable (length-patch_of w.end (len w.sizes))
sealed_keeps files w false writes writable = λ log. refl

-- `seal` leaves every log's entries unchanged, with any result
keeps_at : (files files' : Files) (w : Writing) (result : Result (Unit {0}) LogFault) → Writes files w → IsWritable w.sizes
    → WriterSealTransition files w result files' → KeepsEntries files files'
keeps_at files files' w (Ok done) writes writable turn = subst (KeepsEntries files) (sym turn) (sealed_keeps files w (map_fits w) writes writable)
keeps_at files files' w (Err Disk) writes writable (fits, inl (n, grew)) = subst (KeepsEntries files) (sym grew) (grown_keeps files w n writes writable)
keeps_at files files' w (Err Disk) writes writable (fits, inr (left, (twelve, wrote))) = subst (KeepsEntries files) (sym wrote)
    (patched_keeps files w left writes writable twelve)
keeps_at files files' w (Err Failed) writes writable turn = subst (KeepsEntries files) (sym turn) (λ log. refl)
keeps_at files files' w (Err Memory) writes writable (inl same) = subst (KeepsEntries files) (sym same) (λ log. refl)
keeps_at files files' w (Err Memory) writes writable (inr (fits, grew)) = subst (KeepsEntries files) (sym grew) (mapped_keeps files w writes writable)
keeps_at files files' w (Err Odd) writes writable turn = absurd turn

pub seal_keeps : (files files' : Files) (w now : Writing) (result : Result (Unit {0}) LogFault) → w ≡ now → Writes files now → IsWritable w.sizes
    → WriterSealTransition files now result files' → KeepsEntries files files'
seal_keeps files files' w now result same writes writable turn =
    keeps_at files files' now result writes (subst (λ (v : Writing). IsWritable v.sizes) same writable) turn
