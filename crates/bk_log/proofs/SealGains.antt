-- Files after sealing: foreign records after those of the log.
use Rattle.std.proofs.Common.{◌≡◌, inl, inr, ℕ, Bool, true, false, cond, List, [], ◌++◌, length, take, Result, Ok, Err, refl, sym, ap, ◌∙◌, subst, arith}
use Rattle.std.proofs.lemmas.List.{take_all}
use Rattle.std.specs.FinMap.{len}
use Rattle.bk_record.specs.Files.{Files, records_of}
use Rattle.bk_record.proofs.Longer.{longer_append, longer_trans}
use Rattle.bk_record.proofs.Growth.{records_of-behind}
use Rattle.bk_disk.specs.Disk.{files_after_append, files_after_patch, patched_file}
use Rattle.bk_head.specs.Header.{patch_of}
use Rattle.bk_head.specs.Written.{IsWritable}
use Rattle.bk_head.proofs.Spelling.{written_spells}
use Rattle.bk_log.specs.declared.fault.LogFault.{LogFault}
use Rattle.bk_log.specs.declared.fault.LogFault.TheVariants.{Disk, Failed, Memory, Odd}
use Rattle.bk_log.specs.Writing.{Writing, Writes}
use Rattle.bk_log.specs.Sealing.{map_bytes, map_fits, files_with_map, WriterSealTransition}
use Rattle.bk_log.specs.Growing.{SealGains, HasNoBadLength}
use Rattle.bk_log.proofs.Files.{grown-stands}
use Rattle.bk_log.proofs.Gains.{longer_patch, spelled_behind, spelled_patch, gains_same, gains_file, file_at}
use Rattle.bk_log.proofs.Others.{Others, batches_prefix, records_of-patch}
use Rattle.bk_log.proofs.Sealed.{whole_of, patched-mapped, long_enough, length-patch_of}

-- unchanged files
pub seal_same : (files files' : Files) (w : Writing) → files' ≡ files → SealGains files w files'
seal_same files files' w is = record { others = []; foreign = refl; gains = gains_same files files' w.log is }

module _ (files files' : Files) (w : Writing) (writes : Writes files w) (writable : IsWritable w.sizes) where
  -- a prefix of the map is foreign records and a rest
  batches : (n : ℕ) → Others (length writes.file) (take n (map_bytes w))
  batches n = batches_prefix (length writes.file) n (written_spells w.sizes writable).spelled

  came : (n : ℕ) → records_of (writes.file ++ take n (map_bytes w)) ≡ records_of writes.file ++ (batches n).records
  came n = records_of-behind writes.file (whole_of files w writes) (take n (map_bytes w)) (batches n).rest (batches n).records (batches n).spelled

  spelled : (n : ℕ) → HasNoBadLength (writes.file ++ take n (map_bytes w))
  spelled n = spelled_behind writes.file (whole_of files w writes) (take n (map_bytes w)) (batches n).rest (batches n).records (batches n).spelled

  seal_part : (n : ℕ) → files' ≡ files_after_append files w.log (take n (map_bytes w)) → SealGains files w files'
  seal_part n is = record {
    others = (batches n).records;
    foreign = (batches n).foreign;
    gains = gains_file files files' w.log writes.file (writes.file ++ take n (map_bytes w)) (batches n).records (file_at files w.log writes.file writes.stands)
        (is ∙ grown-stands files w.log writes.file (take n (map_bytes w)) writes.stands) (came n)
        (longer_append writes.file (take n (map_bytes w))) (λ _. spelled n);
  }

  all_map : take (length (map_bytes w)) (map_bytes w) ≡ map_bytes w
  all_map = take_all (length (map_bytes w)) (map_bytes w) (omega arith)

  seal_map_alone : files' ≡ files_with_map files w → SealGains files w files'
  seal_map_alone is = seal_part (length (map_bytes w)) (is ∙ ap (files_after_append files w.log) (sym all_map))

  seal_patched : (left : List ℕ) → length left ≡ 12 → files' ≡ files_after_patch (files_with_map files w) w.log left → SealGains files w files'
  seal_patched left twelve is =
      let n = length (map_bytes w) in
      let whole = writes.file ++ map_bytes w in
      let long = long_enough files w writes in
      record {
        others = (batches n).records;
        foreign = (batches n).foreign;
        gains = gains_file files files' w.log writes.file (patched_file whole left) (batches n).records (file_at files w.log writes.file writes.stands)
            (is ∙ patched-mapped files w left writes)
            (records_of-patch whole left twelve long ∙ ap (λ b. records_of (writes.file ++ b)) (sym all_map) ∙ came n)
            (longer_trans writes.file whole (patched_file whole left) (longer_append writes.file (map_bytes w)) (longer_patch whole left twelve long))
            (λ _. spelled_patch whole left twelve long (subst (λ (b : List ℕ). HasNoBadLength (writes.file ++ b)) all_map (spelled n)));
      }

  seal_done : (b : Bool) → files' ≡ cond b (files_after_patch (files_with_map files w) w.log (patch_of w.end (len w.sizes))) files → SealGains files w files'
  seal_done true is = seal_patched (patch_of w.end (len w.sizes)) (length-patch_of w.end (len w.sizes)) is
  seal_done false is = seal_same files files' w is

  pub seal_gains : (result : Result (Unit {0}) LogFault) → WriterSealTransition files w result files' → SealGains files w files'
  seal_gains (Ok done) turn = seal_done (map_fits w) turn
  seal_gains (Err Disk) (fits, inl (n, is)) = seal_part n is
  seal_gains (Err Disk) (fits, inr (left, (twelve, is))) = seal_patched left twelve is
  seal_gains (Err Failed) is = seal_same files files' w is
  seal_gains (Err Memory) (inl is) = seal_same files files' w is
  seal_gains (Err Memory) (inr (fits, is)) = seal_map_alone is
  seal_gains (Err Odd) never = absurd never

pub seal_gains_of : (files files' : Files) (w now : Writing) (result : Result (Unit {0}) LogFault) → w ≡ now → Writes files now → IsWritable w.sizes
    → WriterSealTransition files now result files' → SealGains files now files'
seal_gains_of files files' w now result same writes writable turn =
    seal_gains files files' now writes (subst (λ (v : Writing). IsWritable v.sizes) same writable) result turn
