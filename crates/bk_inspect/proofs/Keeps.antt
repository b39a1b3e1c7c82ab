-- Every entry of a log is there after it is sealed, or cut and sealed, in part or wholly.
use Rattle.std.proofs.Common.{◌≡◌, inl, inr, ℕ, ◌≤◌, Bool, cond, List, [], ◌++◌, length, take, refl, sym, ap, ◌∙◌, subst, arith, length-append}
use Rattle.std.specs.Prelude.{not}
use Rattle.std.specs.List.{filter}
use Rattle.std.proofs.lemmas.List.{length-take-le, take_all}
use Rattle.std.specs.FinMap as map
use Rattle.bk_record.specs.Files.{Files, IsWhole, header_length, records_of}
use Rattle.bk_record.specs.Record.{is_foreign}
use Rattle.bk_record.specs.Scan.{entries_of}
use Rattle.bk_record.proofs.NumberMaps.{get-insert_same, insert-insert}
use Rattle.bk_disk.specs.Disk.{IsFile, files_after_append, files_after_patch, patched_file}
use Rattle.bk_head.specs.Header.{patch_of}
use Rattle.bk_head.specs.Written.{written_map}
use Rattle.bk_head.proofs.Spelling.{written_spells}
use Rattle.bk_log.specs.Sealing.{KeepsEntries, files_with_map}
use Rattle.bk_log.specs.Sizes.{sizes_of}
use Rattle.bk_log.proofs.Files.{grown-stands, patched-stands}
use Rattle.bk_log.proofs.Others.{batches_prefix, keeps_append, keeps_insert, keeps_patch}
use Rattle.bk_log.proofs.Sealed.{length-patch_of}
use Rattle.bk_inspect.specs.declared.cut.Cut.{Cut}
use Rattle.bk_inspect.specs.declared.cut.NamedMap.{NamedMap}
use Rattle.bk_inspect.specs.declared.cut.NamedMap.TheVariants.{Old, Unnamed, Lost, Whole}
use Rattle.bk_inspect.specs.Cutting.{EndsWholeAt, IsCutAside, IsLeftAside, LosesNothing, cleared_if}
use Rattle.bk_inspect.specs.declared.seal.SealedLog.{SealedLog}
use Rattle.bk_inspect.specs.Sealing.{IsBroken, IsSealable, IsSealedBy, SealLeaves, writer_of}

keeps_same : (files files' : Files) → files' ≡ files → KeepsEntries files files'
keeps_same files files' is = subst (KeepsEntries files) (sym is) (λ log. refl)

keeps_then : (files mid files' : Files) → KeepsEntries files mid → KeepsEntries mid files' → KeepsEntries files files'
keeps_then files mid files' first second log = second log ∙ first log

-- ---- sealing

module _ (files : Files) (log : ℕ) (file : List ℕ) (stands : IsFile files log file) (able : IsSealable log file) where
  part_kept : (n : ℕ) → entries_of (file ++ take n (written_map (sizes_of (entries_of file)))) ≡ entries_of file
  part_kept n =
      keeps_append file (take n (written_map (sizes_of (entries_of file)))) (record { headed = able.long; records = records_of file; spelled = able.whole })
      (batches_prefix (length file) n (written_spells (sizes_of (entries_of file)) able.writable).spelled)

  map_kept : entries_of (file ++ written_map (sizes_of (entries_of file))) ≡ entries_of file
  map_kept =
      let m = written_map (sizes_of (entries_of file)) in
      ap (λ (b : List ℕ). entries_of (file ++ b)) (sym (take_all (length m) m (omega arith))) ∙ part_kept (length m)

  grown_keeps : (n : ℕ) (files' : Files) → files' ≡ files_after_append files log (take n (written_map (sizes_of (entries_of file)))) → KeepsEntries files files'
  grown_keeps n files' is =
      subst (KeepsEntries files) (sym (is ∙ grown-stands files log file (take n (written_map (sizes_of (entries_of file)))) stands))
      (keeps_insert files log file (file ++ take n (written_map (sizes_of (entries_of file)))) stands (part_kept n))

  patched_keeps : (left : List ℕ) (files' : Files) → length left ≡ 12
      → files' ≡ files_after_patch (files_with_map files (writer_of log file)) log left → KeepsEntries files files'
  patched_keeps left files' twelve is =
      let m = written_map (sizes_of (entries_of file)) in
      let all = file ++ m in
      let mapped : files_with_map files (writer_of log file) ≡ map.insert files log all = grown-stands files log file m stands in
      let now : files' ≡ map.insert files log (patched_file all left) =
      is ∙ ap (λ (fs : Files). files_after_patch fs log left) mapped
      ∙ patched-stands (map.insert files log all) log all left (get-insert_same files log all)
      ∙ insert-insert files log all (patched_file all left) in
      subst (KeepsEntries files) (sym now)
      (keeps_insert files log file (patched_file all left) stands
      (keeps_patch all left twelve (omega (arith, able.long, length-append file m)) ∙ map_kept))

sealed_keeps : (files files' : Files) (log : ℕ) (done : SealedLog) → IsSealedBy files log done files' → KeepsEntries files files'
sealed_keeps files files' log done s =
    let w = writer_of log s.file in
    let patch = patch_of w.end (map.len w.sizes) in
    patched_keeps files log s.file s.stands s.sealable patch files' (length-patch_of w.end (map.len w.sizes))
    (s.now ∙ ap (λ (b : Bool). cond b (files_after_patch (files_with_map files w) log patch) files) s.sealable.fits)

broken_keeps : (files files' : Files) (log : ℕ) → IsBroken files log files' → KeepsEntries files files'
broken_keeps files files' log b = elim b.now as (λ _. KeepsEntries files files') [
  | inl part ↦ grown_keeps files log b.file b.stands b.sealable part.0 files' part.1
  | inr left ↦ patched_keeps files log b.file b.stands b.sealable left.0 files' left.1.0 left.1.1
]

pub seal_keeps : (files files' : Files) (log : ℕ) → SealLeaves files log files' → KeepsEntries files files'
seal_keeps files files' log (inl same) = keeps_same files files' same
seal_keeps files files' log (inr (inl (done, is))) = sealed_keeps files files' log done is
seal_keeps files files' log (inr (inr broken)) = broken_keeps files files' log broken

-- ---- cutting

front_entries : (file : List ℕ) (at : ℕ) → EndsWholeAt file at → entries_of (take at file) ≡ entries_of file
unfolding entries_of
front_entries file at ends = ap (filter (λ (r : ℕ × List ℕ). not (is_foreign r.1))) ends.found

front_long : (file : List ℕ) (at : ℕ) → EndsWholeAt file at → 20 ≤ length (take at file)
front_long file at ends = omega (arith, length-take-le at file ends.within, ends.headed)

cleared_entries : (named : NamedMap) (file : List ℕ) → 20 ≤ length file → entries_of (cleared_if named file) ≡ entries_of file
cleared_entries Old file long = refl
cleared_entries Unnamed file long = refl
cleared_entries Lost file long = keeps_patch file (patch_of 0 0) (length-patch_of 0 0) long
cleared_entries Whole file long = refl

cut_keeps : (files copies files' copies' synced' : Files) (log : ℕ) (cut : Cut) → IsCutAside files copies log cut files' copies' synced'
    → KeepsEntries files files'
cut_keeps files copies files' copies' synced' log cut a =
    let front = take cut.at a.file in
    subst (KeepsEntries files) (sym a.now) (keeps_insert files log a.file (cleared_if cut.map front) a.stands
    (cleared_entries cut.map front (front_long a.file cut.at a.cuts.ends) ∙ front_entries a.file cut.at a.cuts.ends))

left_keeps : (files copies files' copies' synced' : Files) (log : ℕ) → IsLeftAside files copies log files' copies' synced' → KeepsEntries files files'
left_keeps files copies files' copies' synced' log a =
    let front = take a.cut.at a.file in
    let kept = front_entries a.file a.cut.at a.cuts.ends in
    elim a.left as (λ _. KeepsEntries files files') [
      | inl same ↦ keeps_same files files' same
      | inr changed ↦ elim changed as (λ _. KeepsEntries files files') [
        | inl short ↦ subst (KeepsEntries files) (sym short) (keeps_insert files log a.file front a.stands kept)
        | inr patched ↦ subst (KeepsEntries files) (sym patched.1.1.1) (keeps_insert files log a.file (patched_file front patched.1.0) a.stands
            (keeps_patch front patched.1.0 patched.1.1.0 (front_long a.file a.cut.at a.cuts.ends) ∙ kept))
      ]
    ]

pub cut_and_seal_keeps : (files copies files' copies' synced' : Files) (log : ℕ) → LosesNothing files copies log files' copies' synced'
    → KeepsEntries files files'
cut_and_seal_keeps files copies files' copies' synced' log (inl (sealed, left)) = seal_keeps files files' log sealed
cut_and_seal_keeps files copies files' copies' synced' log (inr (inl (cut, (mid, (was, sealed))))) =
    keeps_then files mid files' (cut_keeps files copies mid copies' synced' log cut was) (seal_keeps mid files' log sealed)
cut_and_seal_keeps files copies files' copies' synced' log (inr (inr left)) = left_keeps files copies files' copies' synced' log left
