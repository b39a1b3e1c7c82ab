-- A sealed log has its map: at the header's offset, with the sums of the entries' sizes.
use Rattle.std.proofs.Common.{◌≡◌, ℕ, pos, true, false, cond, not, List, [], ◌∷◌, ◌++◌, length, take, drop, IsSome, OnOk, Result, Ok, Err, unwrap_or, refl, sym}
use Rattle.std.proofs.Common.{ap, ◌∙◌, subst, arith, length-append, length-drop, append_assoc}
use Rattle.std.proofs.lemmas.Bool.{le-leb}
use Rattle.std.proofs.lemmas.List.{take-append-drop, length-take-le, drop_at}
use Rattle.std.proofs.lemmas.Slice.{drop-append-drop}
use Rattle.std.specs.List.{filter, AllByRecursion}
use Rattle.std.specs.FinMap.{get, insert, len}
use Rattle.bk_record.specs.Record.{key_of, is_foreign}
use Rattle.bk_record.specs.Files.{Files, file_of}
use Rattle.bk_record.specs.Scan.{entries_of}
use Rattle.bk_record.proofs.Growth.{records_of-body}
use Rattle.bk_record.proofs.EntryLists.{is_entry}
use Rattle.bk_record.proofs.NumberMaps.{get-insert_same}
use Rattle.bk_disk.specs.Disk.{files_after_patch, patched_file}
use Rattle.bk_head.specs.Header.{IsHeader, empty_header, patch_of}
use Rattle.bk_head.specs.declared.header.Header.{Header}
use Rattle.bk_head.specs.Ledgers.{SpellsMap}
use Rattle.bk_head.specs.Written.{IsWritable}
use Rattle.bk_head.proofs.Again.{patched_again, empty_is_header}
use Rattle.bk_head.proofs.Spelling.{written_spells}
use Rattle.bk_log.specs.Sizes.{sizes_of}
use Rattle.bk_log.specs.Writing.{Writing, Writes}
use Rattle.bk_log.specs.Sealing.{map_bytes, map_fits, files_with_map, files_after_seal, WriterSealTransition, HasMap}
use Rattle.bk_log.specs.declared.fault.LogFault.{LogFault}
use Rattle.bk_log.proofs.Writes.{text_is_long}
use Rattle.bk_log.proofs.Others.{keeps_patch}
use Rattle.bk_log.proofs.Sealed.{all_entries, patched-mapped, long_enough, length-patch_of}

-- records that all have keys are all entries
all_kept : (records : List (ℕ × List ℕ)) → AllByRecursion (λ r. IsSome (key_of r.1)) records → filter is_entry records ≡ records
all_kept [] keyed = refl
all_kept (r ∷ records) keyed =
    let is : is_foreign r.1 ≡ false = ap not keyed.0 in
    ap (λ b. cond (not b) (r ∷ filter is_entry records) (filter is_entry records)) is ∙ ap (λ l. r ∷ l) (all_kept records keyed.1)

-- the records of the writer are the entries of its log
entries_put : (files : Files) (w : Writing) (writes : Writes files w) → entries_of writes.file ≡ writes.records
unfolding entries_of
entries_put files w writes =
    ap (filter is_entry) (records_of-body writes.file writes.text.spelled) ∙ all_kept writes.records writes.keyed

-- an append keeps the header
header-append : (bytes behind : List ℕ) (header : Header) → IsHeader bytes header → IsHeader (bytes ++ behind) header
header-append bytes behind header is = record {
  fields = is.fields;
  rest = is.rest ++ behind;
  bytes_are = ap (λ b. b ++ behind) is.bytes_are ∙ simp append_assoc;
  says = is.says;
}

abbrev unsealed : Header
unsealed = record { version = 1; map_offset = pos 0; count = pos 0 }

header_put : (files : Files) (w : Writing) (writes : Writes files w) → IsHeader writes.file unsealed
header_put files w writes =
    subst (λ b. IsHeader b unsealed) (ap (λ b. b ++ drop 1024 writes.file) (sym writes.text.headed) ∙ take-append-drop 1024 writes.file)
    (header-append empty_header (drop 1024 writes.file) unsealed empty_is_header)

-- a whole file with its map appended and its header patched
map_stands : (files : Files) (w : Writing) (file : List ℕ) (writes : Writes files w) → IsWritable w.sizes
    → file ≡ patched_file (writes.file ++ map_bytes w) (patch_of w.end (len w.sizes)) → HasMap file
map_stands files w file writes writable is =
    let whole = writes.file ++ map_bytes w in
    let front = take 8 whole ++ patch_of w.end (len w.sizes) in
    let long = long_enough files w writes in
    let open_is : file ≡ front ++ drop 20 whole = is ∙ ap (λ b. cond b (front ++ drop 20 whole) whole) (le-leb 20 (length whole) long) in
    let entries : entries_of file ≡ writes.records =
    ap entries_of is ∙ keeps_patch whole (patch_of w.end (len w.sizes)) (length-patch_of w.end (len w.sizes)) long
    ∙ all_entries files w writes writable ∙ entries_put files w writes in
    let sizes : sizes_of (entries_of file) ≡ w.sizes = ap sizes_of entries ∙ sym writes.sized in
    let twenty : length front ≡ 20 = omega (
      arith,
      length-append (take 8 whole) (patch_of w.end (len w.sizes)),
      length-take-le 8 whole
          (omega arith),
      length-patch_of w.end (len w.sizes),
    ) in
    let behind : drop w.end file ≡ map_bytes w =
    ap (drop w.end) open_is ∙ drop-append-drop 20 whole front w.end (omega (arith, writes.long, text_is_long writes.file writes.records writes.text)) twenty
    ∙ drop_at writes.file (map_bytes w) w.end (sym writes.long) in
    record {
      offset = w.end;
      behind = omega (arith, writes.long, text_is_long writes.file writes.records writes.text);
      within = omega (
        arith,
        writes.long,
        ap length open_is,
        length-append front (drop 20 whole),
        twenty,
        length-drop 20 whole,
        length-append writes.file
            (map_bytes w),
        long,
      );
      header = subst (λ b. IsHeader b (record { version = 1; map_offset = pos w.end; count = pos (len (sizes_of (entries_of file))) })) (sym open_is)
          (subst (λ s. IsHeader (front ++ drop 20 whole) (record { version = 1; map_offset = pos w.end; count = pos (len s) })) (sym sizes)
          (patched_again whole unsealed w.end (len w.sizes) (header-append writes.file (map_bytes w) unsealed (header_put files w writes)) refl));
      spelled = subst (λ s. SpellsMap (drop w.end file) s) (sym sizes) (subst (λ b. SpellsMap b w.sizes) (sym behind) (written_spells w.sizes writable));
    }

-- a sealed log whose map fits has its map
pub sealed_has_map : (files files' : Files) (w now : Writing) → w ≡ now → Writes files now → IsWritable w.sizes → files' ≡ files_after_seal files now
    → map_fits now ≡ true
    → HasMap (file_of files' now.log)
sealed_has_map files files' w now same writes writable is fits =
    let writable' = subst (λ (v : Writing). IsWritable v.sizes) same writable in
    let put = patch_of now.end (len now.sizes) in
    let file = patched_file (writes.file ++ map_bytes now) put in
    let stands : files' ≡ insert files now.log file =
    is ∙ ap (λ b. cond b (files_after_patch (files_with_map files now) now.log put) files) fits ∙ patched-mapped files now put writes in
    map_stands files now (file_of files' now.log) writes writable'
    (ap (λ m. unwrap_or (get m now.log) []) stands ∙ ap (λ o. unwrap_or o []) (get-insert_same files now.log file))

pub seal_map : (files files' : Files) (w now : Writing) (result : Result (Unit {0}) LogFault) → w ≡ now → Writes files now → IsWritable w.sizes
    → WriterSealTransition files now result files' → map_fits now ≡ true → OnOk result (HasMap (file_of files' now.log))
seal_map files files' w now (Ok done) same writes writable turn fits = sealed_has_map files files' w now same writes writable turn fits
seal_map files files' w now (Err fault) same writes writable turn fits = tt
