-- Sealing a log, by the calls of the disk.
use Rattle.std.proofs.Common.{◌≡◌, inl, inr, ℕ, ◌+◌, ◌<◌, ◌^◌, true, cond, List, [], ◌∷◌, ◌++◌, length, Result, Ok, Err, refl, sym, ap, ◌∙◌, subst, arith}
use Rattle.std.proofs.Common.{length-append}
use Rattle.std.proofs.lemmas.Bool.{lt-ltb}
use Rattle.std.specs.FinMap.{get, len}
use Rattle.bk_record.specs.Files.{Files}
use Rattle.bk_record.proofs.NumberMaps.{get-insert_same}
use Rattle.bk_disk.specs.Disk.{files_after_append, files_after_patch}
use Rattle.bk_head.specs.Header.{patch_of}
use Rattle.bk_log.specs.declared.fault.LogFault.{LogFault}
use Rattle.bk_log.specs.declared.fault.LogFault.TheVariants.{Disk, Failed, Memory, Odd}
use Rattle.bk_log.specs.Calls.{HasRoom, Adds, HasPatchableHeader, Overwrites}
use Rattle.bk_log.specs.Writing.{Writing, Writes}
use Rattle.bk_log.specs.Sealing.{map_bytes, map_fits, files_with_map, WriterSealTransition}
use Rattle.bk_log.proofs.Files.{grown-stands, grown-nothing}
use Rattle.bk_log.proofs.Writes.{text_is_long}

-- the log has room for a map that fits
pub seal_room : (files : Files) (w now : Writing) (bytes : List ℕ) → w ≡ now → Writes files now → w.end + length bytes < 2 ^ 32
    → HasRoom files w.log (length bytes)
seal_room files w now bytes same writes fits =
    let writes' = subst (λ (v : Writing). Writes files v) (sym same) writes in
    record { file = writes'.file; stands = writes'.stands; fits = omega (arith, writes'.long) }

-- the header can be patched, also after the map is appended
pub header_there : (files files' : Files) (w now : Writing) (bytes : List ℕ) → w ≡ now → Writes files now → files' ≡ files_after_append files w.log bytes
    → HasPatchableHeader files' w.log
header_there files files' w now bytes same writes grew =
    let writes' = subst (λ (v : Writing). Writes files v) (sym same) writes in
    let is = grew ∙ grown-stands files w.log writes'.file bytes writes'.stands in
    let long = text_is_long writes'.file writes'.records writes'.text in
    record {
      file = writes'.file ++ bytes;
      stands = ap (λ m. get m w.log) is ∙ get-insert_same files w.log (writes'.file ++ bytes);
      long = omega (arith, long, length-append writes'.file bytes);
    }

no_items : (bytes : List ℕ) → length bytes ≡ 0 → bytes ≡ []
no_items [] none = refl
no_items (b ∷ bytes) none = absurd (omega arith)

-- an append of no bytes changes nothing
pub adds_nothing : (files : Files) (log : ℕ) (bytes : List ℕ) → HasRoom files log (length bytes) → length bytes ≡ 0 → files ≡ files_after_append files log bytes
adds_nothing files log bytes room none =
    sym (ap (files_after_append files log) (no_items bytes none) ∙ grown-nothing files log room.file room.stands)

fits_when : (w : Writing) (bytes : List ℕ) → bytes ≡ map_bytes w → w.end + length bytes < 2 ^ 32 → map_fits w ≡ true
fits_when w bytes is fits = lt-ltb (w.end + length (map_bytes w)) (2 ^ 32) (subst (λ b. w.end + length b < 2 ^ 32) is fits)

-- the append of the map failed
append_failed : (files files' : Files) (w : Writing) (fault : LogFault) → map_fits w ≡ true → Adds files w.log (map_bytes w) (Err fault) files'
    → WriterSealTransition files w (Err fault) files'
append_failed files files' w Disk fits (n, grew) = (fits, inl (n, grew))
append_failed files files' w Failed fits adds = absurd adds
append_failed files files' w Memory fits adds = inl adds
append_failed files files' w Odd fits adds = absurd adds

pub seal_append : (files files' : Files) (w now : Writing) (bytes : List ℕ) (fault : LogFault) → w ≡ now → bytes ≡ map_bytes w → w.end + length bytes < 2 ^ 32
    → Adds files w.log bytes (Err fault) files' → WriterSealTransition files now (Err fault) files'
seal_append files files' w now bytes fault same is fits adds =
    subst (λ (v : Writing). WriterSealTransition files v (Err fault) files') same
    (append_failed files files' w fault (fits_when w bytes is fits) (subst (λ b. Adds files w.log b (Err fault) files') is adds))

-- the map is written; the patch of the header succeeded or failed
patch_turn : (files files' : Files) (w : Writing) (result : Result (Unit {0}) LogFault) → map_fits w ≡ true
    → Overwrites (files_with_map files w) w.log (patch_of w.end (len w.sizes)) result files' → WriterSealTransition files w result files'
patch_turn files files' w (Ok done) fits wrote =
    wrote ∙ sym (ap (λ b. cond b (files_after_patch (files_with_map files w) w.log (patch_of w.end (len w.sizes))) files) fits)
patch_turn files files' w (Err Disk) fits (left, (twelve, wrote)) = (fits, inr (left, (twelve, wrote)))
patch_turn files files' w (Err Failed) fits wrote = absurd wrote
patch_turn files files' w (Err Memory) fits wrote = inr (fits, wrote)
patch_turn files files' w (Err Odd) fits wrote = absurd wrote

pub seal_patch : (files mid files' : Files) (w now : Writing) (bytes patch : List ℕ) (result : Result (Unit {0}) LogFault) → w ≡ now → bytes ≡ map_bytes w
    → w.end + length bytes < 2 ^ 32 → mid ≡ files_after_append files w.log bytes → patch ≡ patch_of w.end (len w.sizes) → Overwrites mid w.log patch result files'
    → WriterSealTransition files now result files'
seal_patch files mid files' w now bytes patch result same is fits grew wrote overwrites =
    let whole : mid ≡ files_with_map files w = grew ∙ ap (files_after_append files w.log) is in
    subst (λ (v : Writing). WriterSealTransition files v result files') same
    (patch_turn files files' w result (fits_when w bytes is fits)
    (subst (λ p. Overwrites (files_with_map files w) w.log p result files') wrote (subst (λ m. Overwrites m w.log patch result files') whole overwrites)))
