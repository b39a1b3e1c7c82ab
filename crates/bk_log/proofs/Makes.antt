-- Creation of a log: its file, its header, its writer.
use Rattle.std.proofs.Common.{◌≡◌, ℕ, true, List, [], length, take, IsNone, Err, refl, sym, ap, ◌∙◌, subst}
use Rattle.std.specs.FinMap.{get, insert}
use Rattle.bk_record.specs.Files.{Files}
use Rattle.bk_record.specs.Body.Body.{done}
use Rattle.bk_record.proofs.NumberMaps.{get-insert_same}
use Rattle.bk_disk.specs.Disk.{files_after_append}
use Rattle.bk_log.specs.declared.fault.LogFault.{LogFault}
use Rattle.bk_log.specs.declared.fault.LogFault.TheVariants.{Disk, Failed, Memory, Odd}
use Rattle.bk_head.specs.Header.{empty_header, head_of, patch_of}
use Rattle.bk_log.specs.Text.{IsLogText}
use Rattle.bk_log.specs.Sizes.{sizes_of}
use Rattle.bk_log.specs.Calls.{Adds}
use Rattle.bk_log.specs.Writing.{Writing, new_writing, CreateFails, Writes}
use Rattle.bk_disk.proofs.FileMaps.{grown-insert}

pub length-empty_header : length empty_header ≡ 1024
unfolding empty_header head_of patch_of
length-empty_header = refl

-- files after a failed append of the header
fails_at : (files files' : Files) (log : ℕ) (fault : LogFault) → IsNone (get files log)
    → Adds (insert files log []) log empty_header (Err fault) files' → CreateFails files log true fault files'
fails_at files files' log Disk new (n, grew) = (new, (n, grew ∙ grown-insert files log [] (take n empty_header)))
fails_at files files' log Failed new never = absurd never
fails_at files files' log Memory new same = (new, same)
fails_at files files' log Odd new never = absurd never

pub create_fails : (files made files' : Files) (log : ℕ) (bytes : List ℕ) (fault : LogFault) → IsNone (get files log)
    → made ≡ insert files log [] → bytes ≡ empty_header → Adds made log bytes (Err fault) files' → CreateFails files log true fault files'
create_fails files made files' log bytes fault new is same adds =
    fails_at files files' log fault new
    (subst (λ (m : Files). Adds m log empty_header (Err fault) files') is
    (subst (λ (b : List ℕ). Adds made log b (Err fault) files') same adds))

-- files after the header was written
pub create_ok : (files made files' : Files) (log : ℕ) (bytes : List ℕ) → made ≡ insert files log [] → bytes ≡ empty_header
    → files' ≡ files_after_append made log bytes → files' ≡ insert files log empty_header
create_ok files made files' log bytes is same grew =
    grew ∙ ap (files_after_append made log) same ∙ ap (λ m. files_after_append m log empty_header) is ∙ grown-insert files log [] empty_header

header_text : IsLogText empty_header []
unfolding empty_header head_of patch_of
header_text = record { headed = refl; spelled = done }

-- the writer of a log that has only its header
pub writes_new : (files files' : Files) (log : ℕ) (w : Writing) → files' ≡ insert files log empty_header → w ≡ new_writing log → Writes files' w
unfolding sizes_of
writes_new files files' log w is same = subst (λ (v : Writing). Writes files' v) (sym same) (record {
  file = empty_header;
  records = [];
  stands = ap (λ m. get m log) is ∙ get-insert_same files log empty_header;
  long = sym length-empty_header;
  text = header_text;
  counted = refl;
  sized = refl;
  keyed = tt;
})
