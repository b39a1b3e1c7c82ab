-- A log's file after a create, an append and a patch.
use Rattle.std.proofs.Common.{◌≡◌, ℕ, ◌<◌, ◌^◌, List, [], ◌++◌, ap, ◌∙◌, arith}
use Rattle.std.specs.Option.{option_map_or}
use Rattle.std.specs.FinMap.{get, insert}
use Rattle.std.proofs.lemmas.List.{append-nil}
use Rattle.bk_record.specs.Files.{Files}
use Rattle.bk_record.proofs.NumberMaps.{get-insert_same, insert_same}
use Rattle.bk_disk.specs.Disk.{IsFile, files_after_append, files_after_patch, patched_file}
use Rattle.bk_log.specs.Calls.{HasRoom}

-- an append to a log that exists
pub grown-stands : (files : Files) (log : ℕ) (file piece : List ℕ) → IsFile files log file → files_after_append files log piece ≡ insert files log (file ++ piece)
grown-stands files log file piece stands = ap (λ o. option_map_or (λ f. insert files log (f ++ piece)) o files) stands

-- a new log has room for its header
pub room_new : (files made : Files) (log size : ℕ) → made ≡ insert files log [] → size < 2 ^ 32 → HasRoom made log size
room_new files made log size is small =
    record { file = []; stands = ap (λ m. get m log) is ∙ get-insert_same files log []; fits = omega arith }

-- an append of no bytes leaves the files unchanged
pub grown-nothing : (files : Files) (log : ℕ) (file : List ℕ) → IsFile files log file → files_after_append files log [] ≡ files
grown-nothing files log file stands =
    grown-stands files log file [] stands ∙ ap (insert files log) (append-nil file) ∙ insert_same files log file stands

-- a patch of a log that exists
pub patched-stands : (files : Files) (log : ℕ) (file bytes : List ℕ) → IsFile files log file
    → files_after_patch files log bytes ≡ insert files log (patched_file file bytes)
patched-stands files log file bytes stands = ap (λ o. option_map_or (λ f. insert files log (patched_file f bytes)) o files) stands
