-- The header of a log that was found, as it is read.
use Rattle.std.proofs.Common.{◌≡◌, ℕ, ◌≤◌, List, length, take, sym, ap, ◌∙◌, arith}
use Rattle.std.proofs.lemmas.List.{length-take}
use Rattle.std.proofs.lemmas.Option.{same_Some}
use Rattle.bk_record.specs.Files.{Files, header_length}
use Rattle.bk_disk.specs.Disk.{IsFile}

-- a read of n bytes from the front gives the file's
pub read_front : (files : Files) (id : ℕ) (file other bytes : List ℕ) → IsFile files id file → IsFile files id other
    → header_length ≤ length other → bytes ≡ take header_length other → (bytes ≡ take header_length file) × (length bytes ≡ header_length)
read_front files id file other bytes stands there long is =
    let same : other ≡ file = same_Some other file (sym there ∙ stands) in
    (is ∙ ap (take header_length) same, omega (arith, ap length is, length-take header_length other, long))
