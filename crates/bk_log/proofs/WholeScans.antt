-- A scan of a whole log gives its entries in order, and at the end it has given all.
use Rattle.std.proofs.Common.{◌≡◌, ℕ, ◌≤◌, List, length, drop, Some, None, Ok, slice_get, sym, ap, ◌∙◌, arith}
use Rattle.bk_record.specs.Files.{header_length}
use Rattle.bk_record.specs.Scan.{entries_of}
use Rattle.bk_disk.specs.Disk.{view_end}
use Rattle.bk_log.specs.declared.found.Found.{Found}
use Rattle.bk_log.specs.Ranges.{entries_in, part}
use Rattle.bk_log.specs.Scanning.{Scan, part_of, NextMoves, ScanNextTransition}
use Rattle.bk_log.proofs.Ranges.{entries_in-file, whole_view}

-- a scan of the log from the end of its header to `end`
pub record ScansWhole (s : Scan) (file : List ℕ) (end : ℕ) : Type 0 where
  pub from : s.from ≡ header_length
  pub to : s.end ≡ end
  pub bytes : s.file ≡ file

module _ {s : Scan} {file : List ℕ} {end : ℕ} (whole : ScansWhole s file end) where
  pub scan_part : end ≡ view_end file → part_of s ≡ drop header_length file
  scan_part all = (λ i. part (whole.bytes i) (whole.from i) (whole.to i)) ∙ whole_view file end all

  pub scan_entries : end ≡ view_end file → entries_in s.from (part_of s) ≡ entries_of file
  scan_entries all = (λ i. entries_in (whole.from i) (scan_part all i)) ∙ entries_in-file file

  -- one more entry
  module _ (found : Found) (s' : Scan) (moves : NextMoves s (Ok (Some found)) s') where
    pub next_begins : 1028 ≤ found.at
    next_begins = omega (arith, whole.from, moves.1.begins)

    pub whole_on : ScansWhole s' file end
    whole_on = record {
      from = ap (λ (x : Scan). x.from) moves.2 ∙ whole.from;
      to = ap (λ (x : Scan). x.end) moves.2 ∙ whole.to;
      bytes = ap (λ (x : Scan). x.file) moves.2 ∙ whole.bytes;
    }

    -- it is the next entry of the log
    pub next_listed : (turn : ScanNextTransition s (Ok (Some found)) s') → end ≡ view_end file
        → slice_get (entries_of file) s.given ≡ Some (found.at, turn.payload)
    next_listed turn all = ap (λ (l : List (ℕ × List ℕ)). slice_get l s.given) (sym (scan_entries all)) ∙ turn.listed

  -- at the end all entries were given
  pub all_given : (s' : Scan) → NextMoves s (Ok None) s' → ScanNextTransition s (Ok None) s' → end ≡ view_end file → s.given ≡ length (entries_of file)
  all_given s' moves turn all =
      let same : part_of s' ≡ part_of s =
      λ i. part (ap (λ (x : Scan). x.file) moves.1 i) (ap (λ (x : Scan). x.from) moves.1 i) (ap (λ (x : Scan). x.end) moves.1 i) in
      let from : s'.from ≡ s.from = ap (λ (x : Scan). x.from) moves.1 in
      sym (ap (λ (x : Scan). x.given) moves.1) ∙ turn.given ∙ ap length ((λ i. entries_in (from i) (same i)) ∙ scan_entries all)
