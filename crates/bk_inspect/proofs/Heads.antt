-- A log's length and its first bytes, as two calls on a disk give them.
use Rattle.std.proofs.Common.{◌≡◌, ℕ, ◌≤◌, List, length, take, Vec, Some, Ok, sym, ap, ◌∙◌, subst, arith}
use Rattle.std.specs.Global.{Global}
use Rattle.std.specs.FinMap as map
use Rattle.std.proofs.lemmas.List.{take-take}
use Rattle.bk_record.specs.Files.{Files, header_length}
use Rattle.bk_head.specs.Header.{IsHeader, HeaderFault}
use Rattle.bk_disk.specs.Disk.{Measures, Reads}
use Rattle.bk_inspect.specs.declared.header.Head.{Head}
use Rattle.bk_inspect.specs.declared.header.Head.TheVariants.{Short, Bad, Whole}
use Rattle.bk_inspect.specs.Heads.{StartsWith, IsHead}
use Rattle.bk_inspect.specs.Reading.{OfFile}

-- the first bytes start as the log does
starts_so : (file bytes : List ℕ) (head : Head) → bytes ≡ take header_length file → header_length ≤ length file → StartsWith bytes head → IsHead file head
starts_so file bytes Short is long starts = absurd starts
starts_so file bytes (Bad fault) is long starts =
    (long, subst (λ b. HeaderFault b fault) (ap (take header_length) is ∙ take-take header_length header_length file (omega arith)) starts)
starts_so file bytes (Whole header) is long starts =
    (long, subst (λ b. IsHeader b header) (ap (take header_length) is ∙ take-take header_length header_length file (omega arith)) starts)

pub head_known : (old mid new : Files) (log n : ℕ) (bytes : Vec ℕ Global) (head : Head) → Measures old log (Ok n) mid
    → Reads (λ (v : Vec ℕ Global). v.items) mid log 0 1024 (Ok bytes) new → StartsWith bytes.items head
    → OfFile old log (λ file. (n ≡ length file) × IsHead file head)
head_known old mid new log n bytes head measured read starts =
    let file = measured.0 in
    let there : map.get old log ≡ Some file = measured.1 in
    let also : map.get old log ≡ Some read.0 = sym (ap (λ fs. map.get fs log) measured.3) ∙ read.1 in
    let same : read.0 ≡ file = cc in (
      file,
      there,
      (
        measured.2,
        starts_so file bytes.items head (read.3 ∙ ap (λ (f : List ℕ). take 1024 f) same)
            (subst (λ (f : List ℕ). header_length ≤ length f) same read.2) starts,
      ),
    )
