-- Sizes of entries, by powers of two.
use Rattle.std.specs.Prelude.{◌≡◌, ℕ, ◌+◌, slice_index, slice_set}
use Rattle.bk_report.specs.declared.histogram.Histogram.{Histogram}
use Rattle.bk_report.specs.Parts.{saturated}
use Rattle.bk_report.specs.Classes.{IsOfClass}

-- one more entry of the size
abbrev pub CountsSize : ℕ → Histogram → Histogram → Type 0
CountsSize size old new = (class : ℕ) × IsOfClass size class × (new.counts ≡ slice_set old.counts class (saturated (slice_index old.counts class + 1)))
