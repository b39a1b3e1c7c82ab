use Rattle.std.proofs.Common.{take}
use Rattle.std.specs.List.{flat_map}
use Rattle.std.specs.Io.KnownBytes.{Appends}
use Rattle.bk_report.specs.Html.{entity_of}
use Rattle.bk_report.proofs.escape.write_text.Given as goal

abbrev pub invariant-loop-byte : goal.invariant-loop-byte
invariant-loop-byte g l = Appends (g.W.Write.contents l.fn.out) (g.W.Write.contents l.out) (flat_map entity_of (take l.byte-index l.byte-items))
