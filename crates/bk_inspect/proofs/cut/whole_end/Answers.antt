use Rattle.std.proofs.Common.{Err, subst}
use Rattle.bk_log.specs.declared.fault.ScanFault.{ScanFault}
use Rattle.bk_inspect.specs.Cutting.{ScanEnds}
use Rattle.bk_inspect.proofs.Cuts.{cut_bad, cut_torn}
use Rattle.bk_inspect.proofs.cut.whole_end.Goals as goal

pub returns-in-Ok : goal.returns-in-Ok
returns-in-Ok g c = λ honest long.
    cut_torn (g.V.LogView.bytes c.args.view.now) c.args.end c.in-Ok.torn c.saturating_sub.result long (c.requires.whole honest)
    (c.in-Ok.ensures honest) c.saturating_sub.ensures

pub returns-in-Err-BadLength : goal.returns-in-Err-BadLength
returns-in-Err-BadLength g c = λ honest long.
    cut_bad (g.V.LogView.bytes c.args.view.now) c.in-Err-BadLength.at _ long
    (subst (λ (f : ScanFault). ScanEnds (g.V.LogView.bytes c.args.view.now) (Err f)) c.in-Err-BadLength.field-0-is (c.in-Err-BadLength.ensures honest))
