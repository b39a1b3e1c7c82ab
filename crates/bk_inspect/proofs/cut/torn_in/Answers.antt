use Rattle.std.proofs.Common.{Bool, IsTrue, ℕ, Option, Result, Ok, Err, sym, ap, ◌∙◌, subst}
use Rattle.std.proofs.lemmas.Result.{err_from_is_err_and}
use Rattle.bk_log.specs.declared.fault.ScanFault.{ScanFault}
use Rattle.bk_log.specs.declared.found.Found.{Found}
use Rattle.bk_log.specs.Scanning.{Scan, part_of, NextMoves, ScanNextTransition}
use Rattle.bk_log.proofs.Ranges.{whole_view}
use Rattle.bk_inspect.specs.Cutting.{ScanEnds}
use Rattle.bk_inspect.proofs.Cuts.{passing_ends, passing_fails}
use Rattle.bk_inspect.proofs.cut.torn_in.Goals as goal

pub returns-in_err-_found : goal.returns-in_err-_found
returns-in_err-_found g c = λ honest.
    let file = g.V.LogView.bytes c.args.view.now in
    let told = err_from_is_err_and c.from_residual.result c.from_residual.ensures.1 in
    subst (λ (r : Result ℕ ScanFault). ScanEnds file r) (sym (told.1 ∙ ap Err told.2))
    (passing_fails c.new-scanner.result c.loop-scanner.scanner c.next.new.self file c.in_err-_found.field-0.0 c.loop-scanner.invariant
    c.in_err-_found.ensures.moves c.in_err-_found.ensures.transition
    (subst (λ (b : Bool). IsTrue b) (sym (ap (λ (s : Scan). s.honest) c.new-scanner.ensures)) honest)
    (ap (λ (s : Scan). s.from) c.new-scanner.ensures)
    (ap part_of c.new-scanner.ensures ∙ whole_view file c.args.end (c.requires.whole honest)))

pub returns : goal.returns
returns g c = λ honest.
    let file = g.V.LogView.bytes c.args.view.now in
    let now = c.loop-scanner.scanner in
    let next = c.next.new.self in
    subst (λ (n : ℕ). ScanEnds file (Ok n)) (sym c.torn.ensures)
    (passing_ends c.new-scanner.result now next file c.loop-scanner.invariant
    (subst (λ (o : Option Found). NextMoves now (Ok o) next) c.in_default.is c.in_ok-_found.ensures.moves)
    (λ h. subst (λ (o : Option Found). ScanNextTransition now (Ok o) next) c.in_default.is (c.in_ok-_found.ensures.transition h))
    (subst (λ (b : Bool). IsTrue b) (sym (ap (λ (s : Scan). s.honest) c.new-scanner.ensures)) honest)
    (ap (λ (s : Scan). s.from) c.new-scanner.ensures)
    (ap part_of c.new-scanner.ensures ∙ whole_view file c.args.end (c.requires.whole honest)))
