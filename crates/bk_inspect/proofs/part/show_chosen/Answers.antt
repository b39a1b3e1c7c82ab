use Rattle.std.proofs.Common.{◌≡◌, Bool, IsTrue, Option, Ok, sym, ap, ◌∙◌, subst, arith}
use Rattle.std.specs.Io.KnownBytes.{Appends}
use Rattle.bk_inspect.specs.Forms.{followed}
use Rattle.bk_inspect.specs.Texts.{counts_line}
use Rattle.bk_disk.specs.Disk.{view_end}
use Rattle.bk_log.specs.declared.found.Found.{Found}
use Rattle.bk_log.specs.Scanning.{Scan, part_of, NextMoves, ScanNextTransition}
use Rattle.bk_log.proofs.Ranges.{whole_view}
use Rattle.bk_inspect.proofs.Parts.{part_taken, part_passed, part_all}
use Rattle.bk_inspect.proofs.part.show_chosen.Goals as goal

pub loop-scanner-preserved-then-is_chosen : goal.loop-scanner-preserved-then-is_chosen
loop-scanner-preserved-then-is_chosen g c =
    let now = c.loop-scanner.scanner in
    let next = c.next.new.self in
    part_taken c.args.choice c.new-scanner.result now next c.loop-scanner.entries _ _ _ c.in-Some.found c.loop-scanner.invariant
    (subst (λ (o : Option Found). NextMoves now (Ok o) next) c.in-Some.is c.in_ok-found.ensures.moves)
    (λ honest. subst (λ (o : Option Found). ScanNextTransition now (Ok o) next) c.in-Some.is (c.in_ok-found.ensures.transition honest))
    (sym c.is_chosen.ensures ∙ c.if-is_chosen.true)
    c.in_ok-write_entry.ensures

pub loop-scanner-preserved : goal.loop-scanner-preserved
loop-scanner-preserved g c =
    let now = c.loop-scanner.scanner in
    let next = c.next.new.self in
    part_passed c.args.choice c.new-scanner.result now next c.loop-scanner.entries _ _ c.in-Some.found c.loop-scanner.invariant
    (subst (λ (o : Option Found). NextMoves now (Ok o) next) c.in-Some.is c.in_ok-found.ensures.moves)
    (λ honest. subst (λ (o : Option Found). ScanNextTransition now (Ok o) next) c.in-Some.is (c.in_ok-found.ensures.transition honest))
    (sym c.is_chosen.ensures ∙ c.if-is_chosen.false)

pub returns : goal.returns
returns g c = λ honest.
    let now = c.loop-scanner.scanner in
    let next = c.next.new.self in
    let file = g.V.LogView.bytes c.args.view.now in
    let end_is : c.max-end.result ≡ view_end file = omega (arith, c.max-end.ensures, c.end.ensures honest) in
    let entries = c.loop-scanner.entries in
    let before = followed c.args.form (g.W.Write.contents c.loop-scanner.writer) in
    let after = followed c.args.form (g.W.Write.contents c.write_counts.new.writer) in
    part_all c.args.choice c.new-scanner.result now next entries file _ _ _ c.loop-scanner.invariant
    (subst (λ (o : Option Found). NextMoves now (Ok o) next) c.in_default.is c.in_ok-found.ensures.moves)
    (λ h. subst (λ (o : Option Found). ScanNextTransition now (Ok o) next) c.in_default.is (c.in_ok-found.ensures.transition h))
    (subst (λ n. Appends before after (counts_line entries n next.torn)) c.foreign.ensures
    (subst (λ n. Appends before after (counts_line entries c.foreign.result n)) c.torn.ensures
    c.in_ok-write_counts.ensures))
    (subst (λ (b : Bool). IsTrue b) (sym (ap (λ (s : Scan). s.honest) c.new-scanner.ensures)) honest)
    (ap (λ (s : Scan). s.from) c.new-scanner.ensures)
    (ap part_of c.new-scanner.ensures ∙ whole_view file c.max-end.result end_is)
