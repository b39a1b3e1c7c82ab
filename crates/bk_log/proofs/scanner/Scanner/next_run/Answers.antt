use Rattle.std.proofs.Common.{◌-◌, sym, subst, ap, ◌∙◌}
use Rattle.std.proofs.lemmas.Bool.{ltb-true}
use Rattle.bk_log.specs.FoundRuns.{AreEntriesOf, founds_of}
use Rattle.bk_log.specs.Fronts.{HasWholeFirst, IsWholeRun}
use Rattle.bk_log.specs.Scanning.{Scan}
use Rattle.bk_log.proofs.Kept.{going_on}
use Rattle.bk_log.proofs.RunPasses.{found_run, kept_run, run_passed}
use Rattle.bk_log.proofs.scanner.Scanner.next_run.Goals as goal

pub invariant_of-self : goal.invariant_of-self
invariant_of-self g c =
    let s = c.self.inside in
    let run = c.in_ok-run.run' in
    let going = going_on s.window _ _ _ _ _ _ _ _ c.self.view_is (sym c.if-not-is_going.ensures) in
    let whole : HasWholeFirst (s.end - s.window.at) run = rw c.at-at.ensures at c.in_ok-run.ensures.fits in
    let all : IsWholeRun (s.end - s.window.at) run c.in_ok-size.size = rw c.at-at.ensures at c.in_ok-size.ensures in
    rw (c.skip.ensures, c.from.ensures)
    (kept_run s.window _ _ _ _ _ _ _ _ _ run c.self.invariant (ltb-true _ _ (sym c.if-not-has_room.ensures)) going.0 going.1 c.in_ok-run.ensures.value whole all)

pub returns-clause-transition : goal.returns-clause-transition
returns-clause-transition g c = λ h.
    let s = c.self.inside in
    let run = c.in_ok-run.run' in
    let honest = ap (λ (v : Scan). v.honest) c.self.view_is ∙ h in
    let whole : HasWholeFirst (s.end - s.window.at) run = rw c.at-at.ensures at c.in_ok-run.ensures.fits in
    let all : IsWholeRun (s.end - s.window.at) run c.in_ok-size.size = rw c.at-at.ensures at c.in_ok-size.ensures in
    subst (λ (v : Scan). AreEntriesOf v v.given (founds_of (found_run c.at-at.result run))) c.self.view_is
    (rw c.at-at.ensures (run_passed s.window _ _ _ _ _ _ _ _ run c.self.invariant honest (c.in_ok-run.ensures.value honest) whole all).0)
