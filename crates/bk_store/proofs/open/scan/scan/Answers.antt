use Rattle.std.proofs.Common.{◌≡◌, IsTrue, Option, Some, None, Ok, sym, ap, subst, ◌∙◌}
use Rattle.bk_log.specs.declared.found.Found.{Found}
use Rattle.bk_log.specs.Scanning.{Scan, NextMoves, ScanNextTransition}
use Rattle.bk_store.specs.Opening.{FileFails}
use Rattle.bk_store.proofs.OpenedScan.{IsScanning, scanning_on, scanning_run, scanned, scan_refused}
use Rattle.bk_store.proofs.open.scan.scan.Goals as goal

pub loop-run-preserved-in-Some : goal.loop-run-preserved-in-Some
loop-run-preserved-in-Some g c = (
  scanning_run _ _ _ _ _ _ _ c.loop-run.invariant.0 c.in-Some.run' c.next_run.new.self c.in-Some.ensures.moves c.add_run.new.self
      c.in-Some.ensures.transition c.requires.whole c.in_ok-add_run.ensures.ok,
  ap (λ (x : Scan). x.sound) c.in-Some.ensures.moves.scan_is ∙ c.loop-run.invariant.1,
)

pub loop-run-preserved : goal.loop-run-preserved
loop-run-preserved g c =
    let same = c.in_default.ensures.none in
    let so_far = subst (λ (s : Scan). IsScanning c.args.log c.args.end (g.V.LogView.honest c.args.view.now) (g.V.LogView.bytes c.args.view.now) c.args.tally.now
    s c.loop-run.tally) (sym same) c.loop-run.invariant.0 in
    let is : c.in-Ok-Some.field-0 ≡ Some c.in-Ok-Some.found = c.in-Ok-Some.field-0-is in
    let moves = subst (λ (o : Option Found). NextMoves c.next_run.new.self (Ok o) c.next.new.self) is c.in-Ok-Some.ensures.moves in
    let turn = subst (λ (o : Option Found). IsTrue c.next_run.new.self.honest → ScanNextTransition c.next_run.new.self (Ok o) c.next.new.self) is
    c.in-Ok-Some.ensures.transition in (
      scanning_on _ _ _ _ _ _ _ so_far c.in-Ok-Some.found c.next.new.self moves c.add.new.self turn c.requires.whole
          c.in_ok-add-in-Ok-Some.ensures.ok,
      ap (λ (x : Scan). x.sound) moves.2 ∙ ap (λ (x : Scan). x.sound) same ∙ c.loop-run.invariant.1,
    )

pub returns-in-Ok-None-clause-ok : goal.returns-in-Ok-None-clause-ok
returns-in-Ok-None-clause-ok g c =
    let so_far = subst (λ (s : Scan). IsScanning c.args.log c.args.end (g.V.LogView.honest c.args.view.now) (g.V.LogView.bytes c.args.view.now) c.args.tally.now
    s c.loop-run.tally) (sym c.in_default.ensures.none) c.loop-run.invariant.0 in
    let is : c.in-Ok-None.field-0 ≡ None = c.in-Ok-None.field-0-is in
    let moves = subst (λ (o : Option Found). NextMoves c.next_run.new.self (Ok o) c.next.new.self) is c.in-Ok-None.ensures.moves in
    let turn = subst (λ (o : Option Found). IsTrue c.next_run.new.self.honest → ScanNextTransition c.next_run.new.self (Ok o) c.next.new.self) is
    c.in-Ok-None.ensures.transition in
    scanned _ _ _ _ _ _ _ so_far c.next.new.self moves turn c.requires.whole

pub returns-in-Err-clause-err : goal.returns-in-Err-clause-err
returns-in-Err-clause-err g c = λ honest headed.
    let so_far = subst (λ (s : Scan). IsScanning c.args.log c.args.end (g.V.LogView.honest c.args.view.now) (g.V.LogView.bytes c.args.view.now) c.args.tally.now
    s c.loop-run.tally) (sym c.in_default.ensures.none) c.loop-run.invariant.0 in
    subst (FileFails c.args.log (g.V.LogView.bytes c.args.view.now)) (sym c.scan_fault.ensures)
    (scan_refused _ _ _ _ _ _ _ so_far c.in-Err.fault c.next.new.self c.in-Err.ensures.moves c.in-Err.ensures.transition
    c.requires.whole c.requires.short honest headed)
