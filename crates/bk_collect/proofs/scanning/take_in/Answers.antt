use Rattle.std.proofs.Common.{◌≡◌, IsTrue, Option, Some, None, Ok, Err, IfErr, sym, ap, subst, ◌∙◌}
use Rattle.std.proofs.lemmas.Result.{err_from_is_err_and}
use Rattle.bk_disk.specs.Disk.{AreLogFiles}
use Rattle.bk_log.specs.declared.found.Found.{Found}
use Rattle.bk_log.specs.Scanning.{NextMoves, ScanNextTransition}
use Rattle.bk_collect.specs.Collecting.{RebuildFails}
use Rattle.bk_collect.proofs.Taking.{taking_on, taken_in}
use Rattle.bk_collect.proofs.Views.{entry_refused, scan_refused}
use Rattle.bk_collect.proofs.scanning.take_in.Goals as goal

pub loop-found-preserved : goal.loop-found-preserved
loop-found-preserved g c =
    let is : c.in-Ok-Some.field-0 ≡ Some c.in-Ok-Some.found = c.in-Ok-Some.field-0-is in
    let moves = subst (λ (o : Option Found). NextMoves c.loop-found.scanner (Ok o) c.next.new.self) is c.in-Ok-Some.ensures.moves in
    let turn = subst (λ (o : Option Found). IsTrue c.loop-found.scanner.honest → ScanNextTransition c.loop-found.scanner (Ok o) c.next.new.self) is
    c.in-Ok-Some.ensures.transition in
    taking_on c.loop-found.invariant c.in-Ok-Some.found c.next.new.self moves turn c.end-end.ensures c.name.new.index c.in_ok-name-in-Ok-Some.ensures.ok

pub returns-in_err-name-in-Ok-Some-clause-fails : goal.returns-in_err-name-in-Ok-Some-clause-fails
returns-in_err-name-in-Ok-Some-clause-fails g c =
    let is : c.in-Ok-Some.field-0 ≡ Some c.in-Ok-Some.found = c.in-Ok-Some.field-0-is in
    let moves = subst (λ (o : Option Found). NextMoves c.loop-found.scanner (Ok o) c.next.new.self) is c.in-Ok-Some.ensures.moves in
    let turn = subst (λ (o : Option Found). IsTrue c.loop-found.scanner.honest → ScanNextTransition c.loop-found.scanner (Ok o) c.next.new.self) is
    c.in-Ok-Some.ensures.transition in
    let told = err_from_is_err_and c.from_residual.result c.from_residual.ensures.1 in
    subst (λ r. IfErr r (RebuildFails c.args.store.now)) (sym (told.1 ∙ ap Err told.2))
    (entry_refused c.args.store.now c.reveal_invariant.ensures c.args.log _ c.requires.shown c.loop-found.invariant c.end-end.ensures c.in-Ok-Some.found c.next.new.self
    moves turn (λ honest. subst AreLogFiles c.disk.ensures.files (c.bounds.ensures (c.disk.ensures.honest ∙ honest))) _ c.in_err-name-in-Ok-Some.ensures.fails)

pub returns-in-Ok-None-clause-ok : goal.returns-in-Ok-None-clause-ok
returns-in-Ok-None-clause-ok g c =
    let is : c.in-Ok-None.field-0 ≡ None = c.in-Ok-None.field-0-is in
    let moves = subst (λ (o : Option Found). NextMoves c.loop-found.scanner (Ok o) c.next.new.self) is c.in-Ok-None.ensures.moves in
    let turn = subst (λ (o : Option Found). IsTrue c.loop-found.scanner.honest → ScanNextTransition c.loop-found.scanner (Ok o) c.next.new.self) is
    c.in-Ok-None.ensures.transition in
    taken_in c.loop-found.invariant c.next.new.self moves turn c.end-end.ensures

pub returns-in-Err-clause-fails : goal.returns-in-Err-clause-fails
returns-in-Err-clause-fails g c =
    subst (RebuildFails c.args.store.now) (sym c.scan_fault.ensures)
    (scan_refused c.args.store.now c.reveal_invariant.ensures c.args.log _ c.requires.shown c.loop-found.invariant c.end-end.ensures c.in-Err.fault c.next.new.self
    c.in-Err.ensures.moves c.in-Err.ensures.transition (λ disk. c.in-Err.ensures.cause (ap Err disk)))
