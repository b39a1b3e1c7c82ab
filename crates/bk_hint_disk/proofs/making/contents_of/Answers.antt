use Rattle.std.proofs.Common.{◌∙◌, Option, Ok, ap, subst}
use Rattle.bk_log.specs.declared.found.Found.{Found}
use Rattle.bk_log.specs.Scanning.{Scan, NextMoves, ScanNextTransition}
use Rattle.bk_hint_disk.proofs.Collecting.{collects_none, collects_more}
use Rattle.bk_hint_disk.proofs.making.contents_of.Goals as goal

pub loop-found-init : goal.loop-found-init
loop-found-init g c =
    collects_none _ _ _ _ (ap (λ (s : Scan). s.file) c.new-scanner.ensures) (ap (λ (s : Scan). s.honest) c.new-scanner.ensures) c.new-contents.ensures

pub returns-in-Ok-None : goal.returns-in-Ok-None
returns-in-Ok-None g c = c.loop-found.invariant.records

pub loop-found-preserved : goal.loop-found-preserved
loop-found-preserved g c =
    let scan = c.loop-found.scanner in
    let now = c.next.new.self in
    let moves = subst (λ (o : Option Found). NextMoves scan (Ok o) now) c.in-Ok-Some.field-0-is c.in-Ok-Some.ensures.moves in
    collects_more scan now _ _ _ _ _ now.foreign c.loop-found.invariant c.bounds.ensures (ap (λ (s : Scan). s.file) moves.2) (ap (λ (s : Scan). s.honest) moves.2)
    (λ h. subst (λ (o : Option Found). ScanNextTransition scan (Ok o) now) c.in-Ok-Some.field-0-is (c.in-Ok-Some.ensures.transition (c.loop-found.invariant.honest_is ∙ h)))
    c.in-Ok.ensures.ok
