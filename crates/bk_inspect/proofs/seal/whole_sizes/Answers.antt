use Rattle.std.proofs.Common.{◌<◌, ◌^◌, Bool, IsTrue, ℕ, Option, Ok, sym, ap, ◌∙◌, subst, arith}
use Rattle.bk_log.specs.declared.found.Found.{Found}
use Rattle.bk_log.specs.Scanning.{Scan, part_of, NextMoves, ScanNextTransition}
use Rattle.bk_log.specs.Sizes.{Sizes, Tally}
use Rattle.bk_log.proofs.Ranges.{whole_view}
use Rattle.bk_inspect.specs.Sealing.{AreSizesOf}
use Rattle.bk_inspect.proofs.Seals.{counting_first, counting_next, counting_last}
use Rattle.bk_inspect.proofs.seal.whole_sizes.Goals as goal

pub loop-sizes-init : goal.loop-sizes-init
loop-sizes-init g c = counting_first c.new-scanner.result _ _ _ c.args.end c.new-sizes.result c.new-scanner.ensures c.new-sizes.ensures

pub loop-sizes-preserved : goal.loop-sizes-preserved
loop-sizes-preserved g c =
    let now = c.loop-sizes.scanner in
    let next = c.next.new.self in
    counting_next c.new-scanner.result now next c.in-Some.found c.loop-sizes.sizes.sizes c.count.new.self.sizes c.loop-sizes.invariant
    (subst (λ (o : Option Found). NextMoves now (Ok o) next) c.in-Some.is c.in_ok-found.ensures.moves)
    (λ honest. subst (λ (o : Option Found). ScanNextTransition now (Ok o) next) c.in-Some.is (c.in_ok-found.ensures.transition honest))
    (subst (λ (n : ℕ). n < 2 ^ 63) c.ledger-ledger.ensures.value c.ledger-ledger.ensures.bound)
    (ap (λ (t : Tally). t.sizes) c.in-Ok.ensures.ok) c.in-Ok.ensures.next

pub returns-in-Ok-into_map-clause-ok : goal.returns-in-Ok-into_map-clause-ok
returns-in-Ok-into_map-clause-ok g c = λ honest.
    let now = c.loop-sizes.scanner in
    let next = c.next.new.self in
    let file = g.V.LogView.bytes c.args.view.now in
    subst (λ (s : Sizes). AreSizesOf file s) (sym c.in-Ok-into_map.ensures)
    (counting_last c.new-scanner.result now next file c.loop-sizes.sizes.sizes c.loop-sizes.invariant
    (subst (λ (o : Option Found). NextMoves now (Ok o) next) c.in_default.is c.in_ok-found.ensures.moves)
    (λ h. subst (λ (o : Option Found). ScanNextTransition now (Ok o) next) c.in_default.is (c.in_ok-found.ensures.transition h))
    (omega (arith, c.if-bytes-gt0.false, c.torn-bytes.ensures))
    (subst (λ (b : Bool). IsTrue b) (sym (ap (λ (s : Scan). s.honest) c.new-scanner.ensures)) honest)
    (ap (λ (s : Scan). s.from) c.new-scanner.ensures)
    (ap part_of c.new-scanner.ensures ∙ whole_view file c.args.end (c.requires.whole honest)))
