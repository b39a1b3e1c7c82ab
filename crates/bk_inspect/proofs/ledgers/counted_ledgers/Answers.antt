use Rattle.std.proofs.Common.{Option, Ok, subst}
use Rattle.bk_log.specs.declared.found.Found.{Found}
use Rattle.bk_log.specs.Scanning.{NextMoves}
use Rattle.bk_inspect.proofs.Sums.{sizes_none, sizes_more}
use Rattle.bk_inspect.proofs.ledgers.counted_ledgers.Goals as goal

pub loop-sizes-init : goal.loop-sizes-init
loop-sizes-init g c = sizes_none c.new-sizes.result c.new-sizes.ensures c.new-scanner.result.left

pub loop-sizes-preserved : goal.loop-sizes-preserved
loop-sizes-preserved g c =
    sizes_more c.loop-sizes.sizes.sizes c.count.new.self.sizes c.in-Some.found.size c.loop-sizes.scanner.left c.next.new.self.left c.new-scanner.result.left
    c.loop-sizes.invariant
    (subst (λ (o : Option Found). NextMoves c.loop-sizes.scanner (Ok o) c.next.new.self) c.in-Some.is c.in_ok-found.ensures.moves).1.fewer
    c.in-Ok.ensures.within
