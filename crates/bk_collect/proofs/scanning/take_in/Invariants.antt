use Rattle.bk_store.specs.Logs.{view_of}
use Rattle.bk_collect.proofs.Taking.{IsTaking}
use Rattle.bk_collect.proofs.scanning.take_in.Given as goal

abbrev pub invariant-loop-found : goal.invariant-loop-found
invariant-loop-found g l =
    IsTaking l.store.ledgers.dead l.log l.end (view_of g.D.View.LogView.bytes g.D.View.LogView.honest g.D.View.LogView.sound l.view) l.initial.index l.scanner l.index

abbrev pub decreases-loop-found : goal.decreases-loop-found
decreases-loop-found g l = l.scanner.left
