use Rattle.std.specs.FinMap as finite
use Rattle.bk_flush.proofs.NextLogs.{ArePast}
use Rattle.bk_flush.proofs.ShownLogs.{IsShowing}
use Rattle.bk_flush.proofs.publication.show_logs.Given as goal

abbrev pub invariant-loop-number : goal.invariant-loop-number
invariant-loop-number g l = IsShowing l.initial.store l.from l.store × ArePast (finite.entries l.initial.store.places) l.number l.from
