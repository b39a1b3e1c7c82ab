use Rattle.bk_hint_disk.proofs.Collecting.{Collects}
use Rattle.bk_hint_disk.proofs.making.contents_of.Given as goal

abbrev pub invariant-loop-found : goal.invariant-loop-found
invariant-loop-found g l = Collects l.scanner (g.V.LogView.honest l.view) (g.V.LogView.bytes l.view) l.contents

abbrev pub decreases-loop-found : goal.decreases-loop-found
decreases-loop-found g l = l.scanner.left
