use Rattle.std.proofs.Common.{ℕ, List, ◌++◌}
use Rattle.bk_record.specs.Location.{Place}
use Rattle.bk_inspect.proofs.Walks.{Took}
use Rattle.bk_inspect.proofs.walk.take_in_view.Given as goal

abbrev pub invariant-loop-scanner : goal.invariant-loop-scanner
invariant-loop-scanner g l = Took l.initial.scanner l.scanner l.log (λ more. (first : g.row.T.Denot) (taken : List (Place × List ℕ))
    → g.T.TakesEntries.has first l.fn.taking taken → g.T.TakesEntries.has first l.taking (taken ++ more))

abbrev pub decreases-loop-scanner : goal.decreases-loop-scanner
decreases-loop-scanner g l = l.scanner.left
