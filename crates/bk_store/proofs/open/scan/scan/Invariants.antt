use Rattle.std.proofs.Common.{◌≡◌}
use Rattle.bk_store.proofs.OpenedScan.{IsScanning}
use Rattle.bk_store.proofs.open.scan.scan.Given as goal

abbrev pub invariant-loop-run : goal.invariant-loop-run
invariant-loop-run g l =
    IsScanning l.log l.end (g.V.LogView.honest l.view) (g.V.LogView.bytes l.view) l.initial.tally l.scanner l.tally
    × (l.scanner.sound ≡ g.V.LogView.sound l.view)

abbrev pub decreases-loop-run : goal.decreases-loop-run
decreases-loop-run g l = l.scanner.left
