use Rattle.bk_store.specs.Logs.{view_of}
use Rattle.bk_compact.proofs.Stepping.{IsGoing}
use Rattle.bk_compact.proofs.entries.copy_entries.Given as goal

abbrev pub invariant-loop-number : goal.invariant-loop-number
invariant-loop-number g l =
    IsGoing (view_of g.D.View.LogView.bytes g.D.View.LogView.honest g.D.View.LogView.sound l.view) l.initial.store l.initial.job l.number
    l.scanner l.copied l.store l.job
