-- If the jobs that are left are carried out, all are.
use Rattle.std.specs.Vec.Iter.{into_iter_items}
use Rattle.bk_serve_dispatch.specs.Jobs.{AreRun}
use Rattle.bk_serve_dispatch.proofs.telling.drop_all.Given as goal

abbrev pub invariant-loop-one : goal.invariant-loop-one
invariant-loop-one g l = AreRun g.J.Job.gives (into_iter_items l.one-iterator) → AreRun g.J.Job.gives l.fn.run.items
