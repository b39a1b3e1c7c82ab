-- What the replies that are left do, the replies from the start do.
use Rattle.std.specs.Vec.Iter.{into_iter_items}
use Rattle.bk_serve_dispatch.proofs.BegunRuns.{TellsSoFar}
use Rattle.bk_serve_dispatch.proofs.telling.tell_all.Given as goal

abbrev pub invariant-loop-one : goal.invariant-loop-one
invariant-loop-one g l =
    TellsSoFar g.J.Job.gives (g.W.Write.contents l.fn.writer) l.fn.run.items (g.W.Write.contents l.writer) (into_iter_items l.one-iterator) l.how
