-- The reads that are left stand, if those at the start did.
use Rattle.std.specs.Prelude.{Bool}
use Rattle.bk_serve_dispatch.specs.Rounds.{Stands}
use Rattle.bk_serve_dispatch.specs.Session.{Point}
use Rattle.bk_serve_dispatch.proofs.session.take_rounds.Given as goal

abbrev pub invariant-loop : goal.invariant-loop
invariant-loop g l =
    (is_ahead : Bool) (start : Point g.row.S.Denot)
    → Stands is_ahead g.S.Service.answers g.S.Service.works g.S.Job.Job.gives start l.fn.first.run.items l.fn.first.at l.fn.service (g.R.Read.remaining l.fn.reader) l.fn.buffers.frame.items (g.W.Write.contents l.fn.writer)
    → Stands is_ahead g.S.Service.answers g.S.Service.works g.S.Job.Job.gives start l.left.run.items l.left.at l.service (g.R.Read.remaining l.reader) l.buffers.frame.items (g.W.Write.contents l.writer)
