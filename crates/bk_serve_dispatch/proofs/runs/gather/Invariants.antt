-- Reads were begun and adds answered from the start to here.
use Rattle.std.proofs.Common.{true, ◌++◌, List}
use Rattle.bk_serve_dispatch.specs.declared.begun.Begun.{Begun}
use Rattle.bk_serve_dispatch.specs.Rounds.{Goes}
use Rattle.bk_serve_dispatch.specs.Session.{Point}
use Rattle.bk_serve_dispatch.proofs.runs.gather.Given as goal

abbrev pub invariant-loop-k : goal.invariant-loop-k
invariant-loop-k g l =
    (start : Point g.row.S.Denot) (before : List (Begun g.row.S-Job.Denot))
    → Goes true g.S.Service.answers g.S.Service.works g.S.Job.Job.gives start (before ++ l.fn.run.items) l.fn.last l.fn.service (g.R.Read.remaining l.fn.reader) (g.W.Write.contents l.fn.writer)
    → Goes true g.S.Service.answers g.S.Service.works g.S.Job.Job.gives start (before ++ l.run.items) l.at l.service (g.R.Read.remaining l.reader) (g.W.Write.contents l.writer)
