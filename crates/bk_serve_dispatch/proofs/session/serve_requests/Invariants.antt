-- Exchanges lead from the start to here.
use Rattle.std.specs.Prelude.{nat_lt}
use Rattle.bk_serve_dispatch.specs.Session.{Exchanges, point}
use Rattle.bk_serve_dispatch.proofs.session.serve_requests.Given as goal

abbrev pub invariant-loop : goal.invariant-loop
invariant-loop g l =
    Exchanges (nat_lt 1 l.fn.readers.most) g.S.Service.answers g.S.Service.works
    (point l.fn.first l.fn.service (g.R.Read.remaining l.fn.reader) (g.W.Write.contents l.fn.writer))
    (point l.last l.service (g.R.Read.remaining l.reader) (g.W.Write.contents l.writer))
