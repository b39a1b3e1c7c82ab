-- Steps of the service lead from the start to here.
use Rattle.bk_serve_dispatch.specs.Session.{Rests}
use Rattle.bk_serve_dispatch.proofs.session.rest.Given as goal

abbrev pub invariant-loop : goal.invariant-loop
invariant-loop g l = Rests g.S.Service.works l.fn.service l.service
