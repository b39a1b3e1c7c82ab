-- Some reads were carried out.
use Rattle.bk_serve_dispatch.specs.Jobs.{CarryEach}
use Rattle.bk_serve_dispatch.proofs.threads.carry_part.Given as goal

abbrev pub invariant-loop-k : goal.invariant-loop-k
invariant-loop-k g l = CarryEach g.J.Job.gives l.fn.part l.part
