-- Steps lead from the start to here.
use Rattle.bk_serve.specs.Works.{Extends}
use Rattle.bk_serve.proofs.flushing.write_all.Given as goal

abbrev pub invariant-loop : goal.invariant-loop
invariant-loop g l = Extends l.fn.tally l.fn.store l.tally l.store
