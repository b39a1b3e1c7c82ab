use Rattle.bk_compact.proofs.Switched.{IsTaking}
use Rattle.bk_compact.proofs.switching.take_moves.Given as goal

abbrev pub invariant-loop : goal.invariant-loop
invariant-loop g l = IsTaking l.initial.store l.initial.job l.counter l.moved l.store l.job
