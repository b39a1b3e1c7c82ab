use Rattle.bk_manifest.proofs.States.{pushed, all_pushed, standing_means}
use Rattle.bk_manifest.proofs.state.State.records.Goals as goal

pub loop-said-preserved : goal.loop-said-preserved
loop-said-preserved c = pushed _ _ _ _ _ _ _ c.in_ok-push_copy.ensures c.in-Some.ensures.steps c.loop-said.invariant

pub returns-clause-standing : goal.returns-clause-standing
returns-clause-standing c = all_pushed _ _ _ c.in-None.ensures.steps.0 c.loop-said.invariant

pub returns-clause-meaning : goal.returns-clause-meaning
returns-clause-meaning c = λ facts is. standing_means facts c.args.self.now is c.iter-said-items.ensures.ordered c.iter-said-items.ensures.found
