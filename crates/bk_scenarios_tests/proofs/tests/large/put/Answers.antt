use Rattle.std.proofs.Common.{sym, ◌∙◌}
use Rattle.bk_record.proofs.Pieces.{some_key}
use Rattle.bk_scenarios_tests.proofs.tests.large.put.Goals as goal

pub put-requires-clause-keyed : goal.put-requires-clause-keyed
put-requires-clause-keyed g c κs = some_key _ _ (sym c.expect.ensures ∙ c.key_of.ensures)
