use Rattle.std.proofs.Common.{sym, ◌∙◌}
use Rattle.bk_record.proofs.Pieces.{some_key}
use Rattle.bk_base_tests.proofs.tests.log.writes.put.Goals as goal

pub put-requires-clause-keyed : goal.put-requires-clause-keyed
put-requires-clause-keyed g c = λ ls. some_key c.args.payload.now _ (sym c.expect.ensures ∙ c.key_of.ensures)
