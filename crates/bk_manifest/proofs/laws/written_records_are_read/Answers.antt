use Rattle.std.proofs.Common.{length, arith}
use Rattle.bk_manifest.specs.Fact.{body_of}
use Rattle.bk_manifest.proofs.Records.{facts_again, facts_take}
use Rattle.bk_manifest.proofs.laws.written_records_are_read.Goals as goal

pub returns-clause-again : goal.returns-clause-again
returns-clause-again c = λ at records fits. facts_again records (length (body_of records)) at (omega arith) fits

pub returns-clause-taken : goal.returns-clause-taken
returns-clause-taken c = λ at bytes records fits is. facts_take (length bytes) at bytes records (omega arith) fits is
