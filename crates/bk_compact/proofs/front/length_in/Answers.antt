use Rattle.std.proofs.Common.{rules}
use Rattle.bk_record.specs.Record.{length_field}
use Rattle.bk_compact.proofs.front.length_in.Goals as goal

pub returns-clause-value : goal.returns-clause-value
unfolding length_field
returns-clause-value c = search rules
