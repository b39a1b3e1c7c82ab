use Rattle.std.proofs.Common.{append_assoc, rules}
use Rattle.bk_hint.specs.Hint.{front_of}
use Rattle.bk_hint.proofs.writing.put_front.Goals as goal

pub returns-clause-ok : goal.returns-clause-ok
unfolding front_of
returns-clause-ok c = first_of (search (rules, append_assoc), grind append_assoc)
