use Rattle.bk_deleted.specs.Deleting.{Gains}
use Rattle.bk_deleted.proofs.lines.read_file.Given as goal

abbrev pub invariant-loop-index : goal.invariant-loop-index
invariant-loop-index l = Gains l.initial.ledgers.items l.ledgers.items
