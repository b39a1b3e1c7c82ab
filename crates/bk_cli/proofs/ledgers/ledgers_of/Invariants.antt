use Rattle.std.proofs.Common.{take}
use Rattle.bk_cli.proofs.CommandLines.{AreLedgers}
use Rattle.bk_cli.proofs.ledgers.ledgers_of.Given as goal

abbrev pub invariant-loop-text : goal.invariant-loop-text
invariant-loop-text l = AreLedgers (take l.text-index l.words) l.dead.items
