use Rattle.bk_head.specs.Ledgers.{map_of}
use Rattle.bk_head.proofs.Writable.{IsSmall}
use Rattle.bk_base_tests.proofs.tests.head.writing.map_of_ledgers.Given as goal

abbrev pub invariant-loop-number : goal.invariant-loop-number
invariant-loop-number l = IsSmall (map_of l.map) l.number
