use Rattle.bk_flush.proofs.NamedEntries.{IsNaming}
use Rattle.bk_flush.proofs.publication.name_entries.Given as goal

abbrev pub invariant-loop-number : goal.invariant-loop-number
invariant-loop-number g l = IsNaming l.initial.store l.number l.store
