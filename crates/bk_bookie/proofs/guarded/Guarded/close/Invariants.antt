use Rattle.std.proofs.Common.{◌≡◌, ◌+◌, ◌≤◌, length, sum_by}
use Rattle.bk_bookie.proofs.guarded.Guarded.close.Given as goal

abbrev pub invariant-loop-pass : goal.invariant-loop-pass
invariant-loop-pass g l = record {
  can_next : (goal.iterator-loop-pass g).can_next l.pass-iterator;
  is_finite : (goal.iterator-loop-pass g).is_finite l.pass-iterator;
  sum : l.adds ≡ sum_by (λ p. p.adds) l.yielded;
  amount : l.rest.amount ≡ l.adds;
  parts : l.rest.parts ≡ l.initial.rest.parts + length l.yielded;
  within : l.rest.parts ≤ g.L.Ledger.parts;
  total : l.book.total ≡ l.initial.book.total;
}
