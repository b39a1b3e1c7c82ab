use Rattle.std.proofs.Common.{◌≡◌, fold}
use Rattle.std.specs.Vec.Iter.{into_iter_items}
use Rattle.bk_manifest.specs.declared.subject.Subject.{Subject}
use Rattle.bk_manifest.specs.Fact.{facts}
use Rattle.bk_manifest.specs.State.{last_after, said, HaveMemory}
use Rattle.bk_manifest.proofs.state.State.settle.Given as goal

abbrev pub invariant-loop-one : goal.invariant-loop-one
invariant-loop-one l = record {
  left : (s : Subject) → fold (last_after s) (said l.self s) (facts (into_iter_items l.one-iterator)) ≡ fold (last_after s) (said l.fn.self s) (facts l.fn.records.items);
  room : HaveMemory l.self (facts (into_iter_items l.one-iterator));
}
