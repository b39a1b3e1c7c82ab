use Rattle.std.proofs.Common.{◌≡◌, fold}
use Rattle.std.specs.Prelude.{None}
use Rattle.std.specs.Vec.Iter.{into_iter_items}
use Rattle.bk_manifest.specs.declared.subject.Subject.{Subject}
use Rattle.bk_manifest.specs.Fact.{facts}
use Rattle.bk_manifest.specs.State.{last_after, said}
use Rattle.bk_manifest.proofs.state.State.of.Given as goal

abbrev pub invariant-loop-one : goal.invariant-loop-one
invariant-loop-one l =
    (s : Subject) → fold (last_after s) (said l.state s) (facts (into_iter_items l.one-iterator)) ≡ fold (last_after s) None (facts l.fn.records.items)
