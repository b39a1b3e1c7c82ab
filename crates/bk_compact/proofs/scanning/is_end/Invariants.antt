use Rattle.std.proofs.Common.{◌≡◌, ◌-◌, ◌≤◌, IsTrue}
use Rattle.bk_store.specs.JobInvariant.{IsReadTo, entries_from}
use Rattle.bk_compact.proofs.scanning.is_end.Given as goal

-- only foreign records are between
abbrev pub invariant-loop-at : goal.invariant-loop-at
invariant-loop-at g l = record {
  later : l.from ≤ l.at;
  comes : IsTrue (g.V.LogView.honest l.view) → IsReadTo (g.V.LogView.bytes l.view) l.from
      → IsReadTo (g.V.LogView.bytes l.view) l.at × (entries_from (g.V.LogView.bytes l.view) l.at ≡ entries_from (g.V.LogView.bytes l.view) l.from);
}

abbrev pub decreases-loop-at : goal.decreases-loop-at
decreases-loop-at g l = l.end - l.at
