use Rattle.std.proofs.Common.{◌≡◌, ◌-◌, ◌≤◌}
use Rattle.bk_index.specs.Runs.{with_run}
use Rattle.bk_index.proofs.index.Index.insert_run.Given as goal

-- the first keys of the run are set
abbrev pub invariant-loop-done : goal.invariant-loop-done
invariant-loop-done l = record { within : l.done ≤ l.count; set : l.self ≡ with_run l.initial.self l.fn.first l.fn.place l.size l.done }

-- keys that are left
abbrev pub decreases-loop-done : goal.decreases-loop-done
decreases-loop-done l = l.count - l.done
