use Rattle.std.proofs.Common.{IsTrue, ℕ, ◌<◌, get_or}
use Rattle.bk_hint_disk.specs.declared.sample.Probe.{Probe}
use Rattle.bk_hint_disk.specs.Usable.{IsMet}
use Rattle.bk_hint_disk.proofs.sample.check_probes.Given as goal

abbrev pub invariant-loop-probe : goal.invariant-loop-probe
invariant-loop-probe g l =
    IsTrue (g.V.LogView.honest l.view) → (k : ℕ) (d : Probe) → k < l.probe-index → IsMet (g.V.LogView.bytes l.view) (get_or l.probes k d)
