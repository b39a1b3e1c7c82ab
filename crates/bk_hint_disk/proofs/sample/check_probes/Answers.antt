use Rattle.bk_hint_disk.proofs.Sampling.{met_more}
use Rattle.bk_hint_disk.proofs.sample.check_probes.Goals as goal

pub loop-probe-preserved : goal.loop-probe-preserved
loop-probe-preserved g c = λ h.
    met_more (g.V.LogView.bytes c.args.view.now) c.args.probes.now c.loop-probe.probe-index c.probe-item.result (c.loop-probe.invariant h) c.probe-item.is c.loop-probe-test.true
    (c.in_ok-check_probe.ensures h)
