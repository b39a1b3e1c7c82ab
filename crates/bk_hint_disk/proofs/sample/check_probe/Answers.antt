use Rattle.bk_hint_disk.proofs.Sampling.{compared}
use Rattle.bk_hint_disk.proofs.sample.check_probe.Goals as goal

pub returns : goal.returns
returns g c = λ h.
    compared (g.V.LogView.bytes c.args.view.now) c.read_into-read.new.out c.args.probe.now c.read_into-read.result c.compare.result (c.read_into-read.ensures.transition h)
    c.compare.ensures.read c.compare.ensures.head
