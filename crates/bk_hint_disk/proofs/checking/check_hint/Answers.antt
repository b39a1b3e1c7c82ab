use Rattle.std.proofs.Common.{◌∙◌, List, subst}
use Rattle.std.specs.List.{All}
use Rattle.bk_hint_disk.specs.declared.sample.Probe.{Probe}
use Rattle.bk_hint_disk.specs.Usable.{IsMet}
use Rattle.bk_hint_disk.proofs.Sealing.{usable}
use Rattle.bk_hint_disk.proofs.checking.check_hint.Goals as goal

pub returns-clause-usable : goal.returns-clause-usable
returns-clause-usable g c = λ h.
    let file = g.V.LogView.bytes c.args.view.now in
    let front = c.in_ok-front.front in
    let met = subst (λ (probes : List Probe). All (IsMet file) probes) c.deref-2.ensures.value (c.in_ok-check_probes.ensures h) in
    usable c.args.header.now file c.args.hint.now c.deref.result.now c.end.result c.args.log front.facts front.contents front.seal.at (c.end.ensures h)
    c.in_ok-front.ensures.front (c.deref.ensures.value ∙ c.in-Ok.ensures h) c.in_ok-check_map.ensures (c.in_ok-front.ensures.probes file met)
