use Rattle.std.proofs.Common.{◌∙◌, ap, sym, subst, get_or, List, ℕ}
use Rattle.std.proofs.lemmas.List.{take_all, take_more}
use Rattle.std.specs.FinMap as map
use Rattle.bk_manifest_disk.specs.Opening.{HasFound}
use Rattle.bk_manifest_disk.proofs.Found.{found_none, found_more, gone_empty}
use Rattle.bk_manifest_disk.proofs.looking.find_logs.Goals as goal

pub loop-log-init : goal.loop-log-init
loop-log-init g c = record {
  honest = c.list.ensures.honest;
  same = λ h. (c.in_ok-logs.ensures.transition h).1;
  gone = λ h. c.in_ok-logs.ensures.back h;
  found = λ h. found_none _ _ _ c.new-found.ensures;
}

pub loop-log-preserved : goal.loop-log-preserved
loop-log-preserved g c = record {
  honest = c.length.ensures.honest ∙ c.loop-log.invariant.honest;
  same = λ h. (c.in_ok-length.ensures.transition (c.loop-log.invariant.honest ∙ h)).3 ∙ c.loop-log.invariant.same h;
  gone = λ h. gone_empty _ _ _ _ (c.length.ensures.durable (c.loop-log.invariant.honest ∙ h)) (c.loop-log.invariant.gone h);
  found = λ h.
      let turn = c.in_ok-length.ensures.transition (c.loop-log.invariant.honest ∙ h) in
      let items = c.deref-log-items.result.now in
      let i = c.loop-log.log-index in
      subst (λ (logs : List ℕ). HasFound c.args.state.now (g.D.LogDisk.files c.args.disk.now) logs c.add.new.self) (sym (take_more items i 0 c.loop-log-test.true))
      (found_more _ _ _ _ _ _ _ turn.0 (c.loop-log.invariant.found h) (ap (λ fs. map.get fs (get_or items i 0)) (sym (c.loop-log.invariant.same h)) ∙ turn.1) turn.2 c.in_ok-add.ensures);
}

pub returns-clause-found : goal.returns-clause-found
returns-clause-found g c = λ h.
    let all = take_all c.loop-log.log-index c.deref-log-items.result.now c.loop-log-test.false ∙ c.deref-log-items.ensures.value ∙ (c.in_ok-logs.ensures.transition h).0 in
    subst (λ (logs : List ℕ). HasFound c.args.state.now (g.D.LogDisk.files c.args.disk.now) logs c.loop-log.found) all (c.loop-log.invariant.found h)
