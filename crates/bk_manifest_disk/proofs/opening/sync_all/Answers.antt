use Rattle.std.proofs.Common.{◌∙◌, sym, subst, get_or, List, ℕ}
use Rattle.std.proofs.lemmas.List.{take_all, take_more}
use Rattle.bk_record.specs.Files.{Files, file_of}
use Rattle.bk_disk.specs.Durable.{IsDurable}
use Rattle.bk_manifest_disk.specs.Opening.{AreSynced}
use Rattle.bk_manifest_disk.proofs.Grown.{syncs_equal}
use Rattle.bk_manifest_disk.proofs.Found.{synced_none, synced_more, gone_empty}
use Rattle.bk_manifest_disk.proofs.opening.sync_all.Goals as goal

pub loop-log-init : goal.loop-log-init
loop-log-init g c = record {
  honest = c.list.ensures.honest;
  same = λ h. (c.in_ok-logs.ensures.transition h).1;
  gone = λ h. c.in_ok-logs.ensures.back h;
  synced = λ h. synced_none _ _;
}

pub loop-log-preserved : goal.loop-log-preserved
loop-log-preserved g c = record {
  honest = c.sync.ensures.honest ∙ c.loop-log.invariant.honest;
  same = λ h. syncs_equal _ _ _ _ (c.sync.ensures.transition (c.loop-log.invariant.honest ∙ h)) ∙ c.loop-log.invariant.same h;
  gone = λ h. gone_empty _ _ _ _ (c.sync.ensures.durable (c.loop-log.invariant.honest ∙ h)) (c.loop-log.invariant.gone h);
  synced = λ h.
      let here = c.loop-log.invariant.honest ∙ h in
      let items = c.deref-log-items.result.now in
      let i = c.loop-log.log-index in
      subst (λ (logs : List ℕ). AreSynced (g.D.LogDisk.files c.args.disk.now) (g.D.LogDisk.synced c.sync.new.self) logs) (sym (take_more items i 0 c.loop-log-test.true))
      (synced_more _ _ _ _ _ _ _ (c.loop-log.invariant.synced h) (c.sync.ensures.durable here)
      (subst (λ (fs : Files). IsDurable (g.D.LogDisk.synced c.sync.new.self) (get_or items i 0) (file_of fs (get_or items i 0))) (c.loop-log.invariant.same h) (c.in_ok-sync.ensures.syncs here)));
}

pub returns-clause-synced : goal.returns-clause-synced
returns-clause-synced g c = λ h.
    let all = take_all c.loop-log.log-index c.deref-log-items.result.now c.loop-log-test.false ∙ c.deref-log-items.ensures.value ∙ (c.in_ok-logs.ensures.transition h).0 in
    subst (λ (logs : List ℕ). AreSynced (g.D.LogDisk.files c.args.disk.now) (g.D.LogDisk.synced c.loop-log.disk) logs) all (c.loop-log.invariant.synced h)
