use Rattle.std.proofs.Common.{◌≡◌, ℕ, List, [], get_or, subst, sym, ◌∙◌, IsSome}
use Rattle.std.specs.FinMap as map
use Rattle.bk_record.specs.Files.{Files}
use Rattle.bk_inspect.specs.Unsealed.{ArePicked, HasOpenHead}
use Rattle.bk_inspect.specs.Unsealed.ArePicked.{none}
use Rattle.bk_inspect.proofs.Listed.{listed_is_there}
use Rattle.bk_inspect.proofs.Picked.{picked_more}
use Rattle.bk_inspect.proofs.Reading.{honest_still, read_then}
use Rattle.bk_inspect.proofs.unsealed.unsealed_logs.Goals as goal

pub loop-log-init : goal.loop-log-init
loop-log-init g c = (
  c.list_logs.ensures.reads,
  λ honest.
      subst (λ (picked : List ℕ). ArePicked (HasOpenHead (g.D.LogDisk.files c.args.disk.now)) [] picked) (sym c.new-picked.ensures.items) none,
)

pub loop-log-preserved : goal.loop-log-preserved
loop-log-preserved g c =
    let first = c.loop-log.invariant in
    let logs = c.as_slice-log-items.result.now in
    let log = get_or logs c.loop-log.log-index 0 in (
      read_then _ _ _ _ _ _ first.0 c.is_unsealed.ensures.reads,
      λ honest.
          picked_more (HasOpenHead (g.D.LogDisk.files c.args.disk.now)) logs _ _ c.loop-log.log-index c.in_ok-is_picked.is_picked c.loop-log-test.true (first.1 honest)
          (subst (λ (fs : Files). HasOpenHead fs log c.in_ok-is_picked.is_picked) (first.0.1 honest)
          (c.in_ok-is_picked.ensures.ok (honest_still _ _ _ _ first.0 honest)
          (subst (λ (fs : Files). IsSome (map.get fs log)) (sym (first.0.1 honest))
          (listed_is_there (g.D.LogDisk.files c.args.disk.now) logs c.loop-log.log-index (c.as_slice-log-items.ensures.value ∙ c.in_ok-ids.ensures.ok honest) c.loop-log-test.true))))
          c.in_ok-pick.ensures,
    )
