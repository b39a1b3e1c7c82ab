use Rattle.std.proofs.Common.{[], ◌∷◌, ◌++◌}
use Rattle.std.proofs.lemmas.List.Elements.{All-nil}
use Rattle.bk_drive.specs.Recorded.{IsFenced}
use Rattle.bk_drive.proofs.Driving.{performs_none}
use Rattle.bk_drive.proofs.Recording.{fenced_on, fences_on}
use Rattle.bk_drive.proofs.recorded.fence_all.Goals as goal

pub loop-ledger-init : goal.loop-ledger-init
loop-ledger-init g c = ([], All-nil IsFenced, performs_none _ _ _ c.requires)

pub loop-ledger-preserved : goal.loop-ledger-preserved
loop-ledger-preserved g c =
    let before = c.loop-ledger.invariant in
    let done = c.turn-answer.ensures in (
      before.0 ++ c.turn-answer.result ∷ [],
      fenced_on before.0 c.turn-answer.result before.1 (c.is_fenced.ensures.0 c.if-not-is_fenced.false),
      fences_on _ _ _ _ _ _ _ _ _ c.args.fenced.now c.loop-ledger.ledger-index c.loop-ledger-test.true before.2 (record {
        honest = done.honest;
        settings = done.settings;
        later = done.later;
        disk = done.disk;
        leases = done.leases;
        closes = done.closes;
        closed = done.closed;
        transition = done.transition;
        plain = done.plain;
      }),
    )
