use Rattle.std.proofs.Common.{arith}
use Rattle.bk_recorded.proofs.Once.{recorded_once}
use Rattle.bk_recorded.proofs.recorder.LedgerRecorder.delete.Goals as goal

pub returns : goal.returns
returns g c =
    recorded_once _ _ c.args.ledger _ _ _ c.record_deletion-recorded.result _ (omega (arith, c.if-ledger-gt-LAST_ID.false)) c.record_deletion-recorded.ensures c.is_done.ensures.done c.is_done.ensures.same
