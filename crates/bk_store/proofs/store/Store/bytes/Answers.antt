use Rattle.std.proofs.Common.{◌≡◌, IsTrue, ap, subst, ◌∙◌}
use Rattle.bk_store.specs.CompactionPrimitives.{log_bytes, live_log_bytes}
use Rattle.bk_store.specs.LogSums.{over_logs}
use Rattle.bk_store.specs.State.{State}
use Rattle.bk_store.proofs.Choosing.{total_same, remaining_same}
use Rattle.bk_store.proofs.store.Store.bytes.Goals as goal

pub returns-clause-total : goal.returns-clause-total
returns-clause-total g c =
    let p = c.self.inside.fields in
    subst (λ (s : State). IsTrue s.honest → c.bytes.result.total ≡ over_logs s.logs (log_bytes s)) c.self.view_is
    (λ honest. c.bytes.ensures.total ∙ ap (over_logs p.state.logs) (total_same p (c.self.invariant.promises honest)))

pub returns-clause-live : goal.returns-clause-live
returns-clause-live g c =
    let p = c.self.inside.fields in
    subst (λ (s : State). IsTrue s.honest → c.bytes.result.live ≡ over_logs s.logs (live_log_bytes s)) c.self.view_is
    (λ honest. c.bytes.ensures.live ∙ ap (over_logs p.state.logs) (remaining_same p (c.self.invariant.promises honest)))
