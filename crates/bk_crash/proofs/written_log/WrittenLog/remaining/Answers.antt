use Rattle.std.proofs.Common.{ℕ, Option, unwrap_or, arith, ap}
use Rattle.bk_crash.proofs.RemainingLogs.{remains}
use Rattle.bk_crash.proofs.written_log.WrittenLog.remaining.Goals as goal

pub returns : goal.returns
returns g c =
    let none : Option ℕ → ℕ = λ o. unwrap_or o 0 in
    remains c.args.self.now _ _ _ _ c.in_ok-bytes.ensures (omega arith) (omega arith)
    (omega (arith, ap (λ l. none l.synced) c.self.view_is)) c.in_ok-damage.ensures c.args.state (omega (arith, ap none c.durable_length-durable.ensures))
