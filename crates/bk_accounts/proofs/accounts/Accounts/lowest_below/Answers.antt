use Rattle.std.proofs.Common.{refl}
use Rattle.bk_accounts.specs.Book.{total_at, remaining_at}
use Rattle.bk_accounts.proofs.Choices.{turn_below, turn_above}
use Rattle.bk_accounts.proofs.accounts.Accounts.lowest_below.Goals as goal
use Rattle.bk_accounts.proofs.accounts.Accounts.lowest_below.Goals.{then-is_below, else-is_below}

pub loop-log-preserved : goal.loop-log-preserved
loop-log-preserved c =
    let usage = c.usage-usage.ensures in
    elim c.if-is_below.branch [
      | then-is_below w ↦ turn_below (total_at c.args.self.now) (remaining_at c.args.self.now)
          c.args.threshold c.args.allowed.now c.loop-log.log-index c.usage-usage.result w.first_of.result c.loop-log.lowest c.if-is_below.lowest
          c.loop-log-test.true usage.log usage.total usage.remaining (w.if-is_below.ensures.0 refl) c.loop-log.invariant w.first_of.ensures w.lowest-is
      | else-is_below w ↦ turn_above (total_at c.args.self.now) (remaining_at c.args.self.now)
          c.args.threshold c.args.allowed.now c.loop-log.log-index c.usage-usage.result c.loop-log.lowest c.if-is_below.lowest
          c.loop-log-test.true usage.total usage.remaining w.if-is_below.ensures.1 c.loop-log.invariant w.lowest-is
    ]
