use Rattle.std.proofs.Common.{sym, ◌∙◌}
use Rattle.bk_lease.proofs.KeeperSteps.{closes}
use Rattle.bk_lease.proofs.CloseResults.{result_closed, result_leased, close_by}
use Rattle.bk_lease.proofs.counting.closed.Goals as goal

pub compare_exchange-found-requires : goal.compare_exchange-found-requires
compare_exchange-found-requires c = let is = c.requires.open in (
  c.requires.seated,
  c.requires.inside,
  closes _ _ _ _ _ is.1 c.args.log _ _ is.2 is.3 c.unleased-unleased.ensures c.closed.ensures,
)

pub returns-then-found-unleased-clause-met : goal.returns-then-found-unleased-clause-met
returns-then-found-unleased-clause-met c = (
  c.compare_exchange-found.result,
  close_by c.args.table.now.shared.table_id.slots c.args.slot c.args.log _ _ _ _ _ c.unleased-unleased.ensures c.closed.ensures c.compare_exchange-found.ensures.2,
  result_closed c.args.log c.compare_exchange-found.result (c.if-found-unleased.true ∙ c.unleased-unleased.ensures),
)

pub returns-else-found-unleased-clause-met : goal.returns-else-found-unleased-clause-met
returns-else-found-unleased-clause-met c = let asked = c.unleased-unleased.ensures in (
  c.compare_exchange-found.result,
  close_by c.args.table.now.shared.table_id.slots c.args.slot c.args.log _ _ _ _ _ asked c.closed.ensures c.compare_exchange-found.ensures.2,
  result_leased c.args.log c.compare_exchange-found.result c.count_of.result (λ hit. c.if-found-unleased.false (hit ∙ sym asked)) c.count_of.ensures,
)
