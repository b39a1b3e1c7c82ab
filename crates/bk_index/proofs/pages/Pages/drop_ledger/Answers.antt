use Rattle.std.proofs.Common.{arith}
use Rattle.bk_index.proofs.LedgerPages.{kept_none, kept_one, kept_many}
use Rattle.bk_index.proofs.pages.Pages.drop_ledger.Goals as goal

pub returns-then-from-to-clause-left : goal.returns-then-from-to-clause-left
returns-then-from-to-clause-left c = kept_none c.args.self.now c.args.ledger _ _ c.pages_of-from.ensures (omega arith)

pub returns-then-from-to-2-clause-left : goal.returns-then-from-to-2-clause-left
returns-then-from-to-2-clause-left c =
    kept_one c.args.self.now c.args.ledger _ _ c.pages_of-from.ensures (omega arith) c.thin.new.self c.thin.ensures.before c.thin.ensures.behind

pub returns-clause-left : goal.returns-clause-left
returns-clause-left c =
    kept_many c.args.self.now c.args.ledger _ _ c.pages_of-from.ensures (omega arith) c.thin-last.new.self c.cut-between.new.self c.thin-first.new.self
    c.thin-last.ensures.before c.thin-last.ensures.behind c.cut-between.ensures.left c.thin-first.ensures.before c.thin-first.ensures.behind
