use Rattle.std.proofs.Common.{sym, ◌∙◌}
use Rattle.bk_load.proofs.Known.{known}
use Rattle.bk_load.proofs.checking.check.Goals as goal

pub returns-clause-known : goal.returns-clause-known
returns-clause-known g c = λ none.
    known c.args.first c.args.receipts.now c.args.store.now.index c.in-Ok.keys c.in-Ok.ensures
    (rw c.index-2.ensures at (sym c.unknown_entries-unknown.ensures ∙ none))
