use Rattle.bk_inspect.proofs.LedgerLines.{map_shown}
use Rattle.bk_inspect.proofs.ledgers.show_view.Goals as goal

pub returns-in_ok-show_ledgers-in-Some : goal.returns-in_ok-show_ledgers-in-Some
returns-in_ok-show_ledgers-in-Some g c = λ honest.
    map_shown (g.V.LogView.bytes c.args.view.now) c.args.header.now _ _ _ _ c.in-Some.is c.in_ok-map.ensures.ordered
    (c.in_ok-map.ensures.ok honest) c.in_ok-show_ledgers-in-Some.ensures
