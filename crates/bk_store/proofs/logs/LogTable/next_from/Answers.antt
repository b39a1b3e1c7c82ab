use Rattle.std.proofs.Common.{sym, subst}
use Rattle.bk_store.specs.Logs.{IsNextHeld}
use Rattle.bk_store.proofs.HeldIds.{none_from, first_from, here_first}
use Rattle.bk_store.proofs.logs.LogTable.next_from.Goals as goal

pub returns-then-contains_key : goal.returns-then-contains_key
returns-then-contains_key g c =
    here_first c.self.inside.logs c.args.self.now c.self.view_is c.args.id (sym c.if-contains_key.ensures)

pub returns-in_err-next : goal.returns-in_err-next
returns-in_err-next g c =
    subst (IsNextHeld c.args.self.now c.args.id) (sym c.from_residual.ensures)
    (none_from c.self.inside.logs c.args.self.now c.self.view_is c.args.id _ c.in_err-next.ensures.steps.0 (c.range.ensures.in_range tt))

pub returns : goal.returns
returns g c = first_from c.self.inside.logs c.args.self.now c.self.view_is c.args.id _ _ _ c.in_ok-next.ensures.steps (c.range.ensures.in_range tt)
