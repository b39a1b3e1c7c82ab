use Rattle.bk_index.proofs.PagePairs.{find_held}
use Rattle.bk_index.proofs.page.plain.Plain.location.Goals as goal

pub returns-clause-value : goal.returns-clause-value
returns-clause-value c = λ key here.
    let at = rw (← c.self.view_is) at here in
    rw (← c.self.view_is) (find_held _ c.self.invariant key c.args.place c.index.result.now at c.index.ensures)
