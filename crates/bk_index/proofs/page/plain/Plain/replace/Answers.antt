use Rattle.std.proofs.Common.{sym}
use Rattle.bk_index.proofs.PagePairs.{find_held, put_held, is_sorted_put_page, first_put_held}
use Rattle.bk_index.proofs.page.plain.Plain.replace.Goals as goal

pub invariant_of-self : goal.invariant_of-self
invariant_of-self c =
    let here = rw (← c.self.view_is) at c.requires in
    rw (← put_held _ c.self.invariant c.args.key c.args.place c.index.result.now here c.index.ensures c.args.to)
    (is_sorted_put_page _ c.self.invariant c.args.key c.args.to)

pub returns-clause-replaced : goal.returns-clause-replaced
returns-clause-replaced c =
    let here = rw (← c.self.view_is) at c.requires in
    rw (← c.self.view_is) (sym (put_held _ c.self.invariant c.args.key c.args.place c.index.result.now here c.index.ensures c.args.to))

pub returns-clause-before : goal.returns-clause-before
returns-clause-before c =
    let here = rw (← c.self.view_is) at c.requires in
    rw (← c.self.view_is) (find_held _ c.self.invariant c.args.key c.args.place c.index.result.now here c.index.ensures)

pub returns-clause-first : goal.returns-clause-first
returns-clause-first c =
    let here = rw (← c.self.view_is) at c.requires in
    rw (← c.self.view_is) (first_put_held _ c.args.key c.args.place here c.args.to)
