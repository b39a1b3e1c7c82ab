use Rattle.std.proofs.Common.{◌≡◌, [], refl}
use Rattle.bk_index.proofs.Passing.{passes_first, passes_cells}
use Rattle.bk_index.proofs.page.part.Part.pass_log.Goals as goal

pub returns-in-Some-clause-some : goal.returns-in-Some-clause-some
returns-in-Some-clause-some c =
    let part = c.self.inside in
    rw (← c.self.view_is, c.split_at.ensures.back)
    (passes_cells part.ledger part.base part.cells.now part.pairs.now c.in-Some.log c.in-Some.count c.in-Some.ensures.some c.in-Some.ensures.within
    c.in-Some.ensures.same)

pub returns-clause-some : goal.returns-clause-some
returns-clause-some c =
    let part = c.self.inside in
    let none : part.cells.now ≡ [] = c.in_default.ensures.none refl in
    rw (← c.self.view_is, none, c.split_at-2.ensures.back)
    (passes_first part.pairs.now c.in_ok-log.log c.in_ok-log.count c.in_ok-log.ensures.some c.in_ok-log.ensures.within c.in_ok-log.ensures.same)
