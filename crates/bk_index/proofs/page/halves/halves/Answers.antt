use Rattle.std.proofs.Common.{sym, arith}
use Rattle.std.proofs.lemmas.List.{take_rest, length-take-le}
use Rattle.bk_index.proofs.Halves.{lower_all, upper_all}
use Rattle.bk_index.proofs.page.halves.halves.Goals as goal

pub slice_bounds-copied-end-else-place-lt-LOWER : goal.slice_bounds-copied-end-else-place-lt-LOWER
slice_bounds-copied-end-else-place-lt-LOWER g c = sym (length-take-le 128 c.args.items.now (omega (arith, c.requires.full)))

-- the new item is in the lower half
pub returns-in_ok-upper-clause-all : goal.returns-in_ok-upper-clause-all
returns-in_ok-upper-clause-all g c =
    rw (c.in_ok-lower.ensures, c.in_ok-upper.ensures, take_rest c.args.items.now 127)
    (lower_all c.args.items.now c.args.place 127 c.args.item (omega (arith, c.if-place-lt-LOWER.true)))

-- the new item is in the upper half
pub returns-in_ok-upper-2-clause-all : goal.returns-in_ok-upper-2-clause-all
returns-in_ok-upper-2-clause-all g c =
    rw (c.in_ok-lower-2.ensures, c.in_ok-upper-2.ensures, take_rest c.args.items.now c.args.place)
    (upper_all c.args.items.now 128 c.args.place c.args.item (omega (arith, c.if-place-lt-LOWER.false)))

pub returns-in_ok-upper-2-clause-stay : goal.returns-in_ok-upper-2-clause-stay
returns-in_ok-upper-2-clause-stay g c = rw c.in_ok-lower-2.ensures (length-take-le 128 c.args.items.now (omega (arith, c.requires.full)))
