use Rattle.std.proofs.Common.{◌+◌, length, sym, ap, ◌∙◌, arith}
use mathlib.Core.Bool.{false≢true}
use Rattle.bk_index.proofs.CountedPages.{get_seen, insert_seen, counted_put, length_new, length_held}
use Rattle.bk_index.proofs.index.Index.insert_near.Goals as goal

-- the allocation failed, so the key is new
pub returns-in_err-before-clause-held : goal.returns-in_err-before-clause-held
returns-in_err-before-clause-held c held =
    absurd (false≢true (c.in_err-before.ensures.held (rw (get_seen c.self.inside.pages c.self.invariant.sorted c.args.self.now c.self.view_is c.args.key)
    held)))

-- the index had the key
pub invariant_of-self-in-Some : goal.invariant_of-self-in-Some
invariant_of-self-in-Some c =
    let pages = c.self.inside.pages in
    let found = sym c.in_ok-before.ensures.before ∙ c.in-Some.is in
    let many = ap length c.in_ok-before.ensures.ok ∙ length_held pages c.self.invariant.sorted c.args.key c.args.location c.in-Some.before found in
    counted_put pages c.self.invariant.sorted c.args.key c.args.location c.insert.new.self c.self.inside.len c.in_ok-before.ensures.ok
    (c.self.invariant.counted ∙ sym many)

pub returns-in-Some-clause-ok : goal.returns-in-Some-clause-ok
returns-in-Some-clause-ok c = insert_seen c.self.inside.pages c.self.invariant.sorted c.args.self.now c.self.view_is c.args.key c.args.location
    c.insert.new.self c.in_ok-before.ensures.ok

pub returns-in-Some-clause-before : goal.returns-in-Some-clause-before
returns-in-Some-clause-before c = sym c.in-Some.is ∙ c.in_ok-before.ensures.before
    ∙ get_seen c.self.inside.pages c.self.invariant.sorted c.args.self.now c.self.view_is c.args.key

-- the key is new
pub overflow_add-self : goal.overflow_add-self
overflow_add-self c =
    let found = sym c.in_ok-before.ensures.before ∙ c.in-None.is in
    let many = ap length c.in_ok-before.ensures.ok ∙ length_new c.self.inside.pages c.self.invariant.sorted c.args.key c.args.location found in
    omega (arith, many, c.self.invariant.counted, c.in_ok-before.ensures.bound)

pub invariant_of-self-in-None : goal.invariant_of-self-in-None
invariant_of-self-in-None c =
    let pages = c.self.inside.pages in
    let found = sym c.in_ok-before.ensures.before ∙ c.in-None.is in
    let many = ap length c.in_ok-before.ensures.ok ∙ length_new pages c.self.invariant.sorted c.args.key c.args.location found in
    counted_put pages c.self.invariant.sorted c.args.key c.args.location c.insert.new.self (c.self.inside.len + 1) c.in_ok-before.ensures.ok
    (omega (arith, many, c.self.invariant.counted))

pub returns-in-None-clause-ok : goal.returns-in-None-clause-ok
returns-in-None-clause-ok c = insert_seen c.self.inside.pages c.self.invariant.sorted c.args.self.now c.self.view_is c.args.key c.args.location
    c.insert.new.self c.in_ok-before.ensures.ok

pub returns-in-None-clause-before : goal.returns-in-None-clause-before
returns-in-None-clause-before c = sym c.in-None.is ∙ c.in_ok-before.ensures.before
    ∙ get_seen c.self.inside.pages c.self.invariant.sorted c.args.self.now c.self.view_is c.args.key
