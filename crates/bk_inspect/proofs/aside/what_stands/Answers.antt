use Rattle.std.proofs.Common.{Bool, IsTrue, sym, subst, arith}
use Rattle.bk_inspect.proofs.Copies.{stands_more, stands_other, stands_part}
use Rattle.bk_inspect.proofs.aside.what_stands.Goals as goal

pub returns-then-not-branch-clause-ok : goal.returns-then-not-branch-clause-ok
returns-then-not-branch-clause-ok g c = λ honest kept.
    let measured = c.in-Ok.ensures.transition kept in
    let mid = subst (λ (b : Bool). IsTrue b) (sym c.in-Ok.ensures.honest) kept in
    stands_other _ _ _ c.args.log c.args.length c.in-Ok.copied c.min.result c.in_ok-begin_alike.field-0 (measured.0, measured.1, measured.2) measured.3
    c.min.ensures (c.in_ok-begin_alike.ensures.ok honest mid) c.if-not-branch.true

pub returns-then-length-copied-clause-ok : goal.returns-then-length-copied-clause-ok
returns-then-length-copied-clause-ok g c = λ honest kept.
    let measured = c.in-Ok.ensures.transition kept in
    let mid = subst (λ (b : Bool). IsTrue b) (sym c.in-Ok.ensures.honest) kept in
    stands_more _ _ _ c.args.log c.args.length c.in-Ok.copied c.min.result c.in_ok-begin_alike.field-0 (measured.0, measured.1, measured.2) measured.3
    c.min.ensures (c.in_ok-begin_alike.ensures.ok honest mid) c.if-not-branch.false c.if-length-copied.true

pub returns-else-length-copied-clause-ok : goal.returns-else-length-copied-clause-ok
returns-else-length-copied-clause-ok g c = λ honest kept.
    let measured = c.in-Ok.ensures.transition kept in
    let mid = subst (λ (b : Bool). IsTrue b) (sym c.in-Ok.ensures.honest) kept in
    stands_part _ _ _ c.args.log c.args.length c.in-Ok.copied c.min.result c.in_ok-begin_alike.field-0 (measured.0, measured.1, measured.2) measured.3
    c.min.ensures (c.in_ok-begin_alike.ensures.ok honest mid) c.if-not-branch.false (omega (arith, c.if-length-copied.false))
