use Rattle.std.proofs.Common.{refl, arith}
use Rattle.bk_inspect.proofs.Copies.{alike_next, begin_differ}
use Rattle.bk_inspect.proofs.Reading.{honest_still, read_then}
use Rattle.bk_inspect.proofs.aside.begin_alike.Goals as goal

pub loop-at-init : goal.loop-at-init
loop-at-init g c = ((refl, λ honest. refl), ((refl, λ honest. refl), (omega arith, λ honest kept file copy stands there. refl)))

pub loop-at-preserved : goal.loop-at-preserved
loop-at-preserved g c =
    let before = c.loop-at.invariant in
    let piece = c.in_ok-pieces_agree.ensures in (
      read_then _ _ _ _ _ _ before.0 piece.reads,
      (
        read_then _ _ _ _ _ _ before.1.0 piece.aside,
        (
          omega (arith, c.loop-at-test.true, c.min-some.ensures),
          λ honest kept.
              alike_next _ _ _ _ c.args.log c.loop-at.at c.min-some.result _ c.in_ok-pieces_agree.field-0 (before.0.1 honest) (before.1.0.1 kept)
              c.if-not-branch.false (piece.ok (honest_still _ _ _ _ before.0 honest) (honest_still _ _ _ _ before.1.0 kept)) refl
              (before.1.1.1 honest kept),
        ),
      ),
    )

pub returns-then-not-branch-clause-ok : goal.returns-then-not-branch-clause-ok
returns-then-not-branch-clause-ok g c = λ honest kept.
    let before = c.loop-at.invariant in
    begin_differ _ _ _ _ c.args.log c.loop-at.at c.min-some.result c.args.n c.in_ok-pieces_agree.field-0 (before.0.1 honest) (before.1.0.1 kept)
    (omega (arith, c.loop-at-test.true, c.min-some.ensures)) c.if-not-branch.true
    (c.in_ok-pieces_agree.ensures.ok (honest_still _ _ _ _ before.0 honest) (honest_still _ _ _ _ before.1.0 kept))
