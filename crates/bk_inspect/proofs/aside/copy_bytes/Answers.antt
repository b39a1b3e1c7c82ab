use Rattle.std.proofs.Common.{Result, sym, refl, subst, arith}
use Rattle.std.proofs.lemmas.Result.{err_from_is_err_and}
use Rattle.bk_inspect.specs.declared.fault.DirFault.{DirFault}
use Rattle.bk_inspect.specs.Copying.{CopiesBytes}
use Rattle.bk_inspect.proofs.Copies.{bytes_copied, copied_failed, copied_next, copied_none}
use Rattle.bk_inspect.proofs.Reading.{honest_still, read_then}
use Rattle.bk_inspect.proofs.aside.copy_bytes.Goals as goal

pub loop-at-init : goal.loop-at-init
loop-at-init g c = ((refl, λ honest. refl), ((refl, λ honest. refl), (omega arith, λ honest kept. copied_none _ _ c.args.log)))

pub loop-at-preserved : goal.loop-at-preserved
loop-at-preserved g c =
    let before = c.loop-at.invariant in
    let piece = c.in_ok-copy_piece.ensures in (
      read_then _ _ _ _ _ _ before.0 piece.reads,
      (
        read_then _ _ _ _ _ _ before.1.0 piece.aside,
        (
          omega (arith, c.loop-at-test.true, c.min-n.ensures),
          λ honest kept.
              copied_next _ _ _ _ _ c.args.log c.loop-at.at c.min-n.result _ (before.1.1.1 honest kept) (before.0.1 honest)
              (piece.transition (honest_still _ _ _ _ before.0 honest) (honest_still _ _ _ _ before.1.0 kept)) refl,
        ),
      ),
    )

pub returns-in_err-copy_piece-clause-transition : goal.returns-in_err-copy_piece-clause-transition
returns-in_err-copy_piece-clause-transition g c = λ honest kept.
    let before = c.loop-at.invariant in
    let told = err_from_is_err_and c.from_residual.result c.from_residual.ensures.1 in
    subst (λ (r : Result (Unit {0}) DirFault). CopiesBytes (g.D.LogDisk.files c.args.disk.now) (g.A.Aside.drafts c.args.aside.now) c.args.log c.args.length r
    (g.A.Aside.drafts c.copy_piece.new.aside)) (sym told.1)
    (copied_failed _ _ _ _ c.args.log c.loop-at.at (before.1.1.1 honest kept)
    (c.in_err-copy_piece.ensures.transition (honest_still _ _ _ _ before.0 honest) (honest_still _ _ _ _ before.1.0 kept)))

pub returns-clause-transition : goal.returns-clause-transition
returns-clause-transition g c = λ honest kept.
    let before = c.loop-at.invariant in
    bytes_copied _ _ _ c.args.log c.loop-at.at c.args.length (before.1.1.1 honest kept) (omega (arith, before.1.1.0, c.loop-at-test.false))
