use Rattle.std.proofs.Common.{Bool, IsTrue, inl, refl, sym, subst}
use Rattle.bk_inspect.proofs.Cuts.{cut_leaves, cut_seals, uncut_leaves, whole_leaves, whole_seals}
use Rattle.bk_inspect.proofs.cut_run.run_cut_watched.Goals as goal

pub returns-in-Ok-None-clause-done : goal.returns-in-Ok-None-clause-done
returns-in-Ok-None-clause-done g c = λ honest kept zero.
    whole_seals _ _ _ _ _ _ c.args.log c.in-Ok-None.field-0 c.in-Ok-None.field-0-is (c.in-Ok-None.ensures.transition honest kept)
    (c.run_seal_watched.ensures.done (subst (λ (b : Bool). IsTrue b) (sym c.in-Ok-None.ensures.honest) honest) zero)

pub returns-in-Ok-None-clause-leaves : goal.returns-in-Ok-None-clause-leaves
returns-in-Ok-None-clause-leaves g c = λ honest kept.
    whole_leaves _ _ _ _ _ _ c.args.log c.in-Ok-None.field-0 c.in-Ok-None.field-0-is (c.in-Ok-None.ensures.transition honest kept)
    (c.run_seal_watched.ensures.leaves (subst (λ (b : Bool). IsTrue b) (sym c.in-Ok-None.ensures.honest) honest))

pub returns-in-Ok-clause-done : goal.returns-in-Ok-clause-done
returns-in-Ok-clause-done g c = λ honest kept zero.
    cut_seals _ _ _ _ _ _ c.args.log c.in-Ok-Some.field-0 c.in-Ok-Some.cut c.in-Ok-Some.field-0-is (c.in-Ok-Some.ensures.transition honest kept)
    (c.seal_cut.ensures.done (subst (λ (b : Bool). IsTrue b) (sym c.in-Ok-Some.ensures.honest) honest) zero)

pub returns-in-Ok-clause-leaves : goal.returns-in-Ok-clause-leaves
returns-in-Ok-clause-leaves g c = λ honest kept.
    cut_leaves _ _ _ _ _ _ c.args.log c.in-Ok-Some.field-0 c.in-Ok-Some.cut c.in-Ok-Some.field-0-is (c.in-Ok-Some.ensures.transition honest kept)
    (c.seal_cut.ensures.leaves (subst (λ (b : Bool). IsTrue b) (sym c.in-Ok-Some.ensures.honest) honest))

pub returns-in-Err-show_cut-clause-leaves : goal.returns-in-Err-show_cut-clause-leaves
returns-in-Err-show_cut-clause-leaves g c = λ honest kept.
    cut_leaves _ _ _ _ _ _ c.args.log c.in-Ok-Some.field-0 c.in-Ok-Some.cut c.in-Ok-Some.field-0-is (c.in-Ok-Some.ensures.transition honest kept) (inl refl)

pub returns-in-Err-clause-leaves : goal.returns-in-Err-clause-leaves
returns-in-Err-clause-leaves g c = λ honest kept. uncut_leaves _ _ _ _ _ c.args.log c.in-Err.fault (c.in-Err.ensures.transition honest kept)
