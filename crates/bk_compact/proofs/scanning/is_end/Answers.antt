use Rattle.std.proofs.Common.{sym, ap, ◌∙◌, arith}
use Rattle.bk_compact.specs.declared.front.Front.TheVariants.{Foreign}
use Rattle.bk_compact.proofs.Ends.{stands_on, tells_entry, tells_rest, tells_unread, goes_behind, foreign_fits}
use Rattle.bk_compact.proofs.scanning.is_end.Goals as goal

pub returns-in-Ok-Entry-clause-transition : goal.returns-in-Ok-Entry-clause-transition
returns-in-Ok-Entry-clause-transition g c = λ h read none.
    tells_entry (stands_on _ _ _ _ (c.loop-at.invariant.comes h read) (c.end-end.ensures h)) _ c.in-Ok-Entry.field-0-is (c.in-Ok-Entry.ensures.transition h)

pub returns-in-Ok-Rest-clause-transition : goal.returns-in-Ok-Rest-clause-transition
returns-in-Ok-Rest-clause-transition g c = λ h read none.
    tells_rest (stands_on _ _ _ _ (c.loop-at.invariant.comes h read) (c.end-end.ensures h)) _ c.in-Ok-Rest.field-0-is (c.in-Ok-Rest.ensures.transition h)

pub returns-in-Err-clause-transition : goal.returns-in-Err-clause-transition
returns-in-Err-clause-transition g c = λ h read none.
    tells_unread (stands_on _ _ _ _ (c.loop-at.invariant.comes h read) (c.end-end.ensures h)) none c.in-Err.unread (c.in-Err.ensures.transition h)

pub loop-at-preserved : goal.loop-at-preserved
loop-at-preserved g c =
    let fits = foreign_fits _ _ _ c.in-Ok-Foreign.field-0-is c.in-Ok-Foreign.ensures.fits in
    record {
      later = omega (arith, c.loop-at.invariant.later);
      comes = λ h read. goes_behind (stands_on _ _ _ _ (c.loop-at.invariant.comes h read) (c.end-end.ensures h)) _ c.from-at.result
          (c.in-Ok-Foreign.field-0-is ∙ ap Foreign (sym c.from-at.ensures)) (c.in-Ok-Foreign.ensures.transition h) (omega (arith, fits.1, c.from-at.ensures));
    }
