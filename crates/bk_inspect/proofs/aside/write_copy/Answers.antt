use Rattle.std.proofs.Common.{Bool, IsTrue, sym, subst}
use Rattle.bk_record.specs.Files.{Files}
use Rattle.bk_inspect.specs.Copying.{IsCopied}
use Rattle.bk_inspect.proofs.Copies.{draft_discarded, empty_draft}
use Rattle.bk_inspect.proofs.aside.write_copy.Goals as goal

pub returns-in-Ok-fill_and_keep-clause-transition : goal.returns-in-Ok-fill_and_keep-clause-transition
returns-in-Ok-fill_and_keep-clause-transition g c = λ honest kept.
    let begun = c.in-Ok.ensures in
    let mid = subst (λ (b : Bool). IsTrue b) (sym begun.honest) kept in
    subst (λ (fs : Files). IsCopied (g.D.LogDisk.files c.args.disk.now) fs c.args.log c.args.length (g.A.Aside.copies c.fill_and_keep.new.aside))
    (begun.copies kept)
    (c.in-Ok-fill_and_keep.ensures.transition honest mid (empty_draft _ _ c.args.log (begun.drafts kept)))

pub returns-in-Err-fill_and_keep-clause-transition : goal.returns-in-Err-fill_and_keep-clause-transition
returns-in-Err-fill_and_keep-clause-transition g c = λ honest kept.
    let begun = c.in-Ok.ensures in
    let mid = subst (λ (b : Bool). IsTrue b) (sym begun.honest) kept in
    let failed = c.in-Err-fill_and_keep.ensures in
    draft_discarded _ _ _ _ _ c.args.log c.args.length (begun.copies kept)
    (c.discard.ensures.copies (subst (λ (b : Bool). IsTrue b) (sym failed.honest) mid))
    (failed.transition honest mid (empty_draft _ _ c.args.log (begun.drafts kept)))
