use Rattle.bk_inspect.proofs.Copies.{draft_failed, draft_kept}
use Rattle.bk_inspect.proofs.Reading.{honest_still}
use Rattle.bk_inspect.proofs.aside.fill_and_keep.Goals as goal

pub returns-in-Ok-clause-transition : goal.returns-in-Ok-clause-transition
returns-in-Ok-clause-transition g c = λ honest kept empty.
    let filled = c.in_ok-copy_bytes.ensures in
    draft_kept _ _ _ _ _ _ c.args.log c.args.length empty (filled.transition honest kept) (filled.aside.1 kept)
    (c.in-Ok.ensures.transition (honest_still _ _ _ _ filled.aside kept))

pub returns-in-Err-clause-transition : goal.returns-in-Err-clause-transition
returns-in-Err-clause-transition g c = λ honest kept empty.
    let filled = c.in_ok-copy_bytes.ensures in
    draft_failed _ _ _ _ _ _ c.args.log c.args.length empty (filled.transition honest kept) (filled.aside.1 kept)
    (c.in-Err.ensures.transition (honest_still _ _ _ _ filled.aside kept))
