use Rattle.bk_inspect.proofs.Outlines.{outline_told}
use Rattle.bk_inspect.proofs.Reading.{honest_still}
use Rattle.bk_inspect.proofs.quick.outline_of.Goals as goal

pub returns-in-Ok-clause-ok : goal.returns-in-Ok-clause-ok
returns-in-Ok-clause-ok g c = λ honest.
    let viewed = c.in_ok-view.ensures.ok (honest_still _ _ _ _ c.read_head.ensures.reads honest) in
    outline_told _ _ c.args.log c.in_ok-read_head.field-0.length c.in_ok-read_head.field-0.head _ _ _ (c.in_ok-read_head.ensures.ok honest) c.in-Whole.is
    (c.read_head.ensures.reads.1 honest) viewed.0 (c.in-Ok.ensures viewed.1)
