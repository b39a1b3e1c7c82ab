use Rattle.std.proofs.Common.{subst}
use Rattle.bk_inspect.specs.declared.aside.Standing.{Standing}
use Rattle.bk_inspect.specs.Copying.{StandsAs}
use Rattle.bk_inspect.proofs.Copies.{more_copied}
use Rattle.bk_inspect.proofs.Reading.{honest_still}
use Rattle.bk_inspect.proofs.aside.copy_log.Goals as goal

pub returns-in-Ok-clause-transition : goal.returns-in-Ok-clause-transition
returns-in-Ok-clause-transition g c = λ honest kept.
    let stood = c.in-Ok-More.ensures in
    more_copied _ _ _ _ c.args.log c.args.length (stood.aside.1 kept) (c.in-Ok.ensures.reads.1 (honest_still _ _ _ _ stood.aside kept))
    (subst (λ (s : Standing). StandsAs (g.D.LogDisk.files c.args.disk.now) (g.A.Aside.copies c.args.aside.now) c.args.log c.args.length s)
    c.in-Ok-More.field-0-is (stood.ok honest kept))
