use Rattle.std.proofs.Common.{arith}
use Rattle.bk_script.proofs.Parts.{numbered_of, told}
use Rattle.bk_script.proofs.line.read_form.Goals as goal

pub returns : goal.returns
returns c = told _ _ _ _ _ (omega (arith, c.ranges.last_reader.fits)) c.requires c.in_ok-read.ensures.value c.in_ok-read.ensures.small c.step_of.ensures

pub returns-in_err-read : goal.returns-in_err-read
returns-in_err-read c = rw c.from_residual.ensures (λ step is.
    let n = numbered_of _ _ _ step (omega (arith, c.ranges.last_reader.fits)) c.requires is in
    c.in_err-read.ensures.none n.numbers n.has.small n.has.short n.behind)
