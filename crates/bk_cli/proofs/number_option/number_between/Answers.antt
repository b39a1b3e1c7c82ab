use Rattle.std.proofs.Common.{◌≡◌, arith}
use Rattle.bk_cli.proofs.CommandLines.{same_number}
use Rattle.bk_cli.proofs.number_option.number_between.Goals as goal

pub returns-in_default-clause-none : goal.returns-in_default-clause-none
returns-in_default-clause-none c = λ n fits.
    let same : c.in-Some.n ≡ n = same_number _ _ n (omega (arith, c.in-Some.ensures.value.0)) (omega (arith, fits.1)) c.in-Some.ensures.value.1 fits.2 in
    absurd (omega (arith, fits.0))
