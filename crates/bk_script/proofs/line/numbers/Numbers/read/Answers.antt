use Rattle.std.proofs.Common.{arith}
use Rattle.bk_script.proofs.Numbered.{others_of, no_numbers, no_number}
use Rattle.bk_script.proofs.line.numbers.Numbers.read.Goals as goal

pub returns-in_err-number-clause-none : goal.returns-in_err-number-clause-none
returns-in_err-number-clause-none c = rw (c.from_residual.ensures, c.in-Some.is) (λ numbers small short is.
    no_numbers _ c.in_default-split_number.ensures.none c.in_err-number.ensures.none numbers small is)

pub returns-in_err-number-2-clause-none : goal.returns-in_err-number-2-clause-none
returns-in_err-number-2-clause-none c = rw (c.from_residual-in_err-number-2.ensures, c.in-Some.is) (λ numbers small short is.
    let first = c.in-Some-split_number.ensures.value in
    let o = others_of _ _ _ numbers (omega (arith, first.0)) first.1 small is in
    no_numbers _ c.in_default-split_number-2.ensures.none c.in_err-number-2.ensures.none o.others o.small o.is)

pub returns-in_err-number-3-clause-none : goal.returns-in_err-number-3-clause-none
returns-in_err-number-3-clause-none c = rw (c.from_residual-in_err-number-3.ensures, c.in-Some.is) (λ numbers small short is.
    let first = c.in-Some-split_number.ensures.value in
    let second = c.in-Some-split_number-2.ensures.value in
    let o = others_of _ _ _ numbers (omega (arith, first.0)) first.1 small is in
    let p = others_of _ _ _ o.others (omega (arith, second.0)) second.1 o.small o.is in
    no_number _ c.in_err-number-3.ensures.none p.others p.small (let a = o.fewer in let b = p.fewer in omega arith) p.is)
