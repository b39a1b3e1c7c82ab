use Rattle.std.proofs.Common.{◌≡◌, arith}
use Rattle.bk_decimal.proofs.Numbers.{even_start, word_of_parsed, parsed_decimal}
use Rattle.bk_decimal.proofs.digits.number.Goals as goal

pub returns-then-has_odd_start-clause-none : goal.returns-then-has_odd_start-clause-none
returns-then-has_odd_start-clause-none c = λ n small is.
    even_start n _ (omega arith) is (rw c.as_bytes.ensures.value at (c.has_odd_start.ensures.0 c.if-has_odd_start.true))

pub returns-in-Ok-clause-value : goal.returns-in-Ok-clause-value
returns-in-Ok-clause-value c = (
  c.if-n-most.true,
  word_of_parsed _ _ _ c.parse.ensures.value.0
      (λ odd. let odd' = rw (← c.as_bytes.ensures.value) at odd in let is = c.has_odd_start.ensures.1 odd' in cc) c.in-Ok.is,
)

pub returns-in_default-clause-none : goal.returns-in_default-clause-none
returns-in_default-clause-none c = λ n small is.
    let read = parsed_decimal _ _ n c.parse.ensures.value.0 (omega arith) is in let same : c.in-Ok.n ≡ n = cc in omega arith

pub returns-in_default-2-clause-none : goal.returns-in_default-2-clause-none
returns-in_default-2-clause-none c = λ n small is.
    let read = parsed_decimal _ _ n c.parse.ensures.value.0 (omega arith) is in cc
