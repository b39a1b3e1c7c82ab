use Rattle.std.proofs.Common.{arith}
use Rattle.bk_serve_core.proofs.Numbers.{are_numbers}
use Rattle.bk_serve_core.proofs.putting.fields_length.Goals as goal

pub returns-clause-numbers : goal.returns-clause-numbers
returns-clause-numbers c = are_numbers c.args.numbers.now (λ i. omega (arith, c.type_inv.numbers i))
