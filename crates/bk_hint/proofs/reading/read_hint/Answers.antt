use Rattle.std.proofs.Common.{arith, refl}
use Rattle.bk_hint.proofs.Decodings.{decoded, undecoded}
use Rattle.bk_hint.proofs.reading.read_hint.Goals as goal

pub returns-in-Some-clause-found : goal.returns-in-Some-clause-found
returns-in-Some-clause-found c =
    decoded c.args.bytes.now c.in_ok-facts.facts c.in_ok-facts.heads c.in_ok-facts.steps c.in-Ok.all_heads.items c.in-Ok-read_steps.all_steps.items c.in-Some.contents
    (λ i. omega (arith, c.type_inv.bytes i)) c.in_ok-facts.ensures.ok c.in_ok-check_sum.ensures.ok c.in-Ok.ensures c.in-Ok-read_steps.ensures c.in-Some.ensures.some.0
    c.in-Some.ensures.some.1

pub returns-in-None-clause-err : goal.returns-in-None-clause-err
returns-in-None-clause-err c =
    undecoded c.args.bytes.now c.in_ok-facts.facts c.in_ok-facts.heads c.in_ok-facts.steps c.in-Ok.all_heads.items c.in-Ok-read_steps.all_steps.items
    (λ i. omega (arith, c.type_inv.bytes i)) c.in_ok-facts.ensures.ok c.in-Ok.ensures c.in-Ok-read_steps.ensures (c.in-None.ensures.none refl)
