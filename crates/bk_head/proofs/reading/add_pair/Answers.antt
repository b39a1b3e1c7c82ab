use Rattle.std.proofs.Common.{refl, sym, ◌∙◌, arith}
use Rattle.bk_head.proofs.MapViews.{get-map_of, map_of-insert}
use Rattle.bk_head.proofs.reading.add_pair.Goals as goal

pub returns-in-Ok-None-clause-new : goal.returns-in-Ok-None-clause-new
returns-in-Ok-None-clause-new c = get-map_of c.args.map.now c.args.ledger ∙ sym c.in-Ok-None.ensures.old ∙ c.in-Ok-None.field-0-is

pub returns-in-Ok-None-clause-added : goal.returns-in-Ok-None-clause-added
returns-in-Ok-None-clause-added c = map_of-insert c.args.map.now c.insert.new.self c.args.ledger c.args.size c.in-Ok-None.ensures.updates.0

pub returns-in-Ok-Some-clause-err : goal.returns-in-Ok-Some-clause-err
returns-in-Ok-Some-clause-err c =
    (refl, ((omega arith, omega arith), rw (get-map_of c.args.map.now c.args.ledger ∙ sym c.in-Ok-Some.ensures.old ∙ c.in-Ok-Some.field-0-is) refl))

pub returns-in-Err-clause-err : goal.returns-in-Err-clause-err
returns-in-Err-clause-err c = ((omega arith, omega arith), get-map_of c.args.map.now c.args.ledger ∙ c.in-Err.ensures.absent)
