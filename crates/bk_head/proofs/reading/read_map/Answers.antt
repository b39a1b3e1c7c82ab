use Rattle.std.proofs.lemmas.Result.{err_from_is_err_and}
use Rattle.bk_head.proofs.Answering.{unsealed, misplaced, faulty, other_count, spelled_map, only}
use Rattle.bk_head.proofs.OneReading.{one_answer}
use Rattle.bk_head.proofs.reading.read_map.Goals as goal

pub returns-in_err-offset-clause-answer : goal.returns-in_err-offset-clause-answer
returns-in_err-offset-clause-answer c =
    let p = err_from_is_err_and c.from_residual.result c.from_residual.ensures.1 in
    rw (p.1, p.2) (misplaced c.args.tail.now c.args.length c.args.header.now c.in_err-offset.field-0.0 c.in_err-offset.ensures)

pub returns-in_err-offset-clause-only : goal.returns-in_err-offset-clause-only
returns-in_err-offset-clause-only c =
    let p = err_from_is_err_and c.from_residual.result c.from_residual.ensures.1 in
    rw (p.1, p.2) (only c.args.tail.now c.args.length c.args.header.now c.in_err-offset.field-0.0
    (misplaced c.args.tail.now c.args.length c.args.header.now c.in_err-offset.field-0.0 c.in_err-offset.ensures))

pub returns-in_default-clause-answer : goal.returns-in_default-clause-answer
returns-in_default-clause-answer c = unsealed c.in_ok-offset.field-0 c.args.tail.now c.args.length c.args.header.now c.in_ok-offset.ensures c.in_default.is

pub returns-in_default-clause-only : goal.returns-in_default-clause-only
returns-in_default-clause-only c = λ answer h. one_answer c.args.tail.now c.args.length c.args.header.now _ answer (returns-in_default-clause-answer c) h

pub returns-in_err-map-clause-answer : goal.returns-in_err-map-clause-answer
returns-in_err-map-clause-answer c =
    let p = err_from_is_err_and c.from_residual-in_err-map.result c.from_residual-in_err-map.ensures.1 in
    rw (p.1, p.2) (faulty c.in_ok-offset.field-0 c.in-Some.offset c.in-Some.count c.args.tail.now c.args.length c.args.header.now
    c.in_err-map.field-0.0 (c.in_ok-offset.ensures, c.in-Some.is) c.in_err-map.ensures.err)

pub returns-in_err-map-clause-only : goal.returns-in_err-map-clause-only
returns-in_err-map-clause-only c =
    let p = err_from_is_err_and c.from_residual-in_err-map.result c.from_residual-in_err-map.ensures.1 in
    rw (p.1, p.2) (only c.args.tail.now c.args.length c.args.header.now c.in_err-map.field-0.0
    (faulty c.in_ok-offset.field-0 c.in-Some.offset c.in-Some.count c.args.tail.now c.args.length c.args.header.now c.in_err-map.field-0.0
    (c.in_ok-offset.ensures, c.in-Some.is) c.in_err-map.ensures.err))

pub returns-then-found-count-clause-answer : goal.returns-then-found-count-clause-answer
returns-then-found-count-clause-answer c =
    other_count c.in_ok-offset.field-0 c.in-Some.offset c.in-Some.count c.args.tail.now c.args.length c.args.header.now c.in_ok-map.map
    c.len-found.result (c.in_ok-offset.ensures, c.in-Some.is)
    c.in_ok-map.ensures.ok c.len-found.ensures.ordered c.len-found.ensures.len c.if-found-count.true

pub returns-then-found-count-clause-only : goal.returns-then-found-count-clause-only
returns-then-found-count-clause-only c = λ answer h. one_answer c.args.tail.now c.args.length c.args.header.now _ answer
    (returns-then-found-count-clause-answer c) h

pub returns-clause-answer : goal.returns-clause-answer
returns-clause-answer c =
    spelled_map c.in_ok-offset.field-0 c.in-Some.offset c.in-Some.count c.args.tail.now c.args.length c.args.header.now c.in_ok-map.map
    c.len-found.result (c.in_ok-offset.ensures, c.in-Some.is)
    c.in_ok-map.ensures.ok c.len-found.ensures.ordered c.len-found.ensures.len c.if-found-count.false

pub returns-clause-only : goal.returns-clause-only
returns-clause-only c = λ answer h. one_answer c.args.tail.now c.args.length c.args.header.now _ answer (returns-clause-answer c) h
