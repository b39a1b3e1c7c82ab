use Rattle.std.proofs.Common.{arith, ap}
use Rattle.bk_serve_core.specs.Requests.{ask}
use Rattle.bk_serve_dispatch.specs.Frames.{is_hello, falls, is_none, greets}
use Rattle.bk_serve_dispatch.proofs.judging.judge.Goals as goal

pub returns-then-id-last-clause-err : goal.returns-then-id-last-clause-err
returns-then-id-last-clause-err c = (c.split_id-id.result.1.now, c.split_id-id.ensures, falls (omega (arith, c.if-id-last.true)))

pub returns-in-Err-clause-err : goal.returns-in-Err-clause-err
returns-in-Err-clause-err c =
    (c.split_id-id.result.1.now, c.split_id-id.ensures, is_none (omega (arith, c.if-id-last.false)) c.in-Err.ensures.fault c.ended_by.ensures)

pub returns-in-Ok-Hello-clause-err : goal.returns-in-Ok-Hello-clause-err
returns-in-Ok-Hello-clause-err c =
    (c.split_id-id.result.1.now, c.split_id-id.ensures, greets (omega (arith, c.if-id-last.false)) c.in-Ok-Hello.ensures.value (ap (λ r. is_hello (ask r)) c.in-Ok-Hello.field-0-is))
