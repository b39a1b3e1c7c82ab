use Rattle.std.proofs.Common.{Err, ap, rules}
use Rattle.bk_serve_core.specs.Replies.{refused}
use Rattle.bk_serve.proofs.reading.give_leased.Goals as goal

pub returns-in-Err : goal.returns-in-Err
returns-in-Err g c =
    (refused c.of_fetch.result, record { fetched = Err c.in-Err.fault; shown = search rules; says = ap refused c.of_fetch.ensures }, c.encode.ensures.ok)
