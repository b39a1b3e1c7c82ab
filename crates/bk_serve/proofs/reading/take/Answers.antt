use Rattle.std.proofs.Common.{◌∙◌, Ok, Err, ap}
use Rattle.bk_store.specs.declared.answer.Taken.TheVariants.{Deleted, NotHeld, Cached, Leased}
use Rattle.bk_serve_core.specs.Replies.{refused}
use Rattle.bk_serve.proofs.reading.take.Goals as goal

pub returns-in-Ok-Deleted : goal.returns-in-Ok-Deleted
returns-in-Ok-Deleted g c = λ t is. record { result = Ok Deleted; takes = rw c.in-Ok-Deleted.field-0-is at c.in-Ok-Deleted.ensures; gives = is }

pub returns-in-Ok-NotHeld : goal.returns-in-Ok-NotHeld
returns-in-Ok-NotHeld g c = λ t is. record { result = Ok NotHeld; takes = rw c.in-Ok-NotHeld.field-0-is at c.in-Ok-NotHeld.ensures; gives = is }

pub returns-in-Ok-Cached : goal.returns-in-Ok-Cached
returns-in-Ok-Cached g c = λ t is. record { result = Ok (Cached c.in-Ok-Cached.payload); takes = rw c.in-Ok-Cached.field-0-is at c.in-Ok-Cached.ensures; gives = is }

pub returns-in-Ok-Leased : goal.returns-in-Ok-Leased
returns-in-Ok-Leased g c =
    λ t is. record { result = Ok (Leased c.in-Ok-Leased.lease c.in-Ok-Leased.location); takes = rw c.in-Ok-Leased.field-0-is at c.in-Ok-Leased.ensures; gives = is }

pub returns-in-Err : goal.returns-in-Err
returns-in-Err g c = λ t is. record { result = Err c.in-Err.fault; takes = c.in-Err.ensures; gives = is ∙ ap refused c.of_take.ensures }
