use Rattle.std.proofs.Common.{Ok, Err}
use Rattle.bk_store.proofs.SameContents.{stays_on}
use Rattle.bk_flush.proofs.Steps.{append_stays}
use Rattle.bk_flush.proofs.writing.append.Goals as goal

pub returns-in-Ok-clause-frame : goal.returns-in-Ok-clause-frame
returns-in-Ok-clause-frame g c =
    append_stays c.args.store.now c.append_next.new.self (Ok c.in-Ok.appended) c.in-Ok.ensures.transition c.in-Ok.ensures.contents

pub returns-in-Err-clause-transition : goal.returns-in-Err-clause-transition
returns-in-Err-clause-transition g c =
    (c.in-Err.fault, c.flush_fault.ensures.value, (c.append_next.new.self, c.in-Err.ensures.transition, c.flush_fault.ensures.left))

pub returns-in-Err-clause-frame : goal.returns-in-Err-clause-frame
returns-in-Err-clause-frame g c =
    stays_on _ _ _ (append_stays c.args.store.now c.append_next.new.self (Err c.in-Err.fault) c.in-Err.ensures.transition c.in-Err.ensures.contents)
    c.flush_fault.ensures.frame
