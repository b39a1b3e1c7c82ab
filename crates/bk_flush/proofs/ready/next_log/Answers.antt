use Rattle.std.proofs.Common.{inr}
use Rattle.bk_flush.proofs.Filling.{needs_this, none_writing, made_new, ready_made, not_sealed, not_made}
use Rattle.bk_flush.proofs.ready.next_log.Goals as goal

pub returns-in-Err-seal_writing-clause-transition : goal.returns-in-Err-seal_writing-clause-transition
returns-in-Err-seal_writing-clause-transition g c = λ payload filled needs.
    let sealed = c.in-Err-seal_writing.ensures.transition in
    not_sealed c.args.store.now c.seal_writing.new.store sealed.0 c.in_default.ensures payload
    (needs_this c.args.store.now payload filled sealed.0 needs sealed.1) c.in-Err-seal_writing.fault c.flush_fault.result c.flush_fault.new.store sealed.2
    c.flush_fault.ensures.value c.flush_fault.ensures.left

pub create_log-requires-clause-one : goal.create_log-requires-clause-one
create_log-requires-clause-one g c κs within = λ is.
    let sealed = c.in_default-seal_writing.ensures.transition in
    none_writing c.args.store.now c.seal_writing.new.store sealed.0 sealed.1 sealed.2

pub returns-in-Ok-clause-transition : goal.returns-in-Ok-clause-transition
returns-in-Ok-clause-transition g c = λ payload filled needs.
    let sealed = c.in_default-seal_writing.ensures.transition in
    inr (ready_made c.args.store.now c.seal_writing.new.store sealed.0 c.in_default.ensures payload
    (needs_this c.args.store.now payload filled sealed.0 needs sealed.1) sealed.2 c.in-Ok.log c.create_log.new.self c.in-Ok.ensures.transition)

pub returns-in-Ok-clause-new : goal.returns-in-Ok-clause-new
returns-in-Ok-clause-new g c =
    let sealed = c.in_default-seal_writing.ensures.transition in
    made_new c.seal_writing.new.store c.create_log.new.self c.in-Ok.log
    (none_writing c.args.store.now c.seal_writing.new.store sealed.0 sealed.1 sealed.2) c.in-Ok.ensures.transition

pub returns-in-Err-create_log-clause-transition : goal.returns-in-Err-create_log-clause-transition
returns-in-Err-create_log-clause-transition g c = λ payload filled needs.
    let sealed = c.in_default-seal_writing.ensures.transition in
    not_made c.args.store.now c.seal_writing.new.store sealed.0 c.in_default.ensures payload
    (needs_this c.args.store.now payload filled sealed.0 needs sealed.1) sealed.2
    c.in-Err-create_log.fault c.making_fault-in-Err-create_log.result c.create_log.new.self c.making_fault-in-Err-create_log.new.store c.in-Err-create_log.ensures.transition
    c.making_fault-in-Err-create_log.ensures.value c.making_fault-in-Err-create_log.ensures.left
