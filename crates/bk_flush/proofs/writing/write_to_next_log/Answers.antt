use Rattle.std.proofs.Common.{Ok, Err, sym, ap, subst, ◌∙◌}
use Rattle.std.proofs.lemmas.Result.{err_from_is_err_and}
use Rattle.bk_store.specs.Primitives.{AppendNextTransition}
use Rattle.bk_flush.specs.Flushing.{WriteOneTransition}
use Rattle.bk_flush.proofs.Steps.{unready_step, is_appended, put_step, unput_step}
use Rattle.bk_flush.proofs.writing.write_to_next_log.Goals as goal

pub returns-in_err-next_log-clause-transition : goal.returns-in_err-next_log-clause-transition
returns-in_err-next_log-clause-transition g c =
    let told = err_from_is_err_and c.from_residual.result c.from_residual.ensures.1 in
    subst (λ r. WriteOneTransition c.args.store.now r c.next_log.new.store) (sym (told.1 ∙ ap Err told.2))
    (unready_step c.args.store.now c.next_log.new.store c.requires _
    (c.in_err-next_log.ensures.transition c.requires.payload c.requires.filled c.requires.needs))

pub returns-in_err-location-clause-transition : goal.returns-in_err-location-clause-transition
returns-in_err-location-clause-transition g c =
    let made = c.in_ok-next_log.ensures in
    let told = err_from_is_err_and c.from_residual-in_err-location.result c.from_residual-in_err-location.ensures.1 in
    subst (λ r. WriteOneTransition c.args.store.now r c.append.new.store) (sym (told.1 ∙ ap Err told.2))
    (unput_step c.args.store.now c.next_log.new.store c.requires c.in_ok-next_log.field-0
    (made.transition c.requires.payload c.requires.filled c.requires.needs) made.new made.caches made.places _ c.append.new.store
    c.in_err-location.ensures.transition)

pub unreachable-requires : goal.unreachable-requires
unreachable-requires g c =
    let made = c.in_ok-next_log.ensures in
    is_appended c.args.store.now c.next_log.new.store c.requires c.in_ok-next_log.field-0
    (made.transition c.requires.payload c.requires.filled c.requires.needs) made.new made.caches made.places c.in_ok-location.field-0 c.append.new.store
    c.in_default.not-At c.in_ok-location.ensures.transition

pub returns-clause-transition : goal.returns-clause-transition
returns-clause-transition g c =
    let made = c.in_ok-next_log.ensures in
    put_step c.args.store.now c.next_log.new.store c.requires c.in_ok-next_log.field-0
    (made.transition c.requires.payload c.requires.filled c.requires.needs) made.new made.caches made.places c.in-At.location c.append.new.store
    (subst (λ a. AppendNextTransition c.next_log.new.store (Ok a) c.append.new.store) c.in-At.is c.in_ok-location.ensures.transition)
