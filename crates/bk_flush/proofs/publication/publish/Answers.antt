use Rattle.std.proofs.Common.{Ok, Err, sym, ap, subst, ◌∙◌}
use Rattle.std.proofs.lemmas.Result.{err_from_is_err_and}
use Rattle.bk_store.specs.Primitives.{AllPlaced}
use Rattle.bk_flush.specs.Flushing.{PublishTransition}
use Rattle.bk_flush.specs.declared.answer.PublishAnswer.TheVariants.{Published}
use Rattle.bk_store.specs.Faults.{ReportsDeviceFault}
use Rattle.bk_flush.proofs.Failures.{unshown_caused}
use Rattle.bk_flush.proofs.WriteFrames.{PublishStays, unshown_stays, publish_stays}
use Rattle.bk_flush.proofs.Published.{none_next, names_refused, all_named, published}
use Rattle.bk_flush.proofs.publication.publish.Goals as goal

pub returns-in_err-name_entries-clause-transition : goal.returns-in_err-name_entries-clause-transition
returns-in_err-name_entries-clause-transition g c =
    let runs = c.is_flushing.ensures.0 c.if-not-is_flushing.false in
    let placed : AllPlaced c.args.store.now =
    none_next c.args.store.now _ c.next_entry.result (sym c.is_some.ensures ∙ c.if-is_some.false) c.next_entry.ensures.next in
    let told = err_from_is_err_and c.from_residual-in_err-name_entries.result c.from_residual-in_err-name_entries.ensures.1 in
    subst (λ r. PublishTransition c.args.store.now r c.name_entries.new.store) (sym (told.1 ∙ ap Err told.2))
    (names_refused c.args.store.now c.reveal_invariant.ensures placed c.show_logs.new.store c.in_ok-show_logs.ensures.transition c.name_entries.new.store _ runs
    c.in_err-name_entries.ensures.transition)

pub end_flush-requires-after_bounds : goal.end_flush-requires-after_bounds
end_flush-requires-after_bounds g c κs within =
    let placed : AllPlaced c.args.store.now =
    none_next c.args.store.now _ c.next_entry.result (sym c.is_some.ensures ∙ c.if-is_some.false) c.next_entry.ensures.next in
    all_named c.args.store.now c.reveal_invariant.ensures placed c.show_logs.new.store c.in_ok-show_logs.ensures.transition c.name_entries.new.store
    c.in_ok-name_entries.ensures.transition

pub returns-clause-transition : goal.returns-clause-transition
returns-clause-transition g c =
    let runs = c.is_flushing.ensures.0 c.if-not-is_flushing.false in
    let placed : AllPlaced c.args.store.now =
    none_next c.args.store.now _ c.next_entry.result (sym c.is_some.ensures ∙ c.if-is_some.false) c.next_entry.ensures.next in
    published c.args.store.now c.reveal_invariant.ensures placed c.show_logs.new.store c.in_ok-show_logs.ensures.transition c.name_entries.new.store
    c.in_ok-name_entries.ensures.transition
    c.end_flush.new.self c.flush_len-entries.result runs c.flush_len-entries.ensures c.end_flush.ensures.transition

pub returns-in_err-show_logs-clause-cause : goal.returns-in_err-show_logs-clause-cause
returns-in_err-show_logs-clause-cause g c =
    let told = err_from_is_err_and c.from_residual.result c.from_residual.ensures.1 in
    subst (λ r. ReportsDeviceFault c.args.store.now r c.show_logs.new.store) (sym (told.1 ∙ ap Err told.2))
    (unshown_caused c.args.store.now c.show_logs.new.store _ c.in_err-show_logs.ensures.transition)

pub returns-in_err-show_logs-clause-frame : goal.returns-in_err-show_logs-clause-frame
returns-in_err-show_logs-clause-frame g c =
    let told = err_from_is_err_and c.from_residual.result c.from_residual.ensures.1 in
    subst (λ r. PublishStays c.args.store.now r c.show_logs.new.store) (sym (told.1 ∙ ap Err told.2))
    (unshown_stays c.args.store.now c.show_logs.new.store _ c.in_err-show_logs.ensures.transition)

pub returns-in_err-name_entries-clause-frame : goal.returns-in_err-name_entries-clause-frame
returns-in_err-name_entries-clause-frame g c =
    publish_stays c.args.store.now c.name_entries.new.store _ (returns-in_err-name_entries-clause-transition g c)

pub returns-clause-frame : goal.returns-clause-frame
returns-clause-frame g c =
    publish_stays c.args.store.now c.end_flush.new.self (Ok (Published c.flush_len-entries.result)) (returns-clause-transition g c)
