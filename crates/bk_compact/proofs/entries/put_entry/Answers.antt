use Rattle.std.proofs.Common.{◌≡◌, ℕ, true, false, Some, Err, sym, ap, subst, ◌∙◌}
use Rattle.bk_record.specs.Location.{Place}
use Rattle.bk_log.specs.Writing.{Writing}
use Rattle.bk_store.specs.Primitives.{writer_of, AppendRecordTransition}
use Rattle.bk_store.specs.Appending.{next_place}
use Rattle.bk_store.specs.CompactionPrimitives.{CanAppendCopied}
use Rattle.bk_store.specs.Jobs.{Job, with_move}
use Rattle.bk_compact.specs.declared.entries.Stopped.{Stopped}
use Rattle.bk_compact.specs.Compacting.{place_of}
use Rattle.bk_compact.specs.JobSteps.{StopsAt, stop_of_put}
use Rattle.bk_compact.proofs.CopyWriter.{may_copy, fetched_entry, fetched_stands, fetched_filed, put_copies, put_stops, stops_odd}
use Rattle.bk_compact.proofs.entries.put_entry.Goals as goal
use Rattle.std.proofs.lemmas.Bool.{false_from_ne_true}

not_both : {b : _} → b ≡ true → b ≡ false → ⊥
not_both one other = cc

pub returns-then-not-is_entry-clause-transition : goal.returns-then-not-is_entry-clause-transition
returns-then-not-is_entry-clause-transition g c =
    let s = c.args.store.now in
    let job = c.args.job.now in
    let found = c.args.found.now in
    stops_odd s c.odd.new.store job found c.odd.result c.odd.ensures.value
    (false_from_ne_true s.honest (λ honest.
    not_both
    (c.is_entry.ensures.honest
    (fetched_entry s c.reveal_invariant.ensures job c.requires.copying.out.keeps found c.requires.ahead c.args.payload.now (c.requires.stands honest) honest))
    c.if-not-is_entry.true))
    c.odd.ensures.transition

pub append_copied-requires-after_bounds : goal.append_copied-requires-after_bounds
append_copied-requires-after_bounds g c κs within =
    let s = c.args.store.now in
    let job = c.args.job.now in
    let found = c.args.found.now in
    let payload = c.args.payload.now in
    let may = may_copy s c.reveal_invariant.ensures job c.requires.copying found c.requires.ahead c.requires.near payload
    (c.is_entry.ensures.entry c.if-not-is_entry.false) (c.requires.sent ∙ ap Some c.requires.place)
    (λ honest. fetched_filed s c.reveal_invariant.ensures job c.requires.copying.out.keeps found c.requires.ahead payload (c.requires.stands honest) honest) in
    let copy_is : c.copy-2.result ≡ job.copy = c.copy-2.ensures ∙ ap (λ (j : Job). j.copy) c.in-Ok.ensures.ok in (
      place_of job found,
      subst (λ (n : ℕ). CanAppendCopied s n found.key (place_of job found) payload) (sym copy_is) may,
    )

pub returns-in_default-append_copied-clause-transition : goal.returns-in_default-append_copied-clause-transition
returns-in_default-append_copied-clause-transition g c =
    let s = c.args.store.now in
    let job = c.args.job.now in
    let found = c.args.found.now in
    let payload = c.args.payload.now in
    let copy_is : c.copy-2.result ≡ job.copy = c.copy-2.ensures ∙ ap (λ (j : Job). j.copy) c.in-Ok.ensures.ok in
    put_copies s c.append_copied.new.self job c.note.new.self found payload c.in_default-append_copied.field-0 c.place_in-to.result c.append_copied.result c.in_default-append_copied.is
    (c.requires.sent ∙ ap Some c.requires.place)
    (λ honest. fetched_stands s c.reveal_invariant.ensures job c.requires.copying.out.keeps found c.requires.ahead payload (c.requires.stands honest) honest)
    (subst (λ (n : ℕ). AppendRecordTransition s n payload c.append_copied.result c.append_copied.new.self) copy_is c.append_copied.ensures.transition)
    (c.is_entry.ensures.entry c.if-not-is_entry.false)
    (subst (λ (n : ℕ). (x : Writing) × (writer_of s.logs n ≡ Some x) × (c.place_in-to.result ≡ next_place x)) c.copy.ensures c.place_in-to.ensures)
    (c.in-Ok.ensures.ok ∙ ap (λ (p : Place). with_move job (record { key = found.key; from = p; to = c.place_in-to.result })) c.requires.place)

pub returns-clause-transition : goal.returns-clause-transition
returns-clause-transition g c =
    let s = c.args.store.now in
    let job = c.args.job.now in
    let found = c.args.found.now in
    let payload = c.args.payload.now in
    let copy_is : c.copy-2.result ≡ job.copy = c.copy-2.ensures ∙ ap (λ (j : Job). j.copy) c.in-Ok.ensures.ok in
    let back : c.take_back.new.self ≡ job = c.take_back.ensures job _ c.in-Ok.ensures.ok in
    let stops = put_stops s c.append_copied.new.self job found payload c.in-Err.fault (c.requires.sent ∙ ap Some c.requires.place)
    (λ honest. fetched_stands s c.reveal_invariant.ensures job c.requires.copying.out.keeps found c.requires.ahead payload (c.requires.stands honest) honest)
    (subst (λ (n : ℕ). AppendRecordTransition s n payload (Err c.in-Err.fault) c.append_copied.new.self) copy_is c.in-Err.ensures.transition) in
    subst (λ (r : Stopped). StopsAt s job found r c.append_copied.new.self c.take_back.new.self) (sym c.from.ensures)
    (subst (StopsAt s job found (stop_of_put c.in-Err.fault) c.append_copied.new.self) (sym back) stops)
