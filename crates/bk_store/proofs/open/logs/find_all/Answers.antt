use Rattle.std.proofs.Common.{get_or, IsTrue, IfErr, Err, refl, sym, ap, subst, ◌∙◌, arith}
use Rattle.std.proofs.lemmas.Result.{err_from_is_err_and}
use Rattle.bk_store.specs.Opening.{FirstFails}
use Rattle.bk_store.specs.declared.answer.OpenFault.TheVariants as open_faults
use Rattle.bk_store.proofs.OpenedFinds.{none_taken, finding_closed, finding_on, finding_refused, finding_past, finding_least}
use Rattle.bk_store.specs.SlotAssignment.{slot_state}
use Rattle.bk_store.proofs.Seating.{none_seated, may_seat, seat_on}
use Rattle.bk_store.proofs.OpenedSynced.{none_kept, keeping_on, both_keep}
use Rattle.bk_store.proofs.open.logs.find_all.Goals as goal
use Rattle.bk_store.proofs.open.logs.find_all.Goals.{then-id-next-via-then-id-next, then-id-next-via-else-id-next+then-id-gt-LAST_LOG}

pub returns-then-id-next-clause-err : goal.returns-then-id-next-clause-err
returns-then-id-next-clause-err g c = λ honest.
    let past = finding_past c.loop-id.invariant.0 c.requires.listed 0 c.loop-id-test.true honest in
    let least = finding_least c.loop-id.invariant.0 c.requires.listed 0 c.loop-id-test.true honest (c.bounds.ensures honest) in
    elim c.then-id-next.branch [
      | then-id-next-via-then-id-next w ↦ absurd (omega (arith, past, w.if-id-next.true))
      | then-id-next-via-else-id-next+then-id-gt-LAST_LOG w ↦ absurd (omega (arith, least, w.if-id-gt-LAST_LOG.true))
    ]

pub loop-id-init : goal.loop-id-init
loop-id-init g c = (
  record { stays = refl; unfailed = refl; same = λ _. refl; taken = none_taken _ _ c.args.tally.now c.args.logs.now },
  none_seated c.args.keeper.now c.args.logs.now c.requires.free c.requires.none,
  refl,
  none_kept _ _ _ _ _,
)

pub find-requires-clause-closed : goal.find-requires-clause-closed
find-requires-clause-closed g c κs within = finding_closed c.loop-id.invariant.0 _ c.requires.first (omega (arith, c.if-id-next.false))

pub returns-in_err-log-clause-err : goal.returns-in_err-log-clause-err
returns-in_err-log-clause-err g c =
    let told = err_from_is_err_and c.from_residual.result c.from_residual.ensures.1 in
    subst (λ r. IfErr r (λ fault. IsTrue (g.D.LogDisk.honest c.args.disk.now) → FirstFails (g.D.LogDisk.files c.args.disk.now) fault))
    (sym (told.1 ∙ ap Err told.2))
    (λ honest. finding_refused c.loop-id.invariant.0 c.requires.listed 0 c.loop-id-test.true _ c.in_err-log.ensures.err honest)

pub returns-in_err-insert-clause-err : goal.returns-in_err-insert-clause-err
returns-in_err-insert-clause-err g c =
    let told = err_from_is_err_and c.from_residual-in_err-insert.result c.from_residual-in_err-insert.ensures.1 in
    subst (λ r. IfErr r (λ fault. IsTrue (g.D.LogDisk.honest c.args.disk.now) → FirstFails (g.D.LogDisk.files c.args.disk.now) fault))
    (sym (told.1 ∙ ap Err told.2))
    (λ honest. finding_refused c.loop-id.invariant.0 c.requires.listed 0 c.loop-id-test.true open_faults.Memory (λ file is stands. tt) honest)

pub open-requires-clause-may_open : goal.open-requires-clause-may_open
open-requires-clause-may_open g c = may_seat c.loop-id.invariant.1

pub loop-id-preserved : goal.loop-id-preserved
loop-id-preserved g c =
    let held = c.in_ok-insert.ensures.ok in
    let one = c.in_ok-log.ensures.ok in
    let id = get_or c.args.ids.now c.loop-id.id-index 0 in (
      finding_on c.loop-id.invariant.0 0 c.loop-id.slot c.in_ok-log.log _ _ _ _ _ c.loop-id-test.true (omega (arith, c.if-id-next.false))
          (omega (arith, c.if-id-gt-LAST_LOG.false))
          c.in_ok-log.ensures.honest c.in_ok-log.ensures.failures c.in_ok-log.ensures.files one held,
      seat_on c.loop-id.invariant.1 id c.in_ok-log.log c.open.new.self c.insert.new.self
          (let at = c.loop-id.invariant.2 in let same = c.loop-id.invariant.1.same.slots in let room = c.requires.room in
          let within = c.loop-id-test.true in omega (arith, at, same, room, within))
          (omega (arith, c.if-id-next.false)) (ap (λ l. l.slot) one.log_is ∙ one.seat)
          (ap (λ l. slot_state id l.state) one.log_is) c.open.ensures held,
      (let at = c.loop-id.invariant.2 in omega (arith, at)),
      keeping_on _ _ 0 c.loop-id.invariant.3 c.loop-id-test.true c.loop-id.invariant.0.stays c.loop-id.invariant.0.same c.in_ok-log.ensures.durable
          c.in_ok-log.ensures.synced,
    )

pub returns-in_err-log-clause-durable : goal.returns-in_err-log-clause-durable
returns-in_err-log-clause-durable g c = both_keep c.loop-id.invariant.0.stays c.loop-id.invariant.3.more c.in_err-log.ensures.durable

pub returns-in_err-insert-clause-durable : goal.returns-in_err-insert-clause-durable
returns-in_err-insert-clause-durable g c = both_keep c.loop-id.invariant.0.stays c.loop-id.invariant.3.more c.in_ok-log.ensures.durable
