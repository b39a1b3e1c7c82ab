use Rattle.std.proofs.Common.{refl, subst}
use Rattle.bk_store.specs.Transitions.{AddTransition}
use Rattle.bk_store.specs.declared.adding.AddKind.TheVariants.{Ordinary, Recovery}
use Rattle.bk_drive.specs.declared.step.Step.TheVariants as steps
use Rattle.bk_crash.proofs.PublishedEntries.{keeps_work, keeps_added, keeps_deleted, takes_lease}
use Rattle.bk_crash.proofs.interrupted.perform.Goals as goal

pub returns-in-Work-clause-published : goal.returns-in-Work-clause-published
returns-in-Work-clause-published g c = λ honest.
    let contents = c.survives_crash.ensures.survives_crash honest in
    rw c.in-Work.is (keeps_work _ _ contents.0 _ _ c.reveal_invariant.ensures honest contents.1 c.apply.ensures.transition c.apply.ensures.frame (c.apply.ensures.plain honest))

pub returns-in-Add-clause-published : goal.returns-in-Add-clause-published
returns-in-Add-clause-published g c = λ honest.
    let contents = c.survives_crash.ensures.survives_crash honest in
    rw c.in-Add.is (keeps_added _ _ contents.0 (steps.Add c.in-Add.payload) Ordinary c.in-Add.payload.items c.add.result (λ key reads. (reads, refl)) (λ dead. refl)
    c.reveal_invariant.ensures honest contents.1
    (subst (λ payload. AddTransition c.args.store.now Ordinary payload c.add.result c.add.new.self) c.deref.ensures.value c.add.ensures))

pub returns-in-AddRecovery-clause-published : goal.returns-in-AddRecovery-clause-published
returns-in-AddRecovery-clause-published g c = λ honest.
    let contents = c.survives_crash.ensures.survives_crash honest in
    rw c.in-AddRecovery.is (keeps_added _ _ contents.0 (steps.AddRecovery c.in-AddRecovery.payload) Recovery c.in-AddRecovery.payload.items c.add_recovery.result
    (λ key reads. (reads, refl)) (λ dead. refl) c.reveal_invariant.ensures honest contents.1
    (subst (λ payload. AddTransition c.args.store.now Recovery payload c.add_recovery.result c.add_recovery.new.self) c.deref-in-AddRecovery.ensures.value c.add_recovery.ensures))

pub returns-in-Delete-clause-published : goal.returns-in-Delete-clause-published
returns-in-Delete-clause-published g c = λ honest.
    let contents = c.survives_crash.ensures.survives_crash honest in
    rw c.in-Delete.is (keeps_deleted _ _ contents.0 c.in-Delete.ledger _ c.reveal_invariant.ensures honest contents.1 c.delete.ensures)

pub returns-in-Work-clause-transition : goal.returns-in-Work-clause-transition
returns-in-Work-clause-transition g c = rw c.in-Work.is (c.apply.result, c.apply.ensures.transition)

pub returns-in-Add-clause-transition : goal.returns-in-Add-clause-transition
returns-in-Add-clause-transition g c =
    rw c.in-Add.is (c.add.result, subst (λ payload. AddTransition c.args.store.now Ordinary payload c.add.result c.add.new.self) c.deref.ensures.value c.add.ensures)

pub returns-in-AddRecovery-clause-transition : goal.returns-in-AddRecovery-clause-transition
returns-in-AddRecovery-clause-transition g c =
    rw c.in-AddRecovery.is (c.add_recovery.result, subst (λ payload. AddTransition c.args.store.now Recovery payload c.add_recovery.result c.add_recovery.new.self) c.deref-in-AddRecovery.ensures.value c.add_recovery.ensures)

pub returns-in-Take-clause-transition : goal.returns-in-Take-clause-transition
returns-in-Take-clause-transition g c = rw c.in-Take.is (takes_lease _ _ _ _ _ _ _ c.take.ensures)

pub returns-in-Delete-clause-transition : goal.returns-in-Delete-clause-transition
returns-in-Delete-clause-transition g c = rw c.in-Delete.is (c.delete.result, c.delete.ensures)

pub returns-in-Fence-clause-transition : goal.returns-in-Fence-clause-transition
returns-in-Fence-clause-transition g c = rw c.in-Fence.is (c.fence.result, c.fence.ensures)
