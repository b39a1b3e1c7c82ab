use Rattle.std.proofs.Common.{subst}
use Rattle.bk_store.specs.Transitions.{AddTransition}
use Rattle.bk_store.specs.declared.adding.AddKind.TheVariants.{Ordinary, Recovery}
use Rattle.bk_drive.specs.Machine.MachineTransition.{added, recovered, deleted, fenced, taken, fetched, released, asked, counted}
use Rattle.bk_drive.proofs.Leases.{leases_same, shut_same, take_leases, take_shut, release_leases}
use Rattle.bk_drive.proofs.Runs.{add_logs, delete_logs, fence_logs}
use Rattle.bk_drive.proofs.Simulation.{turn_worked, goes_worked, goes_added, goes_recovered, goes_deleted, goes_fenced, goes_taken, goes_fetched, goes_released, goes_asked, goes_counted}
use Rattle.bk_drive.proofs.run.turn.Goals as goal

pub returns-in-Work-clause-transition : goal.returns-in-Work-clause-transition
returns-in-Work-clause-transition g c = rw c.in-Work.is (turn_worked _ _ _ _ _ _ c.work_on.ensures.readers c.work_on.ensures.transition c.work_on.ensures.unread)

pub returns-in-Add-clause-transition : goal.returns-in-Add-clause-transition
returns-in-Add-clause-transition g c =
    rw c.in-Add.is (added (subst (λ payload. AddTransition c.args.store.now Ordinary payload c.add.result c.add.new.store) c.deref.ensures.value c.add.ensures))

pub returns-in-AddRecovery-clause-transition : goal.returns-in-AddRecovery-clause-transition
returns-in-AddRecovery-clause-transition g c =
    rw c.in-AddRecovery.is (recovered (subst (λ payload. AddTransition c.args.store.now Recovery payload c.add-in-AddRecovery.result c.add-in-AddRecovery.new.store) c.deref-in-AddRecovery.ensures.value c.add-in-AddRecovery.ensures))

pub returns-in-Delete-clause-transition : goal.returns-in-Delete-clause-transition
returns-in-Delete-clause-transition g c = rw c.in-Delete.is (deleted c.delete.ensures)

pub returns-in-Fence-clause-transition : goal.returns-in-Fence-clause-transition
returns-in-Fence-clause-transition g c = rw c.in-Fence.is (fenced c.fence.ensures)

pub returns-in-Take-clause-transition : goal.returns-in-Take-clause-transition
returns-in-Take-clause-transition g c = rw c.in-Take.is (taken c.take.ensures)

pub returns-in-Fetch-clause-transition : goal.returns-in-Fetch-clause-transition
returns-in-Fetch-clause-transition g c = rw c.in-Fetch.is (fetched c.fetch_by.ensures.transition)

pub returns-in-Release-clause-transition : goal.returns-in-Release-clause-transition
returns-in-Release-clause-transition g c = rw c.in-Release.is (released c.release.ensures)

pub returns-in-Add-clause-leases : goal.returns-in-Add-clause-leases
returns-in-Add-clause-leases g c = leases_same _ _ (add_logs c.args.store.now c.add.new.store Ordinary _ _ c.add.ensures).keeper _ c.requires

pub returns-in-AddRecovery-clause-leases : goal.returns-in-AddRecovery-clause-leases
returns-in-AddRecovery-clause-leases g c = leases_same _ _ (add_logs c.args.store.now c.add-in-AddRecovery.new.store Recovery _ _ c.add-in-AddRecovery.ensures).keeper _ c.requires

pub returns-in-Delete-clause-leases : goal.returns-in-Delete-clause-leases
returns-in-Delete-clause-leases g c = leases_same _ _ (delete_logs c.args.store.now c.delete.new.self _ _ c.delete.ensures).keeper _ c.requires

pub returns-in-Fence-clause-leases : goal.returns-in-Fence-clause-leases
returns-in-Fence-clause-leases g c = leases_same _ _ (fence_logs c.args.store.now c.fence.new.self _ _ c.fence.ensures).keeper _ c.requires

pub returns-in-Take-clause-leases : goal.returns-in-Take-clause-leases
returns-in-Take-clause-leases g c = take_leases _ _ _ _ _ c.reveal_invariant.ensures c.take.ensures c.requires

pub returns-in-Release-clause-leases : goal.returns-in-Release-clause-leases
returns-in-Release-clause-leases g c = release_leases _ _ _ _ _ c.release.ensures c.requires

pub returns-in-Add-clause-closed : goal.returns-in-Add-clause-closed
returns-in-Add-clause-closed g c = shut_same (add_logs c.args.store.now c.add.new.store Ordinary _ _ c.add.ensures)

pub returns-in-AddRecovery-clause-closed : goal.returns-in-AddRecovery-clause-closed
returns-in-AddRecovery-clause-closed g c = shut_same (add_logs c.args.store.now c.add-in-AddRecovery.new.store Recovery _ _ c.add-in-AddRecovery.ensures)

pub returns-in-Delete-clause-closed : goal.returns-in-Delete-clause-closed
returns-in-Delete-clause-closed g c = shut_same (delete_logs c.args.store.now c.delete.new.self _ _ c.delete.ensures)

pub returns-in-Fence-clause-closed : goal.returns-in-Fence-clause-closed
returns-in-Fence-clause-closed g c = shut_same (fence_logs c.args.store.now c.fence.new.self _ _ c.fence.ensures)

pub returns-in-Take-clause-closed : goal.returns-in-Take-clause-closed
returns-in-Take-clause-closed g c = take_shut _ _ _ _ _ c.take.ensures

pub returns-in-Work-clause-closes : goal.returns-in-Work-clause-closes
returns-in-Work-clause-closes g c = rw c.in-Work.is c.work_on.ensures.closes

pub returns-in-Work-clause-plain : goal.returns-in-Work-clause-plain
returns-in-Work-clause-plain g c = λ honest.
    rw c.in-Work.is (goes_worked _ _ _ _ _ _ c.work_on.ensures.readers c.work_on.ensures.transition (c.work_on.ensures.plain honest) c.work_on.ensures.leases)

pub returns-in-Add-clause-plain : goal.returns-in-Add-clause-plain
returns-in-Add-clause-plain g c = λ honest.
    rw c.in-Add.is (goes_added _ _ c.reveal_invariant.ensures honest _
    (leases_same _ _ (add_logs c.args.store.now c.add.new.store Ordinary _ _ c.add.ensures).keeper _ c.requires) _ _
    (subst (λ payload. AddTransition c.args.store.now Ordinary payload c.add.result c.add.new.store) c.deref.ensures.value c.add.ensures))

pub returns-in-AddRecovery-clause-plain : goal.returns-in-AddRecovery-clause-plain
returns-in-AddRecovery-clause-plain g c = λ honest.
    rw c.in-AddRecovery.is (goes_recovered _ _ c.reveal_invariant.ensures honest _
    (leases_same _ _ (add_logs c.args.store.now c.add-in-AddRecovery.new.store Recovery _ _ c.add-in-AddRecovery.ensures).keeper _ c.requires) _ _
    (subst (λ payload. AddTransition c.args.store.now Recovery payload c.add-in-AddRecovery.result c.add-in-AddRecovery.new.store) c.deref-in-AddRecovery.ensures.value c.add-in-AddRecovery.ensures))

pub returns-in-Delete-clause-plain : goal.returns-in-Delete-clause-plain
returns-in-Delete-clause-plain g c = λ honest.
    rw c.in-Delete.is (goes_deleted _ _ c.reveal_invariant.ensures honest _
    (leases_same _ _ (delete_logs c.args.store.now c.delete.new.self _ _ c.delete.ensures).keeper _ c.requires) _ _ c.delete.ensures)

pub returns-in-Fence-clause-plain : goal.returns-in-Fence-clause-plain
returns-in-Fence-clause-plain g c = λ honest.
    rw c.in-Fence.is (goes_fenced _ _ c.reveal_invariant.ensures honest _
    (leases_same _ _ (fence_logs c.args.store.now c.fence.new.self _ _ c.fence.ensures).keeper _ c.requires) _ _ c.fence.ensures)

pub returns-in-Take-clause-plain : goal.returns-in-Take-clause-plain
returns-in-Take-clause-plain g c = λ honest.
    rw c.in-Take.is (goes_taken _ _ _ _ _ _ _ c.reveal_invariant.ensures honest c.take.ensures (take_leases _ _ _ _ _ c.reveal_invariant.ensures c.take.ensures c.requires))

pub returns-in-Fetch-clause-plain : goal.returns-in-Fetch-clause-plain
returns-in-Fetch-clause-plain g c = λ honest. rw c.in-Fetch.is (goes_fetched _ _ _ _ c.fetch_by.ensures.transition)

pub returns-in-Release-clause-plain : goal.returns-in-Release-clause-plain
returns-in-Release-clause-plain g c = λ honest.
    rw c.in-Release.is (goes_released _ _ _ _ _ c.release.ensures (release_leases _ _ _ _ _ c.release.ensures c.requires))

pub returns-in-Read-clause-transition : goal.returns-in-Read-clause-transition
returns-in-Read-clause-transition g c = rw c.in-Read.is (asked c.read_ledgers.ensures)

pub returns-in-Read-clause-plain : goal.returns-in-Read-clause-plain
returns-in-Read-clause-plain g c = λ honest. rw c.in-Read.is (goes_asked _ _ c.reveal_invariant.ensures honest _ _ c.read_ledgers.ensures)

pub returns-in-Stats-clause-transition : goal.returns-in-Stats-clause-transition
returns-in-Stats-clause-transition g c = rw c.in-Stats.is (counted c.count.ensures)

pub returns-in-Stats-clause-plain : goal.returns-in-Stats-clause-plain
returns-in-Stats-clause-plain g c = λ honest. rw c.in-Stats.is (goes_counted _ _ _ c.count.ensures)
