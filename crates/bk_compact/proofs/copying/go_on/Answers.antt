use Rattle.std.proofs.Common.{◌≡◌, ℕ, Some, None, Ok, Err, sym, ap, subst, ◌∙◌}
use Rattle.std.proofs.lemmas.Option.{same_Some}
use Rattle.bk_store.specs.Logs.{last_view, view_of}
use Rattle.bk_store.specs.Jobs.{Job}
use Rattle.bk_compact.specs.declared.answer.CopyAnswer.TheVariants as copies
use Rattle.bk_store.specs.declared.step_fault.StepFault.TheVariants as step_faults
use Rattle.bk_compact.specs.declared.entries.Stopped.TheVariants as stops
use Rattle.bk_compact.specs.JobSteps.{IsCopying}
use Rattle.bk_compact.proofs.Turns.{taken_copying, copied_turn, none_turn, memory_turn, unread_turn}
use Rattle.bk_compact.proofs.Turns.{failed_turn, odd_turn, told_next, copy_caused, failed_once, never_unsound}
use Rattle.bk_compact.proofs.copying.go_on.Goals as goal

pub copy_entries-requires-clause-copying : goal.copy_entries-requires-clause-copying
copy_entries-requires-clause-copying g c κs within =
    let job = c.requires.runs.0 in
    let same = same_Some c.in-Some-take_job.taken.job job (c.in-Some-take_job.ensures.job ∙ c.requires.runs.1.runs) in
    subst (IsCopying c.take_job.new.self) (sym same)
    (taken_copying c.args.store.now c.reveal_invariant.ensures job c.requires.runs.1 c.take_job.new.self c.take_job.ensures.left)

pub returns-in-Ok-None-clause-transition : goal.returns-in-Ok-None-clause-transition
returns-in-Ok-None-clause-transition g c =
    let s = c.args.store.now in
    let job = c.requires.runs.0 in
    let same = same_Some c.in-Some-take_job.taken.job job (c.in-Some-take_job.ensures.job ∙ c.requires.runs.1.runs) in
    let next = told_next s c.take_job.new.self job c.in-Some-take_job.taken.job c.args.count c.copy_entries.new.store c.copy_entries.new.job
    c.take_job.ensures.left same _ (Ok None) (ap Ok c.in-Ok-None.field-0-is) c.in-Ok-None.ensures.transition in
    none_turn s job c.requires.runs.1 c.args.count c.copy_entries.new.store c.copy_entries.new.job c.set_job.new.self next c.set_job.ensures

pub returns-in-Ok-None-clause-sound : goal.returns-in-Ok-None-clause-sound
returns-in-Ok-None-clause-sound g c = λ _. copy_caused c.args.store.now c.args.count (Ok copies.AtEnd) c.set_job.new.self (returns-in-Ok-None-clause-transition g c) (λ wrong. cc)

pub returns-in-Ok-Some-clause-transition : goal.returns-in-Ok-Some-clause-transition
returns-in-Ok-Some-clause-transition g c =
    let s = c.args.store.now in
    let job = c.requires.runs.0 in
    let same = same_Some c.in-Some-take_job.taken.job job (c.in-Some-take_job.ensures.job ∙ c.requires.runs.1.runs) in
    let next = told_next s c.take_job.new.self job c.in-Some-take_job.taken.job c.args.count c.copy_entries.new.store c.copy_entries.new.job
    c.take_job.ensures.left same _ (Ok (Some c.in-Ok-Some.copied)) (ap Ok c.in-Ok-Some.field-0-is) c.in-Ok-Some.ensures.transition in
    copied_turn s job c.requires.runs.1 c.args.count c.copy_entries.new.store c.copy_entries.new.job c.set_job-in-Ok-Some.new.self
    c.in-Ok-Some.copied next.1 next.0 c.set_job-in-Ok-Some.ensures

pub returns-in-Ok-Some-clause-sound : goal.returns-in-Ok-Some-clause-sound
returns-in-Ok-Some-clause-sound g c = λ _. copy_caused c.args.store.now c.args.count (Ok (copies.Copied c.in-Ok-Some.copied)) c.set_job-in-Ok-Some.new.self (returns-in-Ok-Some-clause-transition g c) (λ wrong. cc)

pub returns-in-Err-Memory-clause-transition : goal.returns-in-Err-Memory-clause-transition
returns-in-Err-Memory-clause-transition g c =
    let s = c.args.store.now in
    let job = c.requires.runs.0 in
    let same = same_Some c.in-Some-take_job.taken.job job (c.in-Some-take_job.ensures.job ∙ c.requires.runs.1.runs) in
    let next = told_next s c.take_job.new.self job c.in-Some-take_job.taken.job c.args.count c.copy_entries.new.store c.copy_entries.new.job
    c.take_job.ensures.left same _ (Err (stops.Memory c.in-Err-Memory.done)) (ap Err c.in-Err-Memory.field-0-is) c.in-Err-Memory.ensures.transition in
    memory_turn s job c.requires.runs.1 c.args.count c.copy_entries.new.store c.copy_entries.new.job c.set_job-in-Err-Memory.new.self
    c.in-Err-Memory.done next.1 next.0 c.set_job-in-Err-Memory.ensures

pub returns-in-Err-Memory-clause-sound : goal.returns-in-Err-Memory-clause-sound
returns-in-Err-Memory-clause-sound g c = λ _. copy_caused c.args.store.now c.args.count (Err (step_faults.Memory c.in-Err-Memory.done)) c.set_job-in-Err-Memory.new.self (returns-in-Err-Memory-clause-transition g c) (λ wrong. cc)

pub returns-in-Err-Unread-clause-transition : goal.returns-in-Err-Unread-clause-transition
returns-in-Err-Unread-clause-transition g c =
    let s = c.args.store.now in
    let job = c.requires.runs.0 in
    let same = same_Some c.in-Some-take_job.taken.job job (c.in-Some-take_job.ensures.job ∙ c.requires.runs.1.runs) in
    let next = told_next s c.take_job.new.self job c.in-Some-take_job.taken.job c.args.count c.copy_entries.new.store c.copy_entries.new.job
    c.take_job.ensures.left same _ (Err stops.Unread) (ap Err c.in-Err-Unread.field-0-is) c.in-Err-Unread.ensures.transition in
    unread_turn s job c.requires.runs.1 c.args.count c.copy_entries.new.store c.copy_entries.new.job c.set_job-in-Err-Unread.new.self next.0
    c.set_job-in-Err-Unread.ensures

pub returns-in-Err-Unread-clause-sound : goal.returns-in-Err-Unread-clause-sound
returns-in-Err-Unread-clause-sound g c = λ sound.
    let s = c.args.store.now in
    let job = c.requires.runs.0 in
    let same = same_Some c.in-Some-take_job.taken.job job (c.in-Some-take_job.ensures.job ∙ c.requires.runs.1.runs) in
    let next = told_next s c.take_job.new.self job c.in-Some-take_job.taken.job c.args.count c.copy_entries.new.store c.copy_entries.new.job
    c.take_job.ensures.left same _ (Err stops.Unread) (ap Err c.in-Err-Unread.field-0-is) c.in-Err-Unread.ensures.transition in
    let own : c.in-Some.job.now ≡ job = same_Some c.in-Some.job.now job (c.in-Some.ensures ∙ c.requires.runs.1.runs) in
    let last : last_view s.logs job.source
    ≡ Some (view_of g.D.View.LogView.bytes g.D.View.LogView.honest g.D.View.LogView.sound c.in-Some-log_view.view.now.value) =
    subst (λ (n : ℕ). last_view s.logs n
    ≡ Some (view_of g.D.View.LogView.bytes g.D.View.LogView.honest g.D.View.LogView.sound c.in-Some-log_view.view.now.value))
    (c.source.ensures ∙ ap (λ (j : Job). j.source) own) (sym c.in-Some-log_view.ensures) in
    absurd (never_unsound g.D.View.LogView.bytes g.D.View.LogView.honest g.D.View.LogView.sound sound s job c.in-Some-log_view.view.now.value last next.0.1)

pub returns-in-Err-Failed-clause-transition : goal.returns-in-Err-Failed-clause-transition
returns-in-Err-Failed-clause-transition g c =
    let s = c.args.store.now in
    let job = c.requires.runs.0 in
    let same = same_Some c.in-Some-take_job.taken.job job (c.in-Some-take_job.ensures.job ∙ c.requires.runs.1.runs) in
    let next = told_next s c.take_job.new.self job c.in-Some-take_job.taken.job c.args.count c.copy_entries.new.store c.copy_entries.new.job
    c.take_job.ensures.left same _ (Err stops.Failed) (ap Err c.in-Err-Failed.field-0-is) c.in-Err-Failed.ensures.transition in
    failed_turn s job c.requires.runs.1 c.args.count c.copy_entries.new.store c.copy_entries.new.job c.copy_entries.new.store next.0

pub returns-in-Err-Failed-clause-sound : goal.returns-in-Err-Failed-clause-sound
returns-in-Err-Failed-clause-sound g c = λ _.
    let s = c.args.store.now in
    let job = c.requires.runs.0 in
    let same = same_Some c.in-Some-take_job.taken.job job (c.in-Some-take_job.ensures.job ∙ c.requires.runs.1.runs) in
    let next = told_next s c.take_job.new.self job c.in-Some-take_job.taken.job c.args.count c.copy_entries.new.store c.copy_entries.new.job
    c.take_job.ensures.left same _ (Err stops.Failed) (ap Err c.in-Err-Failed.field-0-is) c.in-Err-Failed.ensures.transition in
    failed_once s job c.args.count c.copy_entries.new.store c.copy_entries.new.job next.0

pub returns-clause-transition : goal.returns-clause-transition
returns-clause-transition g c =
    let s = c.args.store.now in
    let job = c.requires.runs.0 in
    let same = same_Some c.in-Some-take_job.taken.job job (c.in-Some-take_job.ensures.job ∙ c.requires.runs.1.runs) in
    let next = told_next s c.take_job.new.self job c.in-Some-take_job.taken.job c.args.count c.copy_entries.new.store c.copy_entries.new.job
    c.take_job.ensures.left same _ (Err stops.Odd) (ap Err c.in-Err-Odd.field-0-is) c.in-Err-Odd.ensures.transition in
    odd_turn s job c.requires.runs.1 c.args.count c.copy_entries.new.store c.copy_entries.new.job c.copy_entries.new.store next.0

pub returns-clause-sound : goal.returns-clause-sound
returns-clause-sound g c = λ _.
    copy_caused c.args.store.now c.args.count (Err step_faults.Odd) c.copy_entries.new.store (returns-clause-transition g c) (λ wrong. cc)
