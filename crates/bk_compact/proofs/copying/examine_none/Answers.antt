use Rattle.std.proofs.Common.{Bool, Err, sym, subst, ◌∙◌, arith}
use Rattle.std.proofs.lemmas.Option.{same_Some}
use Rattle.bk_store.specs.declared.job.Phase.TheVariants.{Copy}
use Rattle.bk_store.specs.declared.step_fault.StepFault.TheVariants as step_faults
use Rattle.bk_compact.specs.declared.scanning.Unread.{Unread}
use Rattle.bk_compact.specs.Compacting.{IsRunning, SourceFails}
use Rattle.bk_compact.specs.JobSteps.{IsAtEnd, fault_of_unread}
use Rattle.bk_compact.proofs.Stored.{kept_job}
use Rattle.bk_compact.proofs.Turns.{copy_caused, refused_turn, nothing_turn, unsound_turn, abandoned_turn}
use Rattle.bk_compact.proofs.copying.examine_none.Goals as goal

pub is_at_end-requires-after_bounds : goal.is_at_end-requires-after_bounds
is_at_end-requires-after_bounds g c κs within = kept_job c.args.store.now c.reveal_invariant.ensures c.in-Some.job.now (sym c.in-Some.ensures)

pub returns-then-count-eq0-clause-transition : goal.returns-then-count-eq0-clause-transition
returns-then-count-eq0-clause-transition g c =
    let s = c.args.store.now in
    let job = c.in-Some.job.now in
    let same = same_Some c.requires.runs.0 job (sym c.requires.runs.1.runs ∙ sym c.in-Some.ensures) in
    let running : IsRunning s Copy job = subst (IsRunning s Copy) same c.requires.runs.1 in
    nothing_turn s job running c.args.count (omega arith)
    (subst (λ (b : Bool). IsAtEnd s job b) c.in-Ok-false.field-0-test c.in-Ok-false.ensures.ok)

pub returns-else-count-eq0-clause-transition : goal.returns-else-count-eq0-clause-transition
returns-else-count-eq0-clause-transition g c =
    let s = c.args.store.now in
    let job = c.in-Some.job.now in
    let same = same_Some c.requires.runs.0 job (sym c.requires.runs.1.runs ∙ sym c.in-Some.ensures) in
    let running : IsRunning s Copy job = subst (IsRunning s Copy) same c.requires.runs.1 in
    refused_turn s job running c.args.count (subst (λ (b : Bool). IsAtEnd s job b) c.in-Ok-false.field-0-test c.in-Ok-false.ensures.ok)

pub returns-in-Err-Disk-clause-transition : goal.returns-in-Err-Disk-clause-transition
returns-in-Err-Disk-clause-transition g c =
    let s = c.args.store.now in
    let job = c.in-Some.job.now in
    let same = same_Some c.requires.runs.0 job (sym c.requires.runs.1.runs ∙ sym c.in-Some.ensures) in
    let running : IsRunning s Copy job = subst (IsRunning s Copy) same c.requires.runs.1 in
    unsound_turn s job running c.args.count (subst (λ (r : Unread). SourceFails s job (fault_of_unread r)) c.in-Err-Disk.field-0-is c.in-Err-Disk.ensures.fails)

pub returns-in-Err-Odd-clause-transition : goal.returns-in-Err-Odd-clause-transition
returns-in-Err-Odd-clause-transition g c =
    let s = c.args.store.now in
    let job = c.in-Some.job.now in
    let same = same_Some c.requires.runs.0 job (sym c.requires.runs.1.runs ∙ sym c.in-Some.ensures) in
    let running : IsRunning s Copy job = subst (IsRunning s Copy) same c.requires.runs.1 in
    let odd = subst (λ (r : Unread). SourceFails s job (fault_of_unread r)) c.in-Err-Odd.field-0-is c.in-Err-Odd.ensures.fails in
    abandoned_turn s job running c.args.count c.abandon.new.store odd (c.abandon.ensures.transition job running)

pub returns-in-Err-Odd-clause-sound : goal.returns-in-Err-Odd-clause-sound
returns-in-Err-Odd-clause-sound g c = λ _.
    copy_caused c.args.store.now c.args.count (Err step_faults.Odd) c.abandon.new.store (returns-in-Err-Odd-clause-transition g c) (λ wrong. cc)
