use Rattle.std.proofs.Common.{IsTrue, IsErrOf, IfErr, Err, arith, sym, ap, subst, ◌∙◌}
use Rattle.std.proofs.lemmas.Result.{err_from_is_err_and}
use Rattle.std.proofs.lemmas.List.{length-map}
use Rattle.bk_store.specs.Opening.{OpenFails}
use Rattle.bk_store.specs.declared.answer.OpenFault.TheVariants.{Disk}
use Rattle.bk_drive.specs.declared.step.Step.TheVariants.{Fence}
use Rattle.bk_drive.proofs.Driving.{performs_both, headline_from, counted_never, settings_allowed}
use Rattle.bk_drive.proofs.Leases.{leases_at}
use Rattle.bk_drive.proofs.Recording.{none_is_disk, one_each, records_few}
use Rattle.bk_drive.proofs.recorded.drive_recorded.Goals as goal

pub returns-in_err-store-clause-fails : goal.returns-in_err-store-clause-fails
returns-in_err-store-clause-fails g c =
    let told = err_from_is_err_and c.from_residual.result c.from_residual.ensures.1 in
    subst (λ r. IfErr r (λ fault. IsTrue (g.D.LogDisk.honest c.args.disk) → OpenFails (g.D.LogDisk.files c.args.disk) c.args.settings fault))
    (sym (told.1 ∙ ap Err told.2)) c.in_err-store.ensures.fails

pub returns-in_err-store-clause-unfailing_opening : goal.returns-in_err-store-clause-unfailing_opening
returns-in_err-store-clause-unfailing_opening g c = λ never sound.
    let told = err_from_is_err_and c.from_residual.result c.from_residual.ensures.1 in
    subst (λ r. ¬ (IsErrOf r Disk)) (sym (told.1 ∙ ap Err told.2)) (λ is. c.in_err-store.ensures.unfailing never sound (cc))

pub fence_all-requires-after_bounds : goal.fence_all-requires-after_bounds
fence_all-requires-after_bounds g c κs within = (omega arith, leases_at _ _ c.new-readers.ensures)

pub returns-in_err-fence_all-clause-fails : goal.returns-in_err-fence_all-clause-fails
returns-in_err-fence_all-clause-fails g c =
    let told = err_from_is_err_and c.from_residual-in_err-fence_all.result c.from_residual-in_err-fence_all.ensures.1 in
    subst (λ r. IfErr r (λ fault. IsTrue (g.D.LogDisk.honest c.args.disk) → OpenFails (g.D.LogDisk.files c.args.disk) c.args.settings fault))
    (sym (told.1 ∙ ap Err (told.2 ∙ c.in_err-fence_all.ensures.only))) (λ honest. settings_allowed _ c.args.settings c.reveal_invariant.ensures c.in_ok-store.ensures.opened.settings_are)

pub returns-in_err-answers-clause-fails : goal.returns-in_err-answers-clause-fails
returns-in_err-answers-clause-fails g c =
    let told = err_from_is_err_and c.from_residual-in_err-answers.result c.from_residual-in_err-answers.ensures.1 in
    subst (λ r. IfErr r (λ fault. IsTrue (g.D.LogDisk.honest c.args.disk) → OpenFails (g.D.LogDisk.files c.args.disk) c.args.settings fault))
    (sym (told.1 ∙ ap Err (told.2 ∙ c.in_err-answers.ensures.only.0))) (λ honest. settings_allowed _ c.args.settings c.reveal_invariant.ensures c.in_ok-store.ensures.opened.settings_are)

pub returns-clause-headline : goal.returns-clause-headline
returns-clause-headline g c =
    let fences = c.in_ok-fence_all.ensures.ok in
    let run = c.in_ok-answers.ensures.ok in
    record {
      performed = run.performed;
      told = run.told;
      recorded = run.recorded;
      each = run.made.each;
      answered = run.answered;
      fences = fences.0;
      each_fence = fences.2.each ∙ length-map c.args.fenced.now (λ ledger. Fence ledger);
      stand = fences.1;
      headline = λ honest. headline_from _ _ _ _ _ _ _ _ _ _ _ honest c.in_ok-store.ensures.honest c.in_ok-store.ensures.opened c.new-readers.ensures
          (performs_both _ _ _ _ _ _ _ _ _ _ _ fences.2 run.made) c.reveal_invariant-2.ensures;
    }

pub returns-clause-unfailing : goal.returns-clause-unfailing
returns-clause-unfailing g c = λ never sound.
    let run = c.in_ok-answers.ensures.ok in
    none_is_disk c.args.steps.now run.told _ (counted_never _ _ run.told (run.made.counted sound) (sym c.disk.ensures.failures ∙ never c.disk.result.now)) run.answered

pub returns-clause-one_answer : goal.returns-clause-one_answer
returns-clause-one_answer g c =
    let run = c.in_ok-answers.ensures.ok in
    let few = records_few _ _ _ _ _ run.recorded in
    one_each c.args.steps.now run.told _ (omega (arith, run.made.each, few)) run.answered
