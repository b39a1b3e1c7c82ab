use Rattle.std.proofs.Common.{arith, ap, ◌∙◌, ◌∷◌, [], ◌++◌, append_assoc}
use Rattle.std.proofs.lemmas.Grind.{common_steps}
use Rattle.std.proofs.lemmas.List.{replicate-append-replicate}
use Rattle.bk_drive.specs.declared.step.Answer.TheVariants.{Unrecorded}
use Rattle.bk_drive.proofs.recorded.push_unrecorded.Goals as goal

pub loop-preserved : goal.loop-preserved
loop-preserved c =
    let items = rw c.unwrap.ensures at c.push.ensures.items in
    record {
      counted = grind (arith, common_steps);
      room = grind (arith, common_steps);
      pushed = items ∙ ap (λ l. l ++ Unrecorded ∷ []) c.loop.invariant.pushed ∙ append_assoc c.args.answers.now.items _ _
          ∙ ap (λ l. c.args.answers.now.items ++ l) (replicate-append-replicate c.loop.counter 1 Unrecorded);
    }
