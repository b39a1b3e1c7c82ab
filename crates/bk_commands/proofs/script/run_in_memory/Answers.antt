use Rattle.std.proofs.Common.{refl, subst}
use Rattle.bk_script.specs.Run.{RunsScript}
use Rattle.bk_script.proofs.Runs.{still_runs}
use Rattle.bk_commands.proofs.script.run_in_memory.Goals as goal

-- A disk in memory does what its calls say, and never fails; a new one has no files.
pub returns-in-Ok-clause-done : goal.returns-in-Ok-clause-done
returns-in-Ok-clause-done g c = λ _.
    subst (λ dead. RunsScript c.args.call.now.settings dead (g.R.Read.remaining c.args.reader.now) (g.R.Read.remaining c.run_on.new.reader)
    (g.W.Write.contents c.args.writer.now) (g.W.Write.contents c.run_on.new.writer)) c.deref.ensures.value
    (still_runs (λ _. refl) (λ _. ((λ disk. refl), (λ view. refl))) c.new-disk.ensures c.in-Ok.ensures.done)
