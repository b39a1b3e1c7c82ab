use Rattle.std.proofs.Common.{refl}
use Rattle.bk_script.proofs.Runs.{still_runs}
use Rattle.bk_script.proofs.run.run_script.Goals as goal

-- A disk in memory is honest and never fails, and a new one has no files.
pub returns-in-Ok-clause-done : goal.returns-in-Ok-clause-done
returns-in-Ok-clause-done g c = λ _.
    still_runs (λ _. refl) (λ _. ((λ disk. refl), (λ view. refl))) c.new-disk.ensures c.in-Ok.ensures.done
