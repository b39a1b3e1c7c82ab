use Rattle.std.proofs.Common.{refl}
use Rattle.std.specs.Prelude.{Result, Ok, Err, OnOk}
use Rattle.bk_survey.proofs.survey.SurveyorTakesLogs.end.Goals.{in-Some+in_ok-of_log-in-Some, in-None}
use Rattle.bk_survey.proofs.survey.SurveyorTakesLogs.end.Goals as goal

anyhow : {T E P : Type 0} (result : Result T E) → P → OnOk result P
anyhow (Ok value) holds = holds
anyhow (Err fault) holds = tt

pub returns-clause-fault : goal.returns-clause-fault
returns-clause-fault c = anyhow c.end.result (elim c.match-fault.branch [
  | in-Some+in_ok-of_log-in-Some w ↦ rw (w.in-Some.is, w.self-is) w.in_ok-of_log-in-Some.ensures.fault
  | in-None w ↦ rw (w.in-None.is, w.self-is) refl
])
