use Rattle.std.proofs.lemmas.Result.{IfOk-weaker}
use Rattle.bk_drive.proofs.Recording.{all_recorded}
use Rattle.bk_drive.proofs.run.drive.Goals as goal

pub returns-clause-headline : goal.returns-clause-headline
returns-clause-headline g c = λ honest.
    IfOk-weaker c.drive_recorded.result _ _ (λ ran run. all_recorded _ _ _ _ _ _ _ _ _ _ run honest) c.drive_recorded.ensures.headline
