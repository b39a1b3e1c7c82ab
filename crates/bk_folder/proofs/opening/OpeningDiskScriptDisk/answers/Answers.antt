use denote.Param.Send.{sendable}
use Rattle.std.proofs.Common.{Err, ap, ◌∙◌}
use Rattle.std.proofs.lemmas.Bool.{false≢true}
use Rattle.std.proofs.lemmas.Result.{err_from_is_err_and}
use Rattle.bk_folder.proofs.opening.OpeningDisk.TheSendSync.{the_send}
use Rattle.bk_folder.proofs.opening_view.OpeningView.TheSendSync as of_view
use Rattle.bk_folder.proofs.opening.OpeningDiskScriptDisk.answers.Goals as goal

pub drive_recorded-requires-send-D : goal.drive_recorded-requires-send-D
drive_recorded-requires-send-D c κs = search (the_send, sendable)

pub drive_recorded-requires-send-D-View : goal.drive_recorded-requires-send-D-View
drive_recorded-requires-send-D-View c κs = search (of_view.the_send, sendable)

pub drive_recorded-requires-sync-D-View : goal.drive_recorded-requires-sync-D-View
drive_recorded-requires-sync-D-View c κs = search (of_view.the_sync, sendable)

pub returns : goal.returns
returns c = record {
  each = c.in_ok-ran.ensures.one_answer;
  allowed = λ honest. absurd (false≢true honest);
  unfailing = λ never. c.in_ok-ran.ensures.unfailing never.0 never.1;
}

pub returns-in_err-ran : goal.returns-in_err-ran
returns-in_err-ran c =
    let told = err_from_is_err_and c.from_residual.result c.from_residual.ensures.1 in
    rw (told.1 ∙ ap Err told.2) (λ never sound is. c.in_err-ran.ensures.unfailing_opening never sound (cc))
