use Rattle.std.proofs.Common.{◌≡◌, ◌≤◌, length, take, vec_len, vec_capacity}
use Rattle.bk_disk.specs.Disk.{AreSound}
use Rattle.bk_drive.specs.Recorded.{Performs}
use Rattle.bk_drive.proofs.Recording.{Asked}
use Rattle.bk_drive.proofs.recorded.perform.Given as goal

abbrev pub invariant-loop-step : goal.invariant-loop-step
invariant-loop-step g l = record {
  counted : vec_len l.answers ≡ l.step-index;
  room : length l.steps ≤ vec_capacity l.answers;
  asked : Asked g.R.Recorder.record_gives l.initial.recorder l.steps l.step-index l.recorder;
  made : Performs (AreSound g.D.View.LogView.sound) l.initial.store l.initial.readers (take l.step-index l.steps) l.answers.items l.store l.readers;
}
