use denote.Param.Send.{sendable}
use Rattle.bk_disk.proofs.dir_disk.DirDisk.TheSendSync.{the_send}
use Rattle.bk_script.proofs.disk.DirDiskScriptDisk.answers.Goals as goal

pub drive-requires-send-D : goal.drive-requires-send-D
drive-requires-send-D c κs = search (the_send, sendable)

pub returns : goal.returns
returns c =
    let ran = c.in_ok-ran.ran in
    record {
      each = c.in_ok-ran.ensures.one_answer;
      allowed = λ honest. record { store = ran.store; readers = ran.readers; headline = c.in_ok-ran.ensures.headline honest };
      unfailing = λ never. c.in_ok-ran.ensures.unfailing never.0 never.1;
    }
