use denote.Param.Send.{sendable}
use Rattle.bk_disk.proofs.dir_disk.DirDisk.TheSendSync.{the_send}
use Rattle.bk_drive_tests.proofs.tests.disks.sealed.Goals as goal

pub drive-requires-send-D : goal.drive-requires-send-D
drive-requires-send-D c κs = search (the_send, sendable)
