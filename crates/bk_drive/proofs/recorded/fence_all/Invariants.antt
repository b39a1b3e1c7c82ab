use Rattle.std.proofs.Common.{List, map, take}
use Rattle.bk_disk.specs.Disk.{AreSound}
use Rattle.bk_drive.specs.Recorded.{AreFenced, Performs}
use Rattle.bk_drive.specs.declared.step.Answer.{Answer}
use Rattle.bk_drive.specs.declared.step.Step.TheVariants as steps
use Rattle.bk_drive.proofs.recorded.fence_all.Given as goal

abbrev pub invariant-loop-ledger : goal.invariant-loop-ledger
invariant-loop-ledger g l = (told : List Answer) × AreFenced told
    × Performs (AreSound g.D.View.LogView.sound) l.initial.store l.initial.readers (map steps.Fence (take l.ledger-index l.fenced)) told l.store l.readers
