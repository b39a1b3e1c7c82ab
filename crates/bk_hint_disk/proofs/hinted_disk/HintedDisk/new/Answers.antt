use Rattle.bk_hint_disk.proofs.hinted_disk.HintedDisk.new.Goals as goal

pub invariant_of-result : goal.invariant_of-result
invariant_of-result g c = λ honest sure _. c.requires honest sure
