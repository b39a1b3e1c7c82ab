use Rattle.bk_drive.proofs.run.add.Goals as goal

pub returns-in-Ordinary : goal.returns-in-Ordinary
returns-in-Ordinary g c = rw c.in-Ordinary.is c.add.ensures

pub returns-in-Recovery : goal.returns-in-Recovery
returns-in-Recovery g c = rw c.in-Recovery.is c.add_recovery.ensures
