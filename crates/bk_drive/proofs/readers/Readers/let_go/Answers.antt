use Rattle.bk_drive.specs.Held.{reader_lease_of}
use Rattle.bk_drive.proofs.Seats.{held_item}
use Rattle.bk_drive.proofs.readers.Readers.let_go.Goals as goal

pub returns-clause-held : goal.returns-clause-held
returns-clause-held g c =
    held_item (reader_lease_of g.V.LogView.bytes g.V.LogView.honest g.V.LogView.sound) c.self.inside.holds _ _ _ _ c.self.view_is c.requires c.take.ensures.value
