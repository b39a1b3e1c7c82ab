use Rattle.bk_drive.specs.Held.{reader_lease_of}
use Rattle.bk_drive.proofs.Seats.{put_item}
use Rattle.bk_drive.proofs.readers.Readers.hold.Goals as goal

pub returns : goal.returns
returns g c = put_item (reader_lease_of g.V.LogView.bytes g.V.LogView.honest g.V.LogView.sound) c.self.inside.holds _ _ _ c.self.view_is
