use Rattle.std.proofs.Common.{subst, sym}
use Rattle.std.specs.Bool.{OnTrue}
use Rattle.bk_drive.specs.Abstract.{IsBusy}
use Rattle.bk_drive.specs.Held.{reader_lease_of}
use Rattle.bk_drive.proofs.Seats.{busy_at}
use Rattle.bk_drive.proofs.readers.Readers.is_busy.Goals as goal

pub returns-clause-busy : goal.returns-clause-busy
returns-clause-busy g c =
    subst (λ b. OnTrue b (IsBusy c.args.self.now c.args.reader)) (sym c.is_some.ensures)
    (busy_at (reader_lease_of g.V.LogView.bytes g.V.LogView.honest g.V.LogView.sound) c.self.inside.holds _ _ _ c.self.view_is c.requires)
