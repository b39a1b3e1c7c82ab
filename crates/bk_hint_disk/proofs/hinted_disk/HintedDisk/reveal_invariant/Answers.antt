use Rattle.std.proofs.Common.{IsTrue, subst}
use Rattle.bk_hint_disk.specs.Hinting.{Hinting}
use Rattle.bk_hint_disk.specs.Truth.{AreTrue}
use Rattle.bk_hint_disk.proofs.hinted_disk.HintedDisk.reveal_invariant.Goals as goal

pub returns : goal.returns
returns g c = subst (λ (v : Hinting). IsTrue v.honest → IsTrue v.sure → IsTrue v.believed → AreTrue v.hints v.files) c.self.view_is c.self.invariant
