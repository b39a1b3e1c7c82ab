use Rattle.bk_bookie.proofs.Keyed.{keyed_new}
use Rattle.bk_bookie.proofs.bookie.Bookie.open.Goals as goal

pub new-requires-clause-keyed : goal.new-requires-clause-keyed
new-requires-clause-keyed g c = λ κs within. rw c.in-Ok.ensures.opened.caches_are (keyed_new _ _)
