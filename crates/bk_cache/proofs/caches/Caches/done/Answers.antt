use Rattle.bk_cache.proofs.Sound.{sound_done}
use Rattle.bk_cache.proofs.caches.Caches.done.Goals as goal

pub invariant_of-self : goal.invariant_of-self
invariant_of-self c = sound_done _ c.self.invariant

pub returns-clause-sound : goal.returns-clause-sound
returns-clause-sound c = sound_done _ c.self.invariant
