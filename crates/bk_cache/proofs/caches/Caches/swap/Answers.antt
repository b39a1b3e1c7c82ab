use Rattle.bk_cache.proofs.Sound.{sound_swapped}
use Rattle.bk_cache.proofs.caches.Caches.swap.Goals as goal

pub invariant_of-self : goal.invariant_of-self
invariant_of-self c = rw (c.replace-came_in.ensures.after, c.new.ensures, c.replace-came_in.ensures.value) (sound_swapped _ c.self.invariant)

pub returns-clause-sound : goal.returns-clause-sound
returns-clause-sound c = invariant_of-self c
