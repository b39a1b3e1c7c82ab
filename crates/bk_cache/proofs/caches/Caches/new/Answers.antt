use Rattle.bk_cache.proofs.Sound.{sound_new}
use Rattle.bk_cache.proofs.caches.Caches.new.Goals as goal

pub invariant_of-result : goal.invariant_of-result
invariant_of-result c = rw (c.new.ensures, c.in_ok-new.ensures) (sound_new c.args.limit c.args.recent c.requires)

pub returns-clause-sound : goal.returns-clause-sound
returns-clause-sound c = invariant_of-result c
