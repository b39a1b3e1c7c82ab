use Rattle.std.proofs.Common.{◌+◌, ◌≤◌, length, sym, ap, subst, ◌∙◌}
use Rattle.std.specs.FinMap as map
use Rattle.bk_cache.specs.Caches.{used_of, flush_of}
use Rattle.bk_cache.proofs.Sound.{sound_added}
use Rattle.bk_cache.proofs.caches.Caches.add.Goals as goal

pub invariant_of-self : goal.invariant_of-self
invariant_of-self c =
    sound_added _ c.args.key c.args.payload.now c.add.result c.add.new.self c.self.invariant c.requires
    (ap (λ s. map.get (flush_of s) c.args.key) c.self.view_is ∙ c.in_default.ensures.absent)
    (subst (λ s. used_of s.active + length c.args.payload.now ≤ s.limit) (sym c.self.view_is) c.in_default.ensures.fits) c.add.ensures.transition

pub returns-clause-sound : goal.returns-clause-sound
returns-clause-sound c = invariant_of-self c
