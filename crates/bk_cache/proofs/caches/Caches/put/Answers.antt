use Rattle.std.proofs.Common.{◌+◌, ◌≤◌, length, sym, ap, subst, ◌∙◌}
use Rattle.std.specs.FinMap as map
use Rattle.bk_cache.specs.Caches.{used_of, flush_of}
use Rattle.bk_cache.proofs.Sound.{sound_added}
use Rattle.bk_cache.proofs.caches.Caches.put.Goals as goal

pub invariant_of-self : goal.invariant_of-self
invariant_of-self c =
    let bytes = c.deref-2.ensures.value ∙ ap (λ v. v.items) c.deref.ensures in
    sound_added _ c.args.key c.args.payload.value.items c.put.result c.put.new.self c.self.invariant c.requires
    (ap (λ s. map.get (flush_of s) c.args.key) c.self.view_is ∙ c.in_default.ensures.absent)
    (subst (λ s. used_of s.active + length c.args.payload.value.items ≤ s.limit) (sym c.self.view_is)
    (subst (λ b. used_of c.args.self.now.active + length b ≤ c.args.self.now.limit) bytes c.in_default.ensures.fits)) c.put.ensures.transition

pub returns-clause-sound : goal.returns-clause-sound
returns-clause-sound c = invariant_of-self c
