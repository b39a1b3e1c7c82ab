use Rattle.std.proofs.Common.{subst}
use Rattle.bk_cache.specs.Caches.{AreApart}
use Rattle.bk_store.specs.State.{State}
use Rattle.bk_store.proofs.store.Store.reveal_invariant.Goals as goal

pub returns : goal.returns
returns g c = record {
  parts = c.self.inside.fields;
  seen = c.self.view_is;
  keeps = c.self.invariant;
  apart = subst (λ (s : State). AreApart s.caches) c.self.view_is
      (subst (λ x. AreApart x.fields.state.caches) c.self-inside.view_is c.limit.ensures.sound.apart);
}
