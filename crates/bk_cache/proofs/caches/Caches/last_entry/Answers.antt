use Rattle.bk_cache.proofs.OneCache.{active_only}
use Rattle.bk_cache.proofs.caches.Caches.last_entry.Goals as goal

pub returns-in-None-clause-greatest : goal.returns-in-None-clause-greatest
returns-in-None-clause-greatest c entry there =
    let seen = rw (← c.self.view_is) at there in
    c.last_entry-active.ensures.greatest entry (active_only _ c.self.inside.flush _ c.in-None.is seen)
