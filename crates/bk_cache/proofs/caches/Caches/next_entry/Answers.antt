use Rattle.bk_cache.proofs.OneCache.{active_only}
use Rattle.bk_cache.proofs.caches.Caches.next_entry.Goals as goal

pub returns-in-None-clause-least : goal.returns-in-None-clause-least
returns-in-None-clause-least c entry above there =
    let seen = rw (← c.self.view_is) at there in
    c.next_entry-active.ensures.least entry above (active_only _ c.self.inside.flush _ c.in-None.is seen)
