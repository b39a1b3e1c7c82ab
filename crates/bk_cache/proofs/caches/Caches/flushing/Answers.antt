use Rattle.std.proofs.Common.{sym, ap, ◌∙◌, unwrap_or}
use Rattle.std.specs.FinMap as map
use Rattle.bk_cache.specs.Caches.{flush_of}
use Rattle.bk_cache.proofs.Used.{entries-empty}
use Rattle.bk_cache.proofs.caches.Caches.flushing.Goals as goal

-- no flush runs
pub returns-in-None-clause-items : goal.returns-in-None-clause-items
returns-in-None-clause-items c =
    c.empty.ensures ∙ sym entries-empty ∙ ap (λ o. map.entries (unwrap_or o map.empty)) (sym c.in-None.is) ∙ ap (λ s. map.entries (flush_of s)) c.self.view_is
