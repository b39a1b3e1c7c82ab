use Rattle.std.proofs.Common.{sym, ap, ◌∙◌, unwrap_or}
use Rattle.std.specs.FinMap as map
use Rattle.bk_cache.specs.Caches.{used_of, flush_of}
use Rattle.bk_cache.proofs.Used.{used_of-empty}
use Rattle.bk_cache.proofs.caches.Caches.flush_used.Goals as goal

pub returns-in-None-clause-value : goal.returns-in-None-clause-value
returns-in-None-clause-value c =
    sym used_of-empty ∙ ap (λ o. used_of (unwrap_or o map.empty)) (sym c.in-None.is) ∙ ap (λ s. used_of (flush_of s)) c.self.view_is
