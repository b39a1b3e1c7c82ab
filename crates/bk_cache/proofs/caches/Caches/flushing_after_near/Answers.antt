use Rattle.std.proofs.Common.{sym, ap, ◌∙◌, unwrap_or}
use Rattle.std.specs.FinMap as map
use Rattle.bk_cache.specs.Caches.{flush_of, first_after}
use Rattle.bk_cache.proofs.FirstAfter.{first_after-empty}
use Rattle.bk_cache.proofs.caches.Caches.flushing_after_near.Goals as goal

pub returns-in-None-clause-value : goal.returns-in-None-clause-value
returns-in-None-clause-value c =
    sym (first_after-empty c.args.key) ∙ ap (λ o. first_after c.args.key (unwrap_or o map.empty)) (sym c.in-None.is)
    ∙ ap (λ s. first_after c.args.key (flush_of s)) c.self.view_is
