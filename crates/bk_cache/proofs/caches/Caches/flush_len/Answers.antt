use Rattle.std.proofs.Common.{List, ℕ, sym, ap, ◌∙◌, unwrap_or}
use Rattle.std.specs.FinMap as map
use Rattle.bk_record.specs.Key.{key_cmp}
use Rattle.bk_cache.specs.Caches.{flush_of}
use Rattle.bk_cache.proofs.caches.Caches.flush_len.Goals as goal

pub returns-in-None-clause-value : goal.returns-in-None-clause-value
returns-in-None-clause-value c =
    sym (map.len-empty key_cmp (List ℕ)) ∙ ap (λ o. map.len (unwrap_or o map.empty)) (sym c.in-None.is) ∙ ap (λ s. map.len (flush_of s)) c.self.view_is
