use Rattle.std.proofs.Common.{sym, ap, ◌∙◌, unwrap_or, is_some}
use Rattle.std.specs.FinMap as map
use Rattle.bk_record.specs.Key.{key_cmp}
use Rattle.bk_cache.specs.Caches.{flush_of}
use Rattle.bk_cache.proofs.caches.Caches.is_in_flush.Goals as goal

-- no flush runs
pub returns-in-None : goal.returns-in-None
returns-in-None c =
    ap is_some (sym (map.get-empty key_cmp c.args.key.now)) ∙ ap (λ o. is_some (map.get (unwrap_or o map.empty) c.args.key.now)) (sym c.in-None.is)
    ∙ ap (λ s. is_some (map.get (flush_of s) c.args.key.now)) c.self.view_is
