use Rattle.std.proofs.Common.{sym, ap, ◌∙◌, unwrap_or}
use Rattle.std.specs.Option.{option_or}
use Rattle.std.specs.FinMap as map
use Rattle.bk_record.specs.Key.{key_cmp}
use Rattle.bk_cache.specs.Caches.{write_cached_payload}
use Rattle.bk_cache.proofs.caches.Caches.written.Goals as goal

-- the active cache does not have the key, and no flush runs
pub returns-in-None-None-clause-value : goal.returns-in-None-None-clause-value
returns-in-None-None-clause-value c =
    let active = c.in-None-None.ensures.value in
    let flush = sym (map.get-empty key_cmp c.args.key.now) ∙ ap (λ o. map.get (unwrap_or o map.empty) c.args.key.now) (sym c.in-None-None.is-1) in
    (λ i. option_or (active i) (flush i)) ∙ ap (λ s. write_cached_payload s c.args.key.now) c.self.view_is
