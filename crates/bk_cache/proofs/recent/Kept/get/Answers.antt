use Rattle.std.proofs.Common.{option_map, sym, ap, ◌∙◌}
use Rattle.std.specs.Map.{lookup}
use Rattle.std.proofs.lemmas.Map.Made.{lookup-map_values}
use Rattle.bk_cache.specs.Recents.{same_key, recent_of}
use Rattle.bk_cache.proofs.Options.{option_map-now}
use Rattle.bk_cache.proofs.recent.Kept.get.Goals as goal

pub returns : goal.returns
returns c =
    option_map-now (λ p. p.value.items) c.peek.result
    ∙ ap (option_map (λ p. p.value.items)) (c.peek.ensures ∙ ap (λ key. lookup (same_key key) c.self.inside.entries.entries) c.of.ensures)
    ∙ sym (lookup-map_values (λ p. p.value.items) (same_key c.args.key.now) c.self.inside.entries.entries)
    ∙ ap (λ r. recent_of r c.args.key.now) c.self.view_is
