use Rattle.std.proofs.Common.{sym, ap, ◌∙◌}
use Rattle.std.specs.FinMap as map
use Rattle.bk_record.specs.Key.{key_cmp}
use Rattle.bk_record.proofs.SortedMaps.{len-sorted}
use Rattle.bk_store.specs.FlushPlaces.{HeldPlaces}
use Rattle.bk_store.proofs.places.FlushPlaces.len.Goals as goal

pub returns : goal.returns
returns c =
    c.len.ensures ∙ c.self.inside.pairs.ok.0 ∙ sym (len-sorted key_cmp c.self.inside.pairs.items c.self.invariant) ∙ ap (λ (p : HeldPlaces). map.len p.places) c.self.view_is
