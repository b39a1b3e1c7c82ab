use Rattle.std.proofs.Common.{sym, ap, ◌∙◌}
use Rattle.std.specs.FinMap as map
use Rattle.bk_record.specs.Key.{key_cmp}
use Rattle.bk_record.proofs.SortedMaps.{entries-sorted}
use Rattle.bk_store.specs.FlushPlaces.{HeldPlaces}
use Rattle.bk_store.proofs.places.FlushPlaces.pairs.Goals as goal

pub returns : goal.returns
returns c = c.deref.ensures.value ∙ sym (entries-sorted key_cmp c.self.inside.pairs.items c.self.invariant) ∙ ap (λ (p : HeldPlaces). map.entries p.places) c.self.view_is
