use Rattle.std.proofs.Common.{ap, ◌∙◌}
use Rattle.std.specs.FinMap.{from_sorted}
use Rattle.bk_record.specs.Key.{key_cmp}
use Rattle.bk_record.proofs.SortedMaps.{from_sorted-nil}
use Rattle.bk_cache.proofs.cache.Cache.new.Goals as goal

pub returns : goal.returns
returns c = ap from_sorted c.new.ensures ∙ from_sorted-nil key_cmp
