use Rattle.std.proofs.Common.{ap, sym, ◌∙◌}
use Rattle.std.specs.FinMap.{len, empty_of_len, len-empty}
use Rattle.std.proofs.lemmas.Bool.{eq-eqb, eqb-true}
use Rattle.bk_record.specs.Key.{key_cmp}
use Rattle.bk_record.specs.Location.{Place}
use Rattle.bk_index.proofs.CountedPages.{len_seen}
use Rattle.bk_index.proofs.index.Index.is_empty.Goals as goal

pub returns : goal.returns
returns c =
    let counted = c.self.invariant.counted ∙ len_seen c.self.inside.pages c.self.invariant.sorted c.args.self.now c.self.view_is in (
      λ is. empty_of_len _ (sym counted ∙ eqb-true c.self.inside.len 0 is),
      λ is. eq-eqb c.self.inside.len 0 (counted ∙ ap len is ∙ len-empty key_cmp Place),
    )
