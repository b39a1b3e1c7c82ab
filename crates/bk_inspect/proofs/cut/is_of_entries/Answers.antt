use Rattle.std.proofs.Common.{sym, ◌∙◌}
use Rattle.bk_inspect.proofs.Lost.{other_map}
use Rattle.bk_inspect.proofs.cut.is_of_entries.Goals as goal

pub returns : goal.returns
returns g c = λ honest differs same.
    other_map c.args.map.now c.in_ok-sizes.sizes c.eq.result c.eq.ensures c.len.ensures.ordered c.len-2.ensures.ordered differs
    (same ∙ sym (c.in_ok-sizes.ensures.ok honest).are)
