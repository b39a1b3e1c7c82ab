use Rattle.std.proofs.Common.{◌≡◌}
use Rattle.std.specs.FinMap as map
use Rattle.std.specs.FinMap.{from_sorted}
use Rattle.std.proofs.lemmas.Bool.{OnTrue_at, OnTrue_from}
use Rattle.bk_index.specs.Pages.{all_pairs}
use Rattle.bk_index.proofs.CountedPages.{get_seen, insert_seen, counted_either}
use Rattle.bk_index.proofs.index.Index.replace_if.Goals as goal

pub invariant_of-self : goal.invariant_of-self
invariant_of-self c =
    counted_either c.self.inside.pages c.self.invariant.sorted c.args.key.now c.replace_if.result c.args.to c.replace_if.new.self c.self.inside.len
    c.replace_if.ensures.replaced c.replace_if.ensures.unchanged c.self.invariant.counted c.replace_if.ensures.len

pub returns-clause-condition : goal.returns-clause-condition
returns-clause-condition c =
    rw (← get_seen c.self.inside.pages c.self.invariant.sorted c.args.self.now c.self.view_is c.args.key.now) c.replace_if.ensures.condition

pub returns-clause-replaced : goal.returns-clause-replaced
returns-clause-replaced c =
    OnTrue_from c.replace_if.result (from_sorted (all_pairs c.replace_if.new.self) ≡ map.insert c.args.self.now c.args.key.now c.args.to)
    (λ moved. insert_seen c.self.inside.pages c.self.invariant.sorted c.args.self.now c.self.view_is c.args.key.now c.args.to c.replace_if.new.self
    (OnTrue_at moved c.replace_if.ensures.replaced))
