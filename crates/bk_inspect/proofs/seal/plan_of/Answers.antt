use Rattle.std.proofs.Common.{ℕ, List, ◌++◌, sym, ap, ◌∙◌, subst, arith}
use Rattle.std.specs.FinMap as map
use Rattle.bk_head.specs.Ledgers.{map_of, LedgersMap}
use Rattle.bk_head.specs.Written.{IsWritable, written_map}
use Rattle.bk_head.proofs.MapViews.{len-map_of}
use Rattle.bk_inspect.proofs.seal.plan_of.Goals as goal

pub overflow_cast-result : goal.overflow_cast-result
overflow_cast-result g c = omega (
  arith,
  c.len-2.ensures.len,
  len-map_of c.in_ok-sizes.sizes c.len-2.ensures.ordered,
  c.in_ok-sizes.ensures.writable.few,
)

pub returns-clause-ok : goal.returns-clause-ok
returns-clause-ok g c = λ honest.
    let sizes = c.in_ok-sizes.sizes in
    let are = c.in_ok-sizes.ensures.ok honest in
    record {
      whole = are.whole;
      offset = omega (arith, c.max-end.ensures, c.end.ensures honest);
      ledgers = c.len-2.ensures.len ∙ sym (len-map_of sizes c.len-2.ensures.ordered) ∙ ap (λ (m : LedgersMap). map.len m) are.are;
      writable = subst (λ (m : LedgersMap). IsWritable m) are.are c.in_ok-sizes.ensures.writable;
      bytes = c.in-Ok.ensures.ok ∙ ap (λ (b : List ℕ). b ++ written_map (map_of sizes)) c.new-map.ensures.items ∙ ap written_map are.are;
    }
