use Rattle.std.proofs.Common.{◌≡◌, ◌<◌, ◌-◌, true, length, get_or, ◌∙◌, arith, rules}
use Rattle.std.specs.Ordering.{is_le}
use Rattle.bk_record.specs.Key.{key_cmp}
use Rattle.bk_index.proofs.FencedPages.{few_fences}
use Rattle.bk_index.proofs.RisingFences.{all_before, fences_parted, home_of, is_downward_key}
use Rattle.bk_index.proofs.pages.Pages.home_for.Goals as goal

pub returns-then-le-clause-home : goal.returns-then-le-clause-home
returns-then-le-clause-home c =
    let pages = c.self.inside.list.items in
    let fences = c.self.inside.fences.items in
    let sorted = rw (← c.self.view_is) at c.requires in
    let key = c.args.key.now in
    let last = c.index.result.now in
    let passes : is_le (key_cmp last key) ≡ true = search rules in
    let count : c.len-count.result ≡ length fences = c.len-count.ensures ∙ c.self.inside.fences.ok.0 in
    let some : 0 < length fences = omega (arith, count, c.if-count-gt0.true) in
    let read : last ≡ get_or fences (length fences - 1) last = rw (← count) c.index.ensures in
    let point = all_before (λ f. is_le (key_cmp f key)) fences last (fences_parted fences pages c.self.invariant sorted _ (is_downward_key key)) some read passes in
    rw (← c.self.view_is, count)
    (home_of fences pages c.self.invariant sorted key (length fences) (omega (arith, few_fences fences pages c.self.invariant)) point)
