use Rattle.std.proofs.Common.{◌≡◌, ◌<◌, ◌+◌, ◌-◌, true, false, length, get_or, ◌∙◌, arith, rules}
use Rattle.std.specs.Ordering.{is_le}
use Rattle.bk_record.specs.Key.{EntryKey, key_cmp}
use Rattle.bk_index.proofs.FencedPages.{few_fences}
use Rattle.bk_index.proofs.RisingFences.{point_behind, fences_parted, home_of, is_downward_key, other_read}
use Rattle.bk_index.proofs.pages.Pages.home_near.Goals as goal
use Rattle.bk_index.proofs.pages.Pages.home_near.Goals.{else-next-count-via-then-next-count+else-le, else-next-count-via-else-next-count}

pub returns-clause-home : goal.returns-clause-home
returns-clause-home c =
    let pages = c.self.inside.list.items in
    let fences = c.self.inside.fences.items in
    let sorted = rw (← c.self.view_is) at c.requires in
    let key = c.args.key.now in
    let page = c.args.page in
    let fence = c.index.result.now in
    let passes : is_le (key_cmp fence key) ≡ true = search rules in
    let count : c.len-count.result ≡ length fences = c.len-count.ensures ∙ c.self.inside.fences.ok.0 in
    let within : page < length fences = omega (arith, count, c.if-page-count.false) in
    let fails : page + 1 < length fences → (d : EntryKey) → is_le (key_cmp (get_or fences (page + 1) d) key) ≡ false =
    elim c.else-next-count.branch [
      | else-next-count-via-then-next-count+else-le w ↦ λ inside d.
          let not_le : is_le (key_cmp w.index-then-next-count.result.now key) ≡ false = search rules in
          other_read (λ f. is_le (key_cmp f key)) fences (page + 1) w.index-then-next-count.result.now false inside
          w.index-then-next-count.ensures not_le d
      | else-next-count-via-else-next-count w ↦ λ inside d. absurd (omega (arith, count, inside, w.if-next-count.false))
    ] in
    let point = point_behind (λ f. is_le (key_cmp f key)) fences page fence (fences_parted fences pages c.self.invariant sorted _ (is_downward_key key)) within
    c.index.ensures passes fails in
    let back : page ≡ page + 1 - 1 = omega arith in
    rw (← c.self.view_is, back)
    (home_of fences pages c.self.invariant sorted key (page + 1) (omega (arith, within, few_fences fences pages c.self.invariant)) point)
