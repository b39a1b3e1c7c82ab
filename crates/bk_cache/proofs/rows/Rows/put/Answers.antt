use Rattle.std.proofs.Common.{ap, ◌∙◌}
use Rattle.std.proofs.lemmas.Result.{err_from_is_err_and}
use Rattle.std.specs.BTreeMap.{insert_entry}
use Rattle.bk_record.specs.Key.{key_cmp}
use Rattle.bk_cache.specs.Rows.{all_pairs}
use Rattle.bk_cache.proofs.RowPuts.{put_through, absent_page, put_new, are_new}
use Rattle.bk_cache.proofs.rows.Rows.put.Goals as goal

-- the page of the key is there
pub invariant_of-self : goal.invariant_of-self
invariant_of-self c =
    (put_through c.self.inside.pages.entries c.self.invariant c.args.key c.args.payload.value.items c.page_of-number.result c.page_of-number.ensures
    c.in-Some.page.now c.in-Some.ensures.value _ c.put.new.self (c.get_mut.follows.holds c.put.new.self).0 c.put.result c.put.ensures).1

pub returns-in-Some : goal.returns-in-Some
returns-in-Some c = rw (← c.self.view_is)
    (put_through c.self.inside.pages.entries c.self.invariant c.args.key c.args.payload.value.items c.page_of-number.result c.page_of-number.ensures
    c.in-Some.page.now c.in-Some.ensures.value _ c.put.new.self (c.get_mut.follows.holds c.put.new.self).0 c.put.result c.put.ensures).0

-- an allocation failed
pub returns-in_err-page : goal.returns-in_err-page
returns-in_err-page c =
    let told = err_from_is_err_and c.from_residual.result c.from_residual.ensures.1 in
    rw (told.1, ← c.self.view_is) (
      absent_page c.self.inside.pages.entries c.self.invariant c.args.key c.args.payload.value.items c.page_of-number.result c.page_of-number.ensures
          c.in_default.ensures.value,
      ap (λ m. all_pairs m.entries) c.get_mut.follows.holds-at-none,
    )

pub returns-in_err-insert : goal.returns-in_err-insert
returns-in_err-insert c =
    let told = err_from_is_err_and c.from_residual-in_err-insert.result c.from_residual-in_err-insert.ensures.1 in
    rw (told.1, ← c.self.view_is) (
      absent_page c.self.inside.pages.entries c.self.invariant c.args.key c.args.payload.value.items c.page_of-number.result c.page_of-number.ensures
          c.in_default.ensures.value,
      ap all_pairs c.in_err-insert.ensures.err ∙ ap (λ m. all_pairs m.entries) c.get_mut.follows.holds-at-none,
    )

-- a new page is added
pub invariant_of-self-2 : goal.invariant_of-self-2
invariant_of-self-2 c =
    are_new c.self.inside.pages.entries c.self.invariant c.args.key c.args.payload.value.items c.page_of-number.result c.page_of-number.ensures
    c.in_default.ensures.value _ c.in_ok-page.page
    (c.in_ok-insert.ensures.entries ∙ ap (λ m. insert_entry key_cmp m.entries c.page_of-number.result c.in_ok-page.page) c.get_mut.follows.holds-at-none)
    c.in_ok-page.ensures

pub returns : goal.returns
returns c = rw (← c.self.view_is) (
  absent_page c.self.inside.pages.entries c.self.invariant c.args.key c.args.payload.value.items c.page_of-number.result c.page_of-number.ensures
      c.in_default.ensures.value,
  put_new c.self.inside.pages.entries c.self.invariant c.args.key c.args.payload.value.items c.page_of-number.result c.page_of-number.ensures
      c.in_default.ensures.value _ c.in_ok-page.page
      (c.in_ok-insert.ensures.entries ∙ ap (λ m. insert_entry key_cmp m.entries c.page_of-number.result c.in_ok-page.page) c.get_mut.follows.holds-at-none)
      c.in_ok-page.ensures,
)
