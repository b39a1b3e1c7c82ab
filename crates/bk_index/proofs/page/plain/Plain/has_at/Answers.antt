use Rattle.std.proofs.Common.{◌≡◌, Some, slice_get, option_map, refl, sym, ap, ◌∙◌}
use Rattle.std.proofs.lemmas.Option.{slice_get_read}
use Rattle.bk_record.proofs.Keys.{key_cmp_antisymmetric}
use Rattle.bk_index.proofs.page.plain.Plain.has_at.Goals as goal

pub returns-in-Equal : goal.returns-in-Equal
returns-in-Equal c = λ _.
    let pairs = c.deref.ensures.value ∙ c.self.view_is in
    let looked = c.in-Some.ensures.lookup in
    let found : slice_get c.deref.result.now c.args.place ≡ Some c.in-Some.pair.now = slice_get_read _ _ _ _ refl looked.3.0 looked.1 in
    let same = key_cmp_antisymmetric c.in-Some.pair.now.0 c.args.key.now (sym c.cmp.ensures ∙ c.in-Equal.is) in
    rw pairs at (ap (option_map (λ e. e.0)) found ∙ ap Some same)
