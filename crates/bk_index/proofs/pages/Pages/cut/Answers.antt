use Rattle.std.proofs.Common.{◌-◌, length, take, drop, ap, sym, ◌∙◌, arith}
use Rattle.std.specs.List.{sum_by}
use Rattle.std.proofs.lemmas.List.Concat.{length-flat_map}
use Rattle.bk_index.proofs.FencedPages.{fenced_cut, length_cut, countable_part}
use Rattle.bk_index.proofs.pages.Pages.cut.Goals as goal

pub count_pairs-dropped-requires : goal.count_pairs-dropped-requires
count_pairs-dropped-requires c =
    rw (c.deref.ensures.value, ← length-flat_map (λ page. page) _)
    (countable_part c.self.inside.fences.items c.self.inside.list.items c.self.invariant c.args.from _)

pub invariant_of-self : goal.invariant_of-self
invariant_of-self c =
    rw (c.drop.ensures.items ∙ c.drain.ensures.kept, c.drop-2.ensures.items ∙ c.drain-2.ensures.kept)
    (fenced_cut c.self.inside.fences.items c.self.inside.list.items c.self.invariant c.args.from c.args.to c.requires.order)

pub returns-clause-count : goal.returns-clause-count
returns-clause-count c =
    let pages = c.self.inside.list.items in
    let part = take (c.args.to - c.args.from) (drop c.args.from pages) in
    let counted = c.count_pairs-dropped.ensures ∙ ap (λ ps. sum_by length (take (c.args.to - c.args.from) (drop c.args.from ps))) c.deref.ensures.value
    ∙ sym (length-flat_map (λ page. page) part) in
    rw (c.drop-2.ensures.items ∙ c.drain-2.ensures.kept, ← c.self.view_is) (omega (arith, length_cut pages c.args.from c.args.to c.requires.order, counted))
