use Rattle.std.proofs.Common.{sym, ap, ◌∙◌}
use Rattle.std.specs.Bool.{◌==◌}
use Rattle.std.specs.List.{count_by}
use Rattle.bk_record.specs.Key.{EntryKey}
use Rattle.bk_record.specs.Location.{Place}
use Rattle.bk_index.specs.Pages.{all_pairs}
use Rattle.bk_index.proofs.FencedPages.{countable_log, count_all}
use Rattle.bk_index.proofs.pages.Pages.count_in.Goals as goal

pub count_log-requires : goal.count_log-requires
count_log-requires c = rw c.deref.ensures.value (countable_log c.self.inside.fences.items c.self.inside.list.items c.self.invariant _)

pub returns : goal.returns
returns c =
    let in_log = λ (pair : EntryKey × Place). pair.1.log == c.args.log in
    c.count_log.ensures ∙ sym (count_all in_log c.deref.result.now) ∙ ap (λ pages. count_by in_log (all_pairs pages)) (c.deref.ensures.value ∙ c.self.view_is)
