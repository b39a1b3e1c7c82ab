use Rattle.std.proofs.Common.{ap, ◌∙◌}
use Rattle.std.specs.List.{count_by}
use Rattle.std.specs.Bool.{◌==◌}
use Rattle.bk_record.specs.Key.{EntryKey}
use Rattle.bk_record.specs.Location.{Place}
use Rattle.bk_index.proofs.CountedPages.{entries_seen}
use Rattle.bk_index.proofs.index.Index.count_in.Goals as goal

pub returns : goal.returns
returns c =
    let in_log = λ (e : EntryKey × Place). e.1.log == c.args.log in
    c.count_in.ensures ∙ ap (count_by in_log) (entries_seen c.self.inside.pages c.self.invariant.sorted c.args.self.now c.self.view_is)
