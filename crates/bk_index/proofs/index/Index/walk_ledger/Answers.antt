use Rattle.std.proofs.Common.{ap, ◌∙◌}
use Rattle.std.specs.Bool.{◌==◌}
use Rattle.std.specs.List.{filter}
use Rattle.bk_record.specs.Key.{EntryKey}
use Rattle.bk_record.specs.Location.{Place}
use Rattle.bk_index.proofs.CountedPages.{entries_seen}
use Rattle.bk_index.proofs.index.Index.walk_ledger.Goals as goal

pub returns-clause-items : goal.returns-clause-items
returns-clause-items c =
    let of_ledger = λ (e : EntryKey × Place). e.0.ledger == c.args.ledger in
    c.walk_ledger.ensures.items ∙ ap (filter of_ledger) (entries_seen c.self.inside.pages c.self.invariant.sorted c.args.self.now c.self.view_is)
