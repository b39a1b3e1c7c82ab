use Rattle.std.proofs.Common.{ap, ◌∙◌}
use Rattle.bk_hint.specs.Entries.{origin}
use Rattle.bk_hint.specs.Runs.{entries_of_runs}
use Rattle.bk_hint.proofs.Turning.{runs_list}
use Rattle.bk_hint.proofs.contents.Contents.runs.Goals as goal

pub returns-clause-list : goal.returns-clause-list
returns-clause-list c =
    ap entries_of_runs c.over.ensures ∙ rw (c.deref.ensures.value, c.deref-2.ensures.value) (runs_list origin c.self.inside.heads.items c.self.inside.steps.items ∙ c.self.view_is)
