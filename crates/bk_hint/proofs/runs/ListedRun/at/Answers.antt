use Rattle.std.proofs.Common.{Some, sym, ap, ◌∙◌}
use Rattle.bk_hint.proofs.Runwise.{run_at}
use Rattle.bk_hint.proofs.runs.ListedRun.at.Goals as goal

pub returns : goal.returns
returns c = run_at c.args.self.now c.args.place c.requires.inside ∙ ap Some (sym c.behind.ensures)
