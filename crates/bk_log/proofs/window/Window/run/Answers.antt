use Rattle.std.proofs.Common.{ap, ◌∙◌, subst}
use Rattle.bk_disk.specs.Runs.{IsRunAt}
use Rattle.bk_log.specs.Ahead.{Ahead}
use Rattle.bk_log.proofs.window.Window.run.Goals as goal

pub returns-clause-value : goal.returns-clause-value
returns-clause-value g c = λ h.
    subst (λ (a : Ahead). IsRunAt a.bytes a.at c.in_ok-run.run') c.self.view_is (c.in_ok-run.ensures (ap (λ (a : Ahead). a.honest) c.self.view_is ∙ h))
