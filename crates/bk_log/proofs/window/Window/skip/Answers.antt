use Rattle.std.proofs.Common.{◌∙◌, ap, min, ◌-◌, refl}
use Rattle.bk_log.proofs.Aheads.{shows_window}
use Rattle.bk_log.proofs.window.Window.skip.Goals as goal

pub invariant_of-self : goal.invariant_of-self
invariant_of-self g c = (
  shows_window _ _ _ _ _ _ _ _ _ _ c.self.invariant.0 refl
      (c.min.ensures ∙ ap (λ n. min c.args.size (n - c.self.inside.offset)) (c.len.ensures ∙ c.self.inside.read.ok.0)),
  c.self.invariant.1,
)
