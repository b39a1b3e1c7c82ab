use Rattle.std.proofs.Common.{refl, sym, ◌∙◌, subst, ap}
use Rattle.bk_log.specs.Ahead.{Ahead}
use Rattle.bk_log.specs.Fronts.{IsFront}
use Rattle.bk_log.proofs.Aheads.{length-left, head_read, no_room}
use Rattle.bk_log.proofs.window.Window.read_front.Goals as goal
use Rattle.bk_log.proofs.window.Window.read_front.Goals.{in-Record+in_default-make+in_ok-read_on}
use Rattle.bk_log.proofs.window.Window.read_front.Goals.{in_default}

pub returns-in-Err-clause-transition : goal.returns-in-Err-clause-transition
returns-in-Err-clause-transition g c = λ h.
    let honest = ap (λ (a : Ahead). a.honest) c.self.view_is ∙ h in
    no_room _ _ _ _ _ c.in-Err.ensures.err
    (c.in-Record.ensures.front _ (length-left _ _ _ (c.requires h))
    (head_read _ c.args.self.now _ _ _ _ refl c.self.view_is c.min-wanted.ensures (c.in_ok-read_left.ensures.transition honest)))

pub returns-clause-transition : goal.returns-clause-transition
returns-clause-transition g c = λ h.
    let honest = ap (λ (a : Ahead). a.honest) c.self.view_is ∙ h in
    let here = c.front_of-front.ensures.front _ (length-left _ _ _ (c.requires h))
    (head_read _ c.args.self.now _ _ _ _ refl c.self.view_is c.min-wanted.ensures (c.in_ok-read_left.ensures.transition honest)) in
    elim c.match-front.branch [
      | in-Record+in_default-make+in_ok-read_on w ↦ subst (IsFront _) (sym w.front-is) (subst (IsFront _) w.in-Record.is here)
      | in_default w ↦ subst (IsFront _) (sym w.front-is) here
    ]
