use Rattle.std.proofs.Common.{◌≡◌, ◌+◌, ◌-◌, ◌≤◌, length, take, drop, ap, ◌∙◌, arith}
use Rattle.bk_log.specs.Ahead.{Ahead}
use Rattle.bk_log.proofs.Aheads.{lent_in}
use Rattle.bk_log.proofs.window.Window.lent.Goals as goal

pub returns-clause-value : goal.returns-clause-value
returns-clause-value g c = λ h.
    let was = c.self.inside in
    let before = c.in_ok-before.before in
    let shown = c.self.invariant.1 (ap (λ (a : Ahead). a.honest) c.self.view_is ∙ h) in
    let enough : before + c.args.count ≤ length was.lent.now = omega (arith, c.if-before-lent.false, c.if-count-lent.false) in
    let place : c.args.from ≡ was.lent_from + before = omega (arith, c.in_ok-before.ensures) in
    let whole : before + c.args.count - before ≡ c.args.count = omega arith in
    rw whole
    (lent_in (g.V.LogView.bytes was.view.now) was.lent.now was.lent_from before c.args.count c.args.from shown enough place
    ∙ ap (λ (a : Ahead). take c.args.count (drop c.args.from a.bytes)) c.self.view_is)
