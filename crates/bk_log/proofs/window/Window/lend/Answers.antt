use Rattle.std.proofs.Common.{◌≡◌, ◌+◌, ◌-◌, ◌≤◌, length, take, drop, ap, ◌∙◌, arith}
use Rattle.bk_log.specs.Ahead.{Ahead}
use Rattle.bk_log.proofs.Aheads.{lent}
use Rattle.bk_log.proofs.window.Window.lend.Goals as goal

pub returns-clause-value : goal.returns-clause-value
returns-clause-value g c = λ h.
    let was = c.self.inside in
    let before = c.in_ok-before.before in
    let bytes = g.V.LogView.bytes was.view.now in
    let shown = c.self.invariant.0.begun.shown (ap (λ (a : Ahead). a.honest) c.self.view_is ∙ h) in
    let size : c.len.result ≡ length was.read.items = c.len.ensures ∙ was.read.ok.0 in
    let enough : before + c.args.count ≤ length was.read.items - was.start = omega (arith, size, c.if-before-known.false, c.if-count-known.false) in
    let place : c.args.from ≡ was.since + before = omega (arith, c.in_ok-before.ensures) in
    let whole : was.start + before + c.args.count - (was.start + before) ≡ c.args.count = omega arith in
    rw (whole, c.deref.ensures.value)
    (lent bytes was.read.items was.since was.start before c.args.count c.args.from shown enough place
    ∙ ap (λ (a : Ahead). take c.args.count (drop c.args.from a.bytes)) c.self.view_is)
