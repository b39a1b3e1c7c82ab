use Rattle.std.proofs.Common.{take, drop, ap, ◌∙◌, arith}
use Rattle.std.proofs.lemmas.List.{length-take-le}
use Rattle.bk_log.proofs.Aheads.{length-left, head_left}
use Rattle.bk_compact.proofs.front.read_front.Goals as goal

pub returns-clause-transition : goal.returns-clause-transition
returns-clause-transition g c = λ h.
    c.front_of.ensures.front _ (length-left _ _ _ (c.requires h))
    (head_left (g.V.LogView.bytes c.args.view.now) _ c.args.at c.min-wanted.result _ c.min-wanted.ensures
    (c.in_ok-read_head.ensures.transition h ∙ ap (λ n. take n (drop c.args.at (g.V.LogView.bytes c.args.view.now)))
    (length-take-le c.min-wanted.result _ (omega (arith, c.min-wanted.ensures)))))
