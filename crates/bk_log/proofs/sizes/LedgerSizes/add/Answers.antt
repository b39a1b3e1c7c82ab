use Rattle.std.proofs.Common.{sym, ap, ◌∙◌, rules}
use Rattle.bk_log.specs.Sizes.{size_in}
use Rattle.bk_log.proofs.Tallies.{size_in-with_last, added}
use Rattle.bk_log.proofs.sizes.LedgerSizes.add.Goals as goal

pub overflow_add-self : goal.overflow_add-self
overflow_add-self c =
    rw (sym (size_in-with_last _ _ c.self.inside.size c.self.invariant) ∙ ap (λ t. size_in t.sizes t.ledger) c.self.view_is) (search (rules, c.requires.room))

pub returns : goal.returns
returns c = added _ _ c.self.inside.size c.args.size _ c.self.view_is c.self.invariant c.requires.some
