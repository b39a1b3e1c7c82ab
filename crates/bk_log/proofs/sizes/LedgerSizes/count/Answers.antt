use Rattle.std.proofs.Common.{◌≡◌, sym, ap, ◌∙◌, subst, ◌+◌, ◌≤◌}
use Rattle.bk_log.specs.Sizes.{size_in}
use Rattle.bk_log.proofs.Sums.{size_in-with_bytes}
use Rattle.bk_log.proofs.Tallies.{counted, counts_next}
use Rattle.bk_log.proofs.sizes.LedgerSizes.count.Goals as goal

-- the last ledger is the entry's
ready : (c : goal.After-add) → c.turn_to.new.self ≡ record c.args.self.now { ledger = c.args.found.key.ledger }
ready c = c.in_ok-turn_to.ensures.ok ∙ ap (λ l. record c.args.self.now { ledger = l }) c.ledger.ensures.value

pub returns-clause-within : goal.returns-clause-within
returns-clause-within c = λ most before ledger.
    subst (λ s. size_in s ledger ≤ most + c.args.found.size) (sym (counted c.args.self.now _ _ _ _ _ (ready c) c.add.ensures c.from.ensures))
    (size_in-with_bytes c.args.self.now.sizes c.args.found.key.ledger c.args.found.size most ledger before)

pub returns-clause-next : goal.returns-clause-next
returns-clause-next c = counts_next _ _ c.args.found (counted c.args.self.now _ _ _ _ _ (ready c) c.add.ensures c.from.ensures)
