use Rattle.std.proofs.Common.{◌≡◌, sym, ◌∙◌, ap, arith, unwrap_or, refl}
use Rattle.std.specs.FinMap as map
use Rattle.bk_log.specs.Sizes.{size_in, with_last}
use Rattle.bk_record.proofs.NumberMaps.{inserted, get-made}
use Rattle.bk_log.proofs.Tallies.{with_last-some, with_last-none, turned}
use Rattle.bk_log.proofs.sizes.LedgerSizes.turn_to.Goals as goal
use Rattle.bk_log.proofs.sizes.LedgerSizes.turn_to.Goals.{then-self-gt0+in_ok-insert, else-self-gt0}

-- the ledger's bytes among the others
found : (c : goal.After-self-2-1) → c.unwrap_or-self-inside.result ≡ size_in (map.from_entries c.if-self-gt0.self-inside.others.entries) c.args.ledger
found c = c.unwrap_or-self-inside.ensures ∙ ap (λ o. unwrap_or o 0) (c.copied.ensures ∙ c.get.ensures.value ∙ get-made _ _ _ refl)

pub invariant_of-self-2 : goal.invariant_of-self-2
invariant_of-self-2 c = λ none. sym (found c) ∙ none

pub returns-clause-ok : goal.returns-clause-ok
returns-clause-ok c =
    let was = c.self.inside in
    turned (map.from_entries c.if-self-gt0.self-inside.others.entries) (with_last (map.from_entries was.others.entries) was.ledger was.size) _ was.ledger _ _
    c.self.view_is
    (elim c.if-self-gt0.branch [
      | then-self-gt0+in_ok-insert w ↦
          ap (λ i. map.from_entries i.others.entries) w.self-inside-is ∙ inserted _ _ was.ledger was.size w.in_ok-insert.ensures.updates.0
          ∙ sym (with_last-some (map.from_entries was.others.entries) was.ledger was.size w.if-self-gt0.true)
      | else-self-gt0 w ↦
          ap (λ i. map.from_entries i.others.entries) w.self-inside-is ∙ sym (with_last-none (map.from_entries was.others.entries) was.ledger was.size
          (omega (arith, w.if-self-gt0.false)))
    ])
    (found c)
