use Rattle.std.proofs.Common.{sym, ◌∙◌, ap, arith}
use Rattle.bk_head.specs.Ledgers.{map_of}
use Rattle.bk_record.proofs.NumberMaps.{inserted}
use Rattle.bk_log.proofs.Tallies.{with_last-some, with_last-none}
use Rattle.bk_log.proofs.sizes.LedgerSizes.into_map.Goals as goal
use Rattle.bk_log.proofs.sizes.LedgerSizes.into_map.Goals.{then-size-gt0+in_ok-insert, else-size-gt0}

pub returns : goal.returns
returns c =
    let was = c.self.inside in
    elim c.if-size-gt0.branch [
      | then-size-gt0+in_ok-insert w ↦
          ap map_of w.others-is ∙ inserted _ _ was.ledger was.size w.in_ok-insert.ensures.updates.0
          ∙ sym (with_last-some (map_of was.others) was.ledger was.size w.if-size-gt0.true) ∙ ap (λ t. t.sizes) c.self.view_is
      | else-size-gt0 w ↦
          ap map_of w.others-is ∙ sym (with_last-none (map_of was.others) was.ledger was.size (omega (arith, w.if-size-gt0.false)))
          ∙ ap (λ t. t.sizes) c.self.view_is
    ]
