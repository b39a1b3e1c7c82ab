use Rattle.std.proofs.Common.{not, rules}
use Rattle.std.specs.Bool.{◌==◌}
use Rattle.std.proofs.lemmas.Fn.{filter_same}
use Rattle.bk_record.specs.Key.{key_cmp}
use Rattle.bk_record.proofs.SortedMaps.{is_sorted-filter}
use Rattle.bk_index.proofs.page.plain.Plain.drop_ledger.Goals as goal

-- `retain` leaves the pairs of other ledgers
pub invariant_of-self : goal.invariant_of-self
invariant_of-self c =
    let kept = filter_same _ (λ e. not (e.0.ledger == c.args.ledger)) _ (λ x b f' r. search rules) _ _ c.retain.ensures.filtered in
    rw kept (is_sorted-filter key_cmp _ c.self.invariant (λ key. not (key.ledger == c.args.ledger)))

pub returns-clause-left : goal.returns-clause-left
returns-clause-left c =
    let kept = filter_same _ (λ e. not (e.0.ledger == c.args.ledger)) _ (λ x b f' r. search rules) _ _ c.retain.ensures.filtered in
    rw (kept, c.self.view_is)
