use Rattle.std.proofs.Common.{List, leb, take, length, ◌-◌, option_map, slice_get, sym, ap, ◌∙◌, rules}
use Rattle.std.proofs.lemmas.List.Sorted.{IsPartitionPoint-from_clause}
use Rattle.bk_record.specs.Key.{EntryKey}
use Rattle.bk_record.specs.Location.{Place}
use Rattle.bk_index.proofs.LedgerFences.{is_downward_upto}
use Rattle.bk_index.proofs.OrderedPages.{cut_front}
use Rattle.bk_index.proofs.CutPages.{pairs_parted}
use Rattle.bk_index.proofs.page.plain.Plain.last_upto.Goals as goal

pub returns-in_err-key : goal.returns-in_err-key
returns-in_err-key c =
    let pairs = c.self.inside.pairs.items in
    let n = c.partition_point-upto.result in
    let cut = IsPartitionPoint-from_clause (λ e. leb e.0.ledger c.args.ledger) c.deref.result.now n c.partition_point-upto.ensures.partitioned
    (rw c.deref.ensures.value (pairs_parted (λ k. leb k.ledger c.args.ledger) (is_downward_upto c.args.ledger) pairs c.self.invariant)) (λ a r q k. search rules) in
    let front = ap (take n) c.deref-2.ensures.value ∙ sym (cut_front (λ e. leb e.0.ledger c.args.ledger) pairs n (rw c.deref.ensures.value at cut)) in
    rw (c.from_residual.ensures, ← c.self.view_is)
    (ap (option_map (λ e. e.0)) (c.in_err-key.ensures.value ∙ ap (λ (es : List (EntryKey × Place)). slice_get es (length es - 1)) front))

pub returns : goal.returns
returns c =
    let pairs = c.self.inside.pairs.items in
    let n = c.partition_point-upto.result in
    let cut = IsPartitionPoint-from_clause (λ e. leb e.0.ledger c.args.ledger) c.deref.result.now n c.partition_point-upto.ensures.partitioned
    (rw c.deref.ensures.value (pairs_parted (λ k. leb k.ledger c.args.ledger) (is_downward_upto c.args.ledger) pairs c.self.invariant)) (λ a r q k. search rules) in
    let front = ap (take n) c.deref-2.ensures.value ∙ sym (cut_front (λ e. leb e.0.ledger c.args.ledger) pairs n (rw c.deref.ensures.value at cut)) in
    rw (← c.self.view_is)
    (ap (option_map (λ e. e.0)) (c.in_ok-key.ensures.value ∙ ap (λ (es : List (EntryKey × Place)). slice_get es (length es - 1)) front))
