use Rattle.std.proofs.Common.{not, sym, ap, ◌∙◌, arith}
use Rattle.std.specs.Bool.{◌==◌}
use Rattle.bk_record.specs.Key.{key_cmp}
use Rattle.bk_index.specs.Keyed.{without_ledger}
use Rattle.bk_index.specs.Pages.{all_pairs}
use Rattle.bk_record.proofs.Keys.{key_cmp_total, key_cmp_antisymmetric}
use Rattle.bk_record.proofs.SortedMaps.{is_sorted-filter, retain_keys-sorted}
use Rattle.bk_record.proofs.KeyedLaws.{len-without_ledger}
use Rattle.bk_index.proofs.CountedPages.{len_seen}
use Rattle.bk_index.proofs.index.Index.drop_ledger.Goals as goal

pub invariant_of-self : goal.invariant_of-self
invariant_of-self c = record {
  sorted = rw c.drop_ledger-dropped.ensures.left (is_sorted-filter key_cmp (all_pairs c.self.inside.pages) c.self.invariant.sorted
      (λ key. not (key.ledger == c.args.ledger)));
  counted = omega (arith, c.self.invariant.counted, c.drop_ledger-dropped.ensures.count);
}

pub returns-clause-left : goal.returns-clause-left
returns-clause-left c =
    rw c.drop_ledger-dropped.ensures.left (sym (retain_keys-sorted key_cmp _ c.self.invariant.sorted key_cmp_total key_cmp_antisymmetric _))
    ∙ ap (λ m. without_ledger m c.args.ledger) c.self.view_is

pub returns-clause-count : goal.returns-clause-count
returns-clause-count c =
    let sorted = (invariant_of-self c).sorted in
    let left = len_seen c.drop_ledger-dropped.new.self sorted _ (returns-clause-left c) in
    omega (
      arith,
      left,
      len_seen c.self.inside.pages c.self.invariant.sorted c.args.self.now c.self.view_is,
      c.drop_ledger-dropped.ensures.count,
      len-without_ledger c.args.self.now c.args.ledger,
    )
