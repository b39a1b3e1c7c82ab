use Rattle.std.proofs.Common.{◌≡◌, ◌+◌, length}
use Rattle.std.specs.List.{filter, sum_by}
use Rattle.std.specs.Map.{values_of}
use Rattle.std.specs.BTreeMap.{btree_map_len}
use Rattle.bk_cache.specs.Rows.{all_pairs, ArePages}
use Rattle.bk_cache.proofs.RowLedgers.{other}
use Rattle.bk_cache.proofs.rows.Rows.drop_ledger.Given as goal

abbrev pub invariant-loop-page : goal.invariant-loop-page
invariant-loop-page l = record {
  are : ArePages l.self-inside.pages.entries;
  others : filter (other l.ledger) (all_pairs l.self-inside.pages.entries) ≡ filter (other l.ledger) (all_pairs l.initial.self-inside.pages.entries);
  count : length (all_pairs l.self-inside.pages.entries) + l.count ≡ length (all_pairs l.initial.self-inside.pages.entries);
  bytes : sum_by length (values_of (all_pairs l.self-inside.pages.entries)) + l.bytes
      ≡ sum_by length (values_of (all_pairs l.initial.self-inside.pages.entries));
}

abbrev pub decreases-loop-page : goal.decreases-loop-page
decreases-loop-page l = btree_map_len l.self-inside.pages
