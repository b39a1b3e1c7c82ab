use Rattle.std.proofs.Common.{◌≡◌, length}
use Rattle.bk_store.specs.LedgerReads.{HasLiveEntry}
use Rattle.bk_store.proofs.ReadPages.{IsPageUpTo}
use Rattle.bk_store.proofs.fields.Fields.entries.Given as goal

abbrev pub invariant-loop : goal.invariant-loop
invariant-loop g l = record {
  counted : length l.page.items ≡ l.counter;
  upto : IsPageUpTo (HasLiveEntry l.self.state l.ledger) l.from l.at l.page.items;
}
