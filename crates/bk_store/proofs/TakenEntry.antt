-- An entry that the caches took and that was marked is one that was added.
use Rattle.std.proofs.Common.{◌≡◌, ℕ, List, false, ◌||◌, None, Ok, is_some}
use Rattle.std.specs.FinMap as finite
use Rattle.bk_record.specs.Key.{EntryKey}
use Rattle.bk_record.specs.Record.{read_added}
use Rattle.bk_cache.specs.Caches.{CacheState}
use Rattle.bk_cache.specs.Transitions.{CacheAddTransition}
use Rattle.bk_cache.specs.declared.cache_add.CacheAdd.TheVariants.{Taken}
use Rattle.bk_store.specs.Ledgers.{KnownLedgers, is_barred, receipt_of, with_add}
use Rattle.bk_store.specs.State.{State}
use Rattle.bk_store.specs.Transitions.{AddTransition, is_dead}
use Rattle.bk_store.specs.declared.adding.AddKind.{AddKind}
use Rattle.bk_store.specs.declared.answer.Added.TheVariants.{Accepted}
use Rattle.bk_store.specs.declared.mark.Receipt.{Receipt}

pub taken_is_added : (s : State) (caches : CacheState) (ledgers : KnownLedgers) (kind : AddKind) (key : EntryKey) (payload : List ℕ) (receipt : Receipt)
    → read_added payload ≡ Ok key → is_dead s key.ledger ≡ false → is_barred kind s.ledgers.fenced key.ledger ≡ false → finite.get s.index key ≡ None
    → CacheAddTransition s.caches key payload (Ok Taken) caches → receipt ≡ receipt_of s.ledgers.trail key payload → ledgers ≡ with_add s.ledgers key payload
    → AddTransition s kind payload (Ok (Accepted receipt)) (record s { caches = caches; ledgers = ledgers })
taken_is_added s caches ledgers kind key payload receipt reads lives unbarred unnamed taken given marked = (
  record {
    key = key;
    reads = reads;
    lives = lives;
    unbarred = unbarred;
    held = (λ i. is_some (taken.0 i) || is_some (unnamed i));
  },
  taken.1,
  given,
  (λ i. record s { caches = taken.2 i; ledgers = marked i }),
)
