-- Answers to reads by ledger. Read `EntriesAnswers` first.
use Rattle.std.specs.Prelude.{◌≡◌, ◌⊎◌, ℕ, min, Bool, false, List, Option, Some, None}
use Rattle.std.specs.Int.{w64, to_be_bytes}
use Rattle.std.specs.List.{flat_map}
use Rattle.bk_store.specs.State.{State}
use Rattle.bk_store.specs.Transitions.{is_dead}
use Rattle.bk_store.specs.LedgerReads.{HasLiveEntry, HasLiveLedger, IsGreatest, IsPage}
use Rattle.bk_serve_core.specs.Replies.{Told, done, refused, last, not_held, page}
use Rattle.bk_serve_core.specs.declared.refusal.Refusal.TheVariants as f
use Rattle.bk_serve.specs.Ledgers.{IsBadLedger, IsGone}
use Rattle.bk_serve.specs.Reads.{ReadAnswers}

-- ids as bytes, eight each
abbrev pub bytes_of_ids : List ℕ → List ℕ
bytes_of_ids ids = flat_map (to_be_bytes w64) ids

-- number of ids of a page: at most as many as the client takes, and at most 1,000
abbrev pub most_of_page : ℕ → ℕ
most_of_page most = min most 1000

-- The reply has a page, or there is no memory for it.
abbrev pub GivesPage : List ℕ → Told → Type 0
GivesPage ids reply = (reply ≡ refused f.Memory) ⊎ (reply ≡ done (page (bytes_of_ids ids)))

-- A page of a live ledger has the first entries from an id on.
pub data EntriesAnswers (ledger from most : ℕ) (s : State) (reply : Told) : Type 0 where
  bad : IsBadLedger ledger reply → EntriesAnswers ledger from most s reply
  gone : IsGone s ledger f.Deleted reply → EntriesAnswers ledger from most s reply
  without_memory : reply ≡ refused f.Memory → EntriesAnswers ledger from most s reply
  pages : (ids : List ℕ) → is_dead s ledger ≡ false → IsPage (HasLiveEntry s ledger) from (most_of_page most) ids → GivesPage ids reply
      → EntriesAnswers ledger from most s reply

-- A page has the first live ledgers with an entry from an id on.
pub data LedgersAnswers (from most : ℕ) (s : State) (reply : Told) : Type 0 where
  without_memory : reply ≡ refused f.Memory → LedgersAnswers from most s reply
  pages : (ids : List ℕ) → IsPage (HasLiveLedger s) from (most_of_page most) ids → GivesPage ids reply → LedgersAnswers from most s reply

abbrev pub told_of_last : Option ℕ → Told
told_of_last (Some entry) = done (last entry)
told_of_last None = done not_held

-- The reply has the greatest entry of a live ledger.
pub data LastEntryAnswers (ledger : ℕ) (s : State) (reply : Told) : Type 0 where
  bad : IsBadLedger ledger reply → LastEntryAnswers ledger s reply
  gone : IsGone s ledger f.Deleted reply → LastEntryAnswers ledger s reply
  tells : (greatest : Option ℕ) → is_dead s ledger ≡ false → IsGreatest (HasLiveEntry s ledger) greatest → reply ≡ told_of_last greatest
      → LastEntryAnswers ledger s reply

-- The greatest entry of a live ledger is read.
pub data ReadLastAnswers {V : Type 0} (bytes : V → List ℕ) (honest sound : V → Bool) (ledger : ℕ) (s : State) (reply : Told) (t : State) : Type 0 where
  bad : IsBadLedger ledger reply → t ≡ s → ReadLastAnswers bytes honest sound ledger s reply t
  gone : IsGone s ledger f.Deleted reply → t ≡ s → ReadLastAnswers bytes honest sound ledger s reply t
  none : is_dead s ledger ≡ false → IsGreatest (HasLiveEntry s ledger) None → reply ≡ done not_held → t ≡ s
      → ReadLastAnswers bytes honest sound ledger s reply t
  reads : (entry_id : ℕ) → is_dead s ledger ≡ false → IsGreatest (HasLiveEntry s ledger) (Some entry_id)
      → ReadAnswers bytes honest sound ledger entry_id s reply t → ReadLastAnswers bytes honest sound ledger s reply t
