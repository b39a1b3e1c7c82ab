-- Reads by ledger: what a store answers, and what the abstract map answers. Neither is changed.
use Rattle.std.specs.Prelude.{◌≡◌, ◌↔◌, ℕ, IsTrue, IsSome, Ok, Err}
use Rattle.std.specs.FinMap as finite
use Rattle.std.specs.FinSet as set
use Rattle.bk_store.specs.State.{State}
use Rattle.bk_store.specs.Transitions.{is_fenced}
use Rattle.bk_store.specs.LedgerReads.{HasLiveEntry, HasLiveLedger, IsGreatest, IsPage}
use Rattle.bk_store.specs.Abstract.{AbstractState}
use Rattle.bk_drive.specs.declared.ledger_reads.LedgerRead.{LedgerRead}
use Rattle.bk_drive.specs.declared.ledger_reads.LedgerRead.TheVariants as reads
use Rattle.bk_drive.specs.declared.ledger_reads.LedgerReadAnswer.{LedgerReadAnswer}
use Rattle.bk_drive.specs.declared.ledger_reads.LedgerReadAnswer.TheVariants as told

-- Read of a store. A page fails only if out of memory.
abbrev pub LedgerReadOf : State → LedgerRead → LedgerReadAnswer → Type 0
LedgerReadOf s (reads.Holds key) (told.Holds is) = IsTrue is ↔ HasLiveEntry s key.ledger key.entry
LedgerReadOf s (reads.IsFenced ledger) (told.IsFenced is) = is ≡ is_fenced s ledger
LedgerReadOf s (reads.LastEntry ledger) (told.LastEntry last) = IsGreatest (HasLiveEntry s ledger) last
LedgerReadOf s (reads.Entries ledger from most) (told.Entries (Ok page)) = IsPage (HasLiveEntry s ledger) from most page.items
LedgerReadOf s (reads.Entries ledger from most) (told.Entries (Err fault)) = Unit {0}
LedgerReadOf s (reads.Ledgers from most) (told.Ledgers (Ok page)) = IsPage (HasLiveLedger s) from most page.items
LedgerReadOf s (reads.Ledgers from most) (told.Ledgers (Err fault)) = Unit {0}
LedgerReadOf s read answer = ⊥

-- The map has the entry; it has an entry of the ledger.
abbrev pub HasEntry : AbstractState → ℕ → ℕ → Type 0
HasEntry p ledger entry = IsSome (finite.get p.map (record { ledger = ledger; entry = entry }))

abbrev pub HasLedger : AbstractState → ℕ → Type 0
HasLedger p ledger = (entry : ℕ) × HasEntry p ledger entry

-- Read of the abstract map.
abbrev pub AbstractLedgerRead : AbstractState → LedgerRead → LedgerReadAnswer → Type 0
AbstractLedgerRead p (reads.Holds key) (told.Holds is) = IsTrue is ↔ HasEntry p key.ledger key.entry
AbstractLedgerRead p (reads.IsFenced ledger) (told.IsFenced is) = is ≡ set.contains p.ledgers.fenced ledger
AbstractLedgerRead p (reads.LastEntry ledger) (told.LastEntry last) = IsGreatest (HasEntry p ledger) last
AbstractLedgerRead p (reads.Entries ledger from most) (told.Entries (Ok page)) = IsPage (HasEntry p ledger) from most page.items
AbstractLedgerRead p (reads.Entries ledger from most) (told.Entries (Err fault)) = Unit {0}
AbstractLedgerRead p (reads.Ledgers from most) (told.Ledgers (Ok page)) = IsPage (HasLedger p) from most page.items
AbstractLedgerRead p (reads.Ledgers from most) (told.Ledgers (Err fault)) = Unit {0}
AbstractLedgerRead p read answer = ⊥
