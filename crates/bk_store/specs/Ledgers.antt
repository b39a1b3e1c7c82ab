-- The known ledgers of a store: deleted ones, fenced ones, and the trail.
use Rattle.std.specs.Prelude.{◌≡◌, ◌↔◌, ℕ, Bool, true, false, List, [], ◌∷◌, ◌++◌, length, refl}
use Rattle.std.specs.Coded.{Coded, code_by, coded×, coded_ℕ, coded_list}
use Rattle.std.specs.FinSet as set
use Rattle.bk_record.specs.Key.{EntryKey}
use Rattle.bk_record.specs.Scan.{Ledgers}
use Rattle.sha2.specs.Sha256.{sha256}
use Rattle.bk_store.specs.Trail.{WasDeleted, WasFenced, mark_code}
use Rattle.bk_store.specs.declared.adding.AddKind.{AddKind}
use Rattle.bk_store.specs.declared.adding.AddKind.TheVariants.{Ordinary, Recovery}
use Rattle.bk_store.specs.declared.mark.Mark.{Mark}
use Rattle.bk_store.specs.declared.mark.Mark.TheVariants.{Add, Delete, Fence}
use Rattle.bk_store.specs.declared.mark.Receipt.{Receipt}

-- deleted ledgers, fenced ledgers, and the marks of what was accepted
pub record KnownLedgers : Type 0 where
  pub dead : Ledgers
  pub fenced : Ledgers
  pub trail : List Mark

-- the known ledgers after an opening: none is fenced, and the trail is empty
abbrev pub opened_ledgers : Ledgers → KnownLedgers
opened_ledgers dead = record { dead = dead; fenced = set.empty; trail = [] }

-- a fence bars ordinary adds to a ledger, but not those of a recovery
abbrev pub is_barred : AddKind → Ledgers → ℕ → Bool
is_barred Ordinary fenced ledger = set.contains fenced ledger
is_barred Recovery fenced ledger = false

-- ---- accepted changes

-- the receipt of an accepted entry: it has the number of the next mark
abbrev pub receipt_of : List Mark → EntryKey → List ℕ → Receipt
receipt_of trail key payload = record { number = length trail; key = key; digest = sha256 payload }

-- an entry was added
abbrev pub with_add : KnownLedgers → EntryKey → List ℕ → KnownLedgers
with_add l key payload = record l { trail = l.trail ++ Add key (sha256 payload) ∷ [] }

-- a ledger was deleted: it stays so, and is no longer fenced
abbrev pub with_deletion : KnownLedgers → ℕ → KnownLedgers
with_deletion l ledger = record l {
  dead = set.insert l.dead ledger;
  fenced = set.remove l.fenced ledger;
  trail = l.trail ++ Delete ledger ∷ [];
}

-- a ledger was fenced
abbrev pub with_fence : KnownLedgers → ℕ → KnownLedgers
with_fence l ledger = record l { fenced = set.insert l.fenced ledger; trail = l.trail ++ Fence ledger ∷ [] }

-- The trail determines the fenced ledgers: those that were fenced and not deleted. Ledgers of
-- `Delete` marks are deleted.
pub record LedgersMatchTrail (l : KnownLedgers) : Type 0 where
  pub gone : (ledger : ℕ) → WasDeleted l.trail ledger → set.contains l.dead ledger ≡ true
  pub fenced : (ledger : ℕ) → (set.contains l.fenced ledger ≡ true) ↔ (WasFenced l.trail ledger × ¬ (WasDeleted l.trail ledger))

-- ---- representation in a model

abbrev pub known_ledgers_code : Coded KnownLedgers
known_ledgers_code = code_by (Ledgers × (Ledgers × List Mark)) (coded× (set.code coded_ℕ) (coded× (set.code coded_ℕ) (coded_list mark_code)))
    (λ l. (l.dead, (l.fenced, l.trail))) (λ p. record { dead = p.0; fenced = p.1.0; trail = p.1.1 }) (λ _. refl)

-- the known ledgers in memory, and how many more marks fit without an allocation
pub record HeldLedgers : Type 0 where
  pub known : KnownLedgers
  pub room : ℕ

abbrev pub held_ledgers_code : Coded HeldLedgers
held_ledgers_code = code_by (KnownLedgers × ℕ) (coded× known_ledgers_code coded_ℕ) (λ l. (l.known, l.room)) (λ p. record { known = p.0; room = p.1 }) (λ _. refl)
