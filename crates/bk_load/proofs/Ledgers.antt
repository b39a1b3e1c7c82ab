-- The ledgers of files, against those of the index of a store that was opened on them.
use Rattle.std.proofs.Common.{◌≡◌, inl, inr, ℕ, ◌<◌, Bool, IsTrue, false, List, [], ◌∷◌, Option, Some, None, refl, sym, ap, ◌∙◌, subst}
use Rattle.std.specs.List.{All}
use Rattle.std.specs.FinMap as finite
use Rattle.std.specs.FinSet as set
use Rattle.std.proofs.lemmas.List.Elements.{All-head, All-tail}
use Rattle.bk_record.specs.Key.{EntryKey}
use Rattle.bk_record.specs.Location.{Place}
use Rattle.bk_record.specs.Files.{Files, In, file_of}
use Rattle.bk_record.specs.Keyed.{Places}
use Rattle.bk_record.specs.Scan.{Ledgers}
use Rattle.bk_record.proofs.Entries.{get-In}
use Rattle.bk_record.proofs.Keys.{key_cmp_total, key_cmp_antisymmetric}
use Rattle.bk_store.specs.Entries.{HasEntry, IsIndexOf}
use Rattle.bk_store.specs.Ledgers.{KnownLedgers}
use Rattle.bk_store.specs.Opening.{IsOpened}
use Rattle.bk_store.specs.State.{State}
use Rattle.bk_store.specs.Transitions.{valid_ledgers}
use Rattle.bk_store.specs.declared.settings.Settings.{Settings}
use Rattle.bk_load.specs.Before.{IsPastLedgers}

all_in : {X : Type 0} (P : X → Type 0) (x : X) (xs : List X) → All P xs → In x xs → P x
all_in P x [] all never = absurd never
all_in P x (y ∷ ys) all (inl e) = subst P e (All-head P y ys all)
all_in P x (y ∷ ys) all (inr later) = all_in P x ys (All-tail P y ys all) later

-- every entry is of a key of the index
past_ledgers : (files : Files) (dead : Ledgers) (index : Places) (first : ℕ) → IsIndexOf (file_of files) dead index
    → ((ledger : ℕ) → set.contains dead ledger ≡ false) → All (λ e. e.0.ledger < first) (finite.entries index) → IsPastLedgers files first
past_ledgers files dead index first is none below place key payload here =
    elim (finite.get index key) as (λ o. finite.get index key ≡ o → key.ledger < first) [
      | None ↦ λ missing. absurd (is.missing key missing (none key.ledger) place payload here)
      | Some at ↦ λ found. all_in (λ (e : EntryKey × Place). e.0.ledger < first) (key, at) (finite.entries index) below
          (get-In key_cmp_total key_cmp_antisymmetric index key at found)
    ] refl

-- the same of a store that was opened with no deleted ledger
pub opened_past : (honest : Bool) (files mid : Files) (settings : Settings) (s : State) (first : ℕ) → IsTrue honest → mid ≡ files
    → IsOpened honest mid settings [] s
    → All (λ e. e.0.ledger < first) (finite.entries s.index) → IsPastLedgers files first
opened_past honest files mid settings s first is_honest same opened below =
    let none : (ledger : ℕ) → set.contains s.ledgers.dead ledger ≡ false = λ ledger.
    ap (λ (l : KnownLedgers). set.contains l.dead ledger) opened.ledgers_are ∙ set.contains-from_list_nat [] ledger in
    subst (λ (fs : Files). IsPastLedgers fs first) same (past_ledgers mid s.ledgers.dead s.index first (opened.holds is_honest).index none below)
