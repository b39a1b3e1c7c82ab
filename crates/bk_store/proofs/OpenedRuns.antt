-- A run of entries that is tallied at once: its keys in the index, and its bytes in the account of
-- its log.
use Rattle.std.proofs.Common.{◌≡◌, ℕ, zero, suc, ◌+◌, ◌*◌, ◌<◌, true, false, if◌then◌else◌, ap, ◌∙◌, refl, sym, arith}
use Rattle.std.specs.FinMap as finite
use Rattle.std.specs.FinSet as set
use Rattle.bk_record.specs.Location.{Place}
use Rattle.bk_record.specs.Keyed.{Places}
use Rattle.bk_record.specs.Scan.{Ledgers}
use Rattle.bk_log.specs.declared.found.Found.{Found}
use Rattle.bk_log.specs.FoundRuns.{found_adjacent, founds_from}
use Rattle.bk_index.specs.Runs.{with_run}
use Rattle.bk_accounts.specs.Book.{Book, after_ready, after_count, after_count_dead}
use Rattle.bk_accounts.proofs.ManyCalls.{counts_add, counts_dead_add}
use Rattle.bk_store.specs.Found.{with_entry, with_entries}
use Rattle.bk_store.specs.declared.open.tally.Tally.{Tally}

-- the place of an entry of a log
abbrev place_in : ℕ → Found → Place
place_in log f = record { log = log; at = f.at }

-- the index and the accounts after a run of a live ledger
abbrev pub live_run : ℕ → Tally → Found → ℕ → Tally
live_run log t f n = record t {
  index = with_run t.index f.key (place_in log f) f.size n;
  accounts = after_count (after_ready t.accounts log f.key.ledger) log f.key.ledger (n * f.size);
}

-- the accounts after so many bytes of deleted ledgers
abbrev dead_after : ℕ → Tally → ℕ → Tally
dead_after log t bytes = record t { accounts = after_count_dead t.accounts log bytes }

-- the accounts after a run of a deleted ledger
abbrev pub dead_run : ℕ → Tally → Found → ℕ → Tally
dead_run log t f n = dead_after log t (n * f.size)

module _ (log : ℕ) (dead : Ledgers) (ledger : ℕ) where
  abbrev counted : Places → Book → ℕ → Tally
  counted index book bytes = record { index = index; accounts = after_count (after_ready book log ledger) log ledger bytes; dead = dead }

  module _ (alive : set.contains dead ledger ≡ false) where
    entry_live : (index : Places) (book : Book) (f : Found) → f.key.ledger ≡ ledger
        → with_entry log (record { index = index; accounts = book; dead = dead }) f
        ≡ counted (finite.insert index f.key (place_in log f)) book f.size
    entry_live index book f same =
        (λ i. record {
          index = if (ap (set.contains dead) same ∙ alive) i then index else finite.insert index f.key (place_in log f);
          accounts = if (ap (set.contains dead) same ∙ alive) i
              then after_count_dead book log f.size
              else after_count (after_ready book log f.key.ledger) log f.key.ledger f.size;
          dead = dead;
        })
        ∙ ap (λ (l : ℕ). record {
          index = finite.insert index f.key (place_in log f);
          accounts = after_count (after_ready book log l) log l f.size;
          dead = dead;
        }) same

    entries_live : (n : ℕ) (index : Places) (book : Book) (bytes : ℕ) (f : Found) → f.key.ledger ≡ ledger
        → with_entries log (counted index book bytes) (founds_from f n)
        ≡ counted (with_run index f.key (place_in log f) f.size n) book (bytes + n * f.size)
    entries_live zero index book bytes f same = let none : bytes ≡ bytes + 0 * f.size = omega arith in ap (counted index book) none
    entries_live (suc n) index book bytes f same =
        let count : bytes + f.size + n * f.size ≡ bytes + suc n * f.size = omega arith in
        let first : with_entry log (counted index book bytes) f ≡ counted (finite.insert index f.key (place_in log f)) book (bytes + f.size) =
        entry_live index (after_count (after_ready book log ledger) log ledger bytes) f same
        ∙ ap (λ (b : Book). record { index = finite.insert index f.key (place_in log f); accounts = b; dead = dead })
        (counts_add book log ledger bytes f.size) in
        ap (λ (t : Tally). with_entries log t (founds_from (found_adjacent f) n)) first
        ∙ entries_live n (finite.insert index f.key (place_in log f)) book (bytes + f.size) (found_adjacent f) same
        ∙ ap (counted (with_run (finite.insert index f.key (place_in log f)) (found_adjacent f).key (place_in log (found_adjacent f)) f.size n) book) count

  module _ (gone : set.contains dead ledger ≡ true) where
    entry_dead : (index : Places) (book : Book) (f : Found) → f.key.ledger ≡ ledger
        → with_entry log (record { index = index; accounts = book; dead = dead }) f
        ≡ record { index = index; accounts = after_count_dead book log f.size; dead = dead }
    entry_dead index book f same = λ i. record {
      index = if (ap (set.contains dead) same ∙ gone) i then index else finite.insert index f.key (place_in log f);
      accounts = if (ap (set.contains dead) same ∙ gone) i
          then after_count_dead book log f.size
          else after_count (after_ready book log f.key.ledger) log f.key.ledger f.size;
      dead = dead;
    }

    entries_dead : (n : ℕ) (index : Places) (book : Book) (bytes : ℕ) (f : Found) → f.key.ledger ≡ ledger
        → with_entries log (record { index = index; accounts = after_count_dead book log bytes; dead = dead }) (founds_from f n)
        ≡ record { index = index; accounts = after_count_dead book log (bytes + n * f.size); dead = dead }
    entries_dead zero index book bytes f same =
        let none : bytes ≡ bytes + 0 * f.size = omega arith in
        ap (λ (b : ℕ). record { index = index; accounts = after_count_dead book log b; dead = dead }) none
    entries_dead (suc n) index book bytes f same =
        let count : bytes + f.size + n * f.size ≡ bytes + suc n * f.size = omega arith in
        let first : with_entry log (record { index = index; accounts = after_count_dead book log bytes; dead = dead }) f
        ≡ record { index = index; accounts = after_count_dead book log (bytes + f.size); dead = dead } =
        entry_dead index (after_count_dead book log bytes) f same
        ∙ ap (λ (b : Book). record { index = index; accounts = b; dead = dead }) (counts_dead_add book log bytes f.size) in
        ap (λ (t : Tally). with_entries log t (founds_from (found_adjacent f) n)) first
        ∙ entries_dead n index book (bytes + f.size) (found_adjacent f) same
        ∙ ap (λ (b : ℕ). record { index = index; accounts = after_count_dead book log b; dead = dead }) count

-- a run of a live ledger
pub run_live : (log : ℕ) (t : Tally) (f : Found) (n : ℕ) → 0 < n → set.contains t.dead f.key.ledger ≡ false
    → live_run log t f n ≡ with_entries log t (founds_from f n)
run_live log t f zero some alive = absurd (omega arith)
run_live log t f (suc n) some alive =
    let count : f.size + n * f.size ≡ suc n * f.size = omega arith in
    sym
    (ap (λ (u : Tally). with_entries log u (founds_from (found_adjacent f) n)) (entry_live log t.dead f.key.ledger alive t.index t.accounts f refl)
    ∙ entries_live log t.dead f.key.ledger alive n (finite.insert t.index f.key (place_in log f)) t.accounts f.size (found_adjacent f) refl
    ∙ ap (counted log t.dead f.key.ledger (with_run t.index f.key (place_in log f) f.size (suc n)) t.accounts) count)

-- a run of a deleted ledger
pub run_dead : (log : ℕ) (t : Tally) (f : Found) (n : ℕ) → 0 < n → set.contains t.dead f.key.ledger ≡ true
    → dead_run log t f n ≡ with_entries log t (founds_from f n)
run_dead log t f zero some gone = absurd (omega arith)
run_dead log t f (suc n) some gone =
    let count : f.size + n * f.size ≡ suc n * f.size = omega arith in
    sym
    (ap (λ (u : Tally). with_entries log u (founds_from (found_adjacent f) n)) (entry_dead log t.dead f.key.ledger gone t.index t.accounts f refl)
    ∙ entries_dead log t.dead f.key.ledger gone n t.index t.accounts f.size (found_adjacent f) refl
    ∙ ap (λ (b : ℕ). dead_after log t b) count)
