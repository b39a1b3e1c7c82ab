-- One log changes, and its file with it: what remains to be proved for the store invariant.
use Rattle.std.proofs.Common.{◌≡◌, ◌≢◌, inl, inr, ℕ, ◌+◌, ◌≤◌, ◌↔◌, false, IsTrue, List, [], Option, Some, is_some, unwrap_or, refl, sym, ap, subst, ◌∙◌, arith}
use Rattle.std.specs.FinMap as finite
use Rattle.std.specs.FinSet as set
use Rattle.bk_record.specs.Key.{EntryKey}
use Rattle.bk_record.specs.Location.{Place}
use Rattle.bk_record.specs.Record.{key_of}
use Rattle.bk_record.specs.Files.{Files, file_of, header_length, In}
use Rattle.bk_record.specs.Keyed.{log_count}
use Rattle.bk_log.specs.Growing.{Gains, HasNoBadLength}
use Rattle.bk_log.specs.Writing as writers
use Rattle.bk_accounts.specs.Book.{Book, named_in, total_at}
use Rattle.bk_accounts.specs.Sums.{AreSums}
use Rattle.bk_store.specs.Published.{IndexIsPublished}
use Rattle.bk_store.specs.Logs.{Log, Logs, HasOpenView, IsFlushLog, open_parts}
use Rattle.bk_lease.specs.Values.{SlotTable}
use Rattle.bk_store.specs.SlotAssignment.{IsSeated, slot_state}
use Rattle.bk_store.specs.Jobs.{Job}
use Rattle.bk_store.specs.JobInvariant.{JobInvariant}
use Rattle.bk_store.specs.State.{StoreParts}
use Rattle.bk_store.specs.Invariant.{StoreInvariant, StructuralInvariant, ContentInvariant, HeldLogInvariant, LogMatchesFile, entry_measure, acknowledged_entries}
use Rattle.bk_store.specs.Primitives.{IsIdle}
use Rattle.bk_store.specs.declared.log.LogState.TheVariants.{Writing}
use Rattle.bk_store.proofs.Cases.{same_or_apart}
use Rattle.bk_store.proofs.Growing.{EntriesStay, OnlyIn, Grows, grows_behind, carries_grown}
use Rattle.bk_store.proofs.OneLog.{IsFlushed, each_log, names_stay}
use Rattle.bk_store.proofs.Seats.{seated_one}
use Rattle.bk_store.proofs.JobStays.{job_stays, stays_same, stays_else}

-- the parts with one log changed, and the table of the slots
abbrev pub with_one_in : SlotTable → StoreParts → ℕ → Log → Files → ℕ → Book → Option ℕ → StoreParts
with_one_in keeper p id new files failures accounts writing = record p {
  state = record p.state { files = files; failures = failures; logs = finite.insert p.state.logs id new; keeper = keeper };
  accounts = accounts;
  writing = writing;
}

-- the parts with one log changed
abbrev pub with_one : StoreParts → ℕ → Log → Files → ℕ → Book → Option ℕ → StoreParts
with_one p id new files failures accounts writing = with_one_in p.state.keeper p id new files failures accounts writing

-- the log of this id is Writing
abbrev pub IsWritingIn : Logs → ℕ → Type 0
IsWritingIn logs id = (log : Log) × (finite.get logs id ≡ Some log) × (log.state ≡ Writing)

module _ (p : StoreParts) (id : ℕ) (log new : Log) (held : finite.get p.state.logs id ≡ Some log) (files : Files) (failures : ℕ) (accounts : Book)
    (writing : Option ℕ) where
  pub fits_in : (keeper : SlotTable) → IsSeated p.state.settings keeper (finite.insert p.state.logs id new) → StructuralInvariant p → HeldLogInvariant p.state.next id new
      → ((key : EntryKey) (place : Place) → finite.get p.state.index key ≡ Some place → HasOpenView (finite.insert p.state.logs id new) place.log)
      → ((key : EntryKey) (place : Place) → finite.get p.state.places key ≡ Some place → IsFlushLog (finite.insert p.state.logs id new) place.log)
      → ((q : ℕ) → (writing ≡ Some q) ↔ IsWritingIn (finite.insert p.state.logs id new) q)
      → (IsFlushed new → In id p.filled) → (new.state ≡ Writing → log.state ≡ Writing)
      → ((q : ℕ) → named_in accounts q ≡ named_in p.accounts q)
      → total_at accounts id + header_length ≤ new.acknowledged
      → ((q : ℕ) → q ≢ id → total_at accounts q ≡ total_at p.accounts q)
      → StructuralInvariant (with_one_in keeper p id new files failures accounts writing)
  fits_in keeper seated fits new_held sent flushed writes listed written named total others = record {
    limits = fits.limits;
    logs = record {
      seated = seated;
      each = each_log p.state.logs id log new held (λ q l. HeldLogInvariant p.state.next q l) new_held (λ q l _ is. fits.logs.each q l is);
      writing = writes;
      filled = each_log p.state.logs id log new held (λ q l. IsFlushed l → In q p.filled) listed (λ q l _ is. fits.logs.filled q l is);
    };
    sent = sent;
    placed = record {
      idle = fits.placed.idle;
      flushing = fits.placed.flushing;
      logs = flushed;
      front = fits.placed.front;
      rising = fits.placed.rising;
      newest = each_log p.state.logs id log new held
          (λ q l. l.state ≡ Writing → (key : EntryKey) (place : Place) → finite.get p.state.places key ≡ Some place → place.log ≤ q)
          (λ now. fits.placed.newest id log held (written now)) (λ q l _ is. fits.placed.newest q l is);
    };
    ledgers = fits.ledgers;
    accounts = record {
      named = λ q. named q ∙ fits.accounts.named q ∙ names_stay p.state.logs id log new held (log_count p.state.index) q;
      total = each_log p.state.logs id log new held (λ q l. total_at accounts q + header_length ≤ l.acknowledged) total
          (λ q l apart is. subst (λ n. n + header_length ≤ l.acknowledged) (sym (others q apart)) (fits.accounts.total q l is));
    };
  }

  -- the log is as before
  pub fits_one : StructuralInvariant p → new.slot ≡ log.slot → slot_state id new.state ≡ slot_state id log.state → HeldLogInvariant p.state.next id new
      → ((key : EntryKey) (place : Place) → finite.get p.state.index key ≡ Some place → HasOpenView (finite.insert p.state.logs id new) place.log)
      → ((key : EntryKey) (place : Place) → finite.get p.state.places key ≡ Some place → IsFlushLog (finite.insert p.state.logs id new) place.log)
      → ((q : ℕ) → (writing ≡ Some q) ↔ IsWritingIn (finite.insert p.state.logs id new) q)
      → (IsFlushed new → In id p.filled) → (new.state ≡ Writing → log.state ≡ Writing)
      → ((q : ℕ) → named_in accounts q ≡ named_in p.accounts q)
      → total_at accounts id + header_length ≤ new.acknowledged
      → ((q : ℕ) → q ≢ id → total_at accounts q ≡ total_at p.accounts q)
      → StructuralInvariant (with_one p id new files failures accounts writing)
  fits_one fits slot state =
      fits_in p.state.keeper (seated_one p.state.settings p.state.keeper p.state.logs fits.logs.seated id log new held slot state) fits

  file_else : ((q : ℕ) → q ≢ id → finite.get files q ≡ finite.get p.state.files q) → OnlyIn id (file_of p.state.files) (file_of files)
  file_else only q apart = ap (λ (o : Option (List ℕ)). unwrap_or o []) (only q apart)

  -- another log's writer is still that of its file
  writes_else : (q : ℕ) (w : writers.Writing) → w.log ≡ q → finite.get files q ≡ finite.get p.state.files q
      → writers.Writes p.state.files w → writers.Writes files w
  writes_else q w own same writes = record {
    file = writes.file;
    records = writes.records;
    stands = ap (finite.get files) own ∙ same ∙ ap (finite.get p.state.files) (sym own) ∙ writes.stands;
    long = writes.long;
    text = writes.text;
    counted = writes.counted;
    sized = writes.sized;
    keyed = writes.keyed;
  }

  pub promises_in : (keeper : SlotTable) → StructuralInvariant p → (reveal_invariant : ContentInvariant p) → (others : List (ℕ × List ℕ)) → Gains p.state.files id others files
      → ((at : ℕ) (payload : List ℕ) (key : EntryKey) → In (at, payload) others → key_of payload ≡ Some key → set.contains p.state.ledgers.dead key.ledger ≡ false
      → finite.get reveal_invariant.map.carried key ≡ Some payload)
      → (EntriesStay (file_of p.state.files) (file_of files) → IndexIsPublished (file_of files) (open_parts (finite.insert p.state.logs id new)) p.state.index)
      → LogMatchesFile files p.synced id new
      → AreSums entry_measure (set.contains p.state.ledgers.dead) (acknowledged_entries files (finite.insert p.state.logs id new)) (log_count p.state.index) accounts
      → ContentInvariant (with_one_in keeper p id new files failures accounts writing)
  promises_in keeper fits reveal_invariant others gains each shows backed counted =
      let grows : Grows p.state.ledgers.dead reveal_invariant.map.carried (file_of p.state.files) (file_of files) =
      grows_behind p.state.ledgers.dead reveal_invariant.map.carried id (file_else gains.only) others gains.records each in
      record {
        map = record {
          carried = reveal_invariant.map.carried;
          carries = carries_grown grows reveal_invariant.map.carries;
          harmless = reveal_invariant.map.harmless;
          recent = reveal_invariant.map.recent;
          replays = reveal_invariant.map.replays;
        };
        shows = shows grows.stood;
        counted = counted;
        logs = record {
          each = each_log p.state.logs id log new held (λ q l. LogMatchesFile files p.synced q l) backed (λ q l apart is.
              let old = reveal_invariant.logs.each q l is in
              record {
                stands = ap is_some (gains.only q apart) ∙ old.stands;
                writes = λ w writer. writes_else q w ((fits.logs.each q l is).by w writer).own (gains.only q apart) (old.writes w writer);
                honest = old.honest;
                spelled = subst HasNoBadLength (sym (file_else gains.only q apart)) old.spelled;
                shown = old.shown;
                kept = old.kept;
              });
          fresh = λ q above. elim (same_or_apart q id) [
            | inr apart ↦ gains.only q apart ∙ reveal_invariant.logs.fresh q above
            | inl here ↦ absurd (let below = (fits.logs.each id log held).below in omega arith)
          ];
        };
        placed = λ key place is.
            let old = reveal_invariant.placed key place is in
            record { payload = old.payload; flushing = old.flushing; stands = grows.stood place key old.payload old.stands };
      }

  pub promises_one : StructuralInvariant p → (reveal_invariant : ContentInvariant p) → (others : List (ℕ × List ℕ)) → Gains p.state.files id others files
      → ((at : ℕ) (payload : List ℕ) (key : EntryKey) → In (at, payload) others → key_of payload ≡ Some key → set.contains p.state.ledgers.dead key.ledger ≡ false
      → finite.get reveal_invariant.map.carried key ≡ Some payload)
      → (EntriesStay (file_of p.state.files) (file_of files) → IndexIsPublished (file_of files) (open_parts (finite.insert p.state.logs id new)) p.state.index)
      → LogMatchesFile files p.synced id new
      → AreSums entry_measure (set.contains p.state.ledgers.dead) (acknowledged_entries files (finite.insert p.state.logs id new)) (log_count p.state.index) accounts
      → ContentInvariant (with_one p id new files failures accounts writing)
  promises_one = promises_in p.state.keeper

-- ---- the job of a compaction, which does not have the log

-- the log is none of the job's that the store has
pub job_in : (keeper : SlotTable) (p : StoreParts) (id : ℕ) (new : Log) (files : Files) (failures : ℕ) (accounts : Book) (writing : Option ℕ) → StoreInvariant p
    → IsIdle p.state id
    → (IsTrue p.state.honest → (q : ℕ) → q ≢ id → finite.get files q ≡ finite.get p.state.files q)
    → (job : Job) → p.state.job ≡ Some job → JobInvariant (with_one_in keeper p id new files failures accounts writing).state job
job_in keeper p id new files failures accounts writing keeps idle only job is =
    let t = (with_one_in keeper p id new files failures accounts writing).state in
    job_stays p.state t job (stays_else p.state t job id new (idle job is) refl refl refl only) (keeps.job job is)

-- ---- the files as they were, as far as an honest disk says, and the failures counted

pub keeps_failures : (p : StoreParts) (files : Files) (failures : ℕ) → StoreInvariant p → (IsTrue p.state.honest → files ≡ p.state.files)
    → StoreInvariant (record p { state = record p.state { files = files; failures = failures } })
keeps_failures p files failures keeps same = record {
  fits = keeps.fits;
  job = λ job is.
      let now = record p.state { files = files; failures = failures } in
      job_stays p.state now job (stays_same p.state now job refl refl refl same) (keeps.job job is);
  fronts = keeps.fronts;
  promises = λ honest.
      subst (λ f. ContentInvariant (record p { state = record p.state { files = f; failures = failures } })) (sym (same honest)) (keeps.promises honest);
}
