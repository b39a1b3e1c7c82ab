-- A store that was opened on logs satisfies the invariant, and holds what the files give.
use Rattle.std.proofs.Common.{◌≡◌, ℕ, ◌≤◌, Bool, IsTrue, List, [], ◌∷◌, length, Some, None, IfSome}
use Rattle.std.proofs.Common.{option_map, refl, sym, ap, subst, ◌∙◌}
use Rattle.std.specs.List.{AllByRecursion}
use Rattle.std.proofs.lemmas.List.{length-map}
use Rattle.std.specs.FinMap as finite
use Rattle.bk_record.specs.Files.{Files}
use Rattle.bk_record.specs.Keyed.{Places}
use Rattle.bk_record.specs.Scan.{Ledgers}
use Rattle.bk_cache.specs.Caches as caches
use Rattle.bk_cache.specs.Caches.{CacheState}
use Rattle.bk_store.specs.Logs.{Logs}
use Rattle.bk_store.specs.Ledgers.{KnownLedgers, opened_ledgers}
use Rattle.bk_store.specs.Fronts.{fronts_at}
use Rattle.bk_store.specs.State.{StoreParts}
use Rattle.bk_store.specs.Transitions.{valid_ledgers}
use Rattle.bk_lease.specs.Values.{SlotTable}
use Rattle.bk_store.specs.Limits.{IsAllowed}
use Rattle.bk_store.specs.SlotAssignment.{IsSeated}
use Rattle.bk_store.specs.Invariant.{StoreInvariant}
use Rattle.bk_store.specs.Opening.{HoldsFiles, IsOpened, FirstFails, OpenFails}
use Rattle.bk_store.specs.Found.{LogRead, IsRead, IsReadWhole, AreTaken, AllDurable, AreUnnamed, with_reads, with_names, logs_with}
use Rattle.bk_store.specs.declared.settings.Settings.{Settings}
use Rattle.bk_store.specs.declared.answer.OpenFault.{OpenFault}
use Rattle.bk_store.specs.declared.answer.OpenFault.TheVariants as open_faults
use Rattle.bk_store.specs.declared.open.tally.Tally.{Tally}
use Rattle.bk_store.proofs.FrontMoves.{fronts_opened}
use Rattle.bk_store.proofs.RemovedFiles.{HasNone}
use Rattle.bk_store.proofs.OpenedSums.{with_lists, no_names, dead-reads}
use Rattle.bk_store.proofs.OpenedParts.{started, opened_parts, no_lists, counted, opened_fits, opened_promises, opened_files}

-- ---- of a disk that is the same as it was

all_as : (honest honest' : Bool) (files files' : Files) (reads : List LogRead) → honest' ≡ honest → (IsTrue honest → files' ≡ files)
    → AllByRecursion (IsRead honest files) reads → AllByRecursion (IsRead honest' files') reads
all_as honest honest' files files' [] stays same all = tt
all_as honest honest' files files' (r ∷ later) stays same all = (
  record {
    fits = all.0.fits;
    whole = λ is'.
        let is : IsTrue honest = sym stays ∙ is' in
        subst (λ fs. IsReadWhole fs r) (sym (same is)) (all.0.whole is);
  },
  all_as honest honest' files files' later stays same all.1,
)

-- what was tallied of a disk, beginning with nothing
pub taken_as : (honest honest' : Bool) (files files' : Files) (dead : Ledgers) (ids : List ℕ) (next : ℕ) (old t : Tally) (before logs : Logs)
    → AreTaken honest files ids next old t before logs → old ≡ started dead → before ≡ finite.empty → honest' ≡ honest → (IsTrue honest → files' ≡ files)
    → AreTaken honest' files' ids next (started dead) t finite.empty logs
taken_as honest honest' files files' dead ids next old t before logs taken first none stays same = record {
  reads = taken.reads;
  ids_are = taken.ids_are;
  each = all_as honest honest' files files' taken.reads stays same taken.each;
  rising = taken.rising;
  taken = taken.taken ∙ ap (λ x. with_reads x taken.reads) first;
  held_are = taken.held_are ∙ ap (λ l. logs_with l taken.reads) none;
}

no_table : SlotTable
no_table = record {
  table = record { words = 0; slots = 0; views_name = 0; atom = 0; block = 0; offset = 0; slot_names = [] };
  slots = [];
  most = 0;
  given = 0;
}

-- if no key is indexed yet, no log has a name
pub taken_unnamed : (settings : Settings) (honest : Bool) (files : Files) (dead : Ledgers) (ids : List ℕ) (next : ℕ) (t : Tally) (logs : Logs)
    → AreTaken honest files ids next (started dead) t finite.empty logs → AreUnnamed t.accounts
taken_unnamed settings honest files dead ids next t logs taken log =
    let sums = counted settings honest files finite.empty finite.empty 0 dead ids next t logs taken no_table in
    subst (λ o. IfSome o (λ named. named ≡ 0)) (sym (sums.named log))
    (elim (with_lists no_lists taken.reads log) as (λ o. IfSome (option_map (λ _. no_names log) o) (λ named. named ≡ 0)) [
      | None ↦ tt
      | Some founds ↦ refl
    ])

-- the parts that an opening makes
abbrev pub made_parts : Settings → Files → Files → Files → Bool → ℕ → CacheState → Places → Tally → Logs → SlotTable → ℕ → KnownLedgers → List ℕ → StoreParts
made_parts settings files synced gone honest failures kept places t logs keeper next known filled = record {
  state = record {
    settings = settings;
    files = files;
    honest = honest;
    failures = failures;
    caches = kept;
    places = places;
    index = t.index;
    logs = logs;
    keeper = keeper;
    next = next;
    ledgers = known;
    fronts = fronts_at 0;
    job = None;
  };
  accounts = t.accounts;
  writing = None;
  filled = filled;
  synced = synced;
  gone = gone;
}

module _ (settings : Settings) (honest honest' : Bool) (files files' synced gone : Files) (failures : ℕ) (dead : Ledgers) (ids : List ℕ) (next : ℕ) (t : Tally)
    (logs : Logs) (taken : AreTaken honest files ids next (started dead) t finite.empty logs) (keeper : SlotTable) (stays : honest' ≡ honest)
    (same : IsTrue honest → files' ≡ files) (listed : IsTrue honest → ids ≡ finite.keys files)
    (kept : CacheState) (places : Places) (now : Tally) (known : KnownLedgers) (filled : List ℕ) (kept_are : kept ≡ caches.new_caches settings.cache_limit settings.recent)
    (places_are : places ≡ finite.empty) (now_is : now ≡ with_names t) (known_is : known ≡ opened_ledgers now.dead)
    (filled_is : filled ≡ []) where
  taken_now : AreTaken honest' files' ids next (started dead) t finite.empty logs
  taken_now = taken_as honest honest' files files' dead ids next (started dead) t finite.empty logs taken refl refl stays same

  listed_now : IsTrue honest' → ids ≡ finite.keys files'
  listed_now is' = let is : IsTrue honest = sym stays ∙ is' in listed is ∙ ap finite.keys (sym (same is))

  parts_are : opened_parts settings files' synced gone honest' failures t logs keeper next
      ≡ made_parts settings files' synced gone honest' failures kept places now logs keeper next known filled
  parts_are =
      let known_as : opened_ledgers t.dead ≡ known = sym (known_is ∙ ap (λ (x : Tally). opened_ledgers x.dead) now_is) in
      λ i. made_parts settings files' synced gone honest' failures (sym kept_are i) (sym places_are i) (sym now_is i) logs keeper next (known_as i) (sym filled_is i)

  pub opened_keeps : IsAllowed settings → IsSeated settings keeper logs → (IsTrue honest' → AllDurable files' synced ids)
      → (IsTrue honest' → HasNone gone)
      → StoreInvariant (made_parts settings files' synced gone honest' failures kept places now logs keeper next known filled)
  opened_keeps allowed seated all none = subst StoreInvariant parts_are (record {
    fits = opened_fits settings honest' files' synced gone failures dead ids next t logs taken_now keeper allowed seated;
    job = λ job wrong. absurd (cc);
    fronts = fronts_opened;
    promises = λ is.
        opened_promises settings honest' files' synced gone failures dead ids next t logs taken_now keeper is (listed_now is) (all is) (none is);
  })

  pub opened_is : (given : List ℕ) → dead ≡ valid_ledgers given
      → IsOpened honest files settings given (made_parts settings files' synced gone honest' failures kept places now logs keeper next known filled).state
  opened_is given dead_are = subst (λ p. IsOpened honest files settings given p.state) parts_are (record {
    settings_are = refl;
    caches_are = refl;
    places_are = refl;
    ledgers_are = ap opened_ledgers (ap (λ (x : Tally). x.dead) taken.taken ∙ dead-reads (started dead) taken.reads ∙ dead_are);
    fronts_are = refl;
    idle = refl;
    holds = λ is.
        let is' : IsTrue honest' = stays ∙ is in
        subst (λ fs. HoldsFiles fs (opened_parts settings files' synced gone honest' failures t logs keeper next).state) (same is)
        (opened_files settings honest' files' synced gone failures dead ids next t logs taken_now keeper is' (listed_now is'));
  })

-- ---- errors

-- a log that fails is reported after what is judged first
pub open_fails : (files files' : Files) (settings : Settings) (fault : OpenFault) → files' ≡ files → IsAllowed settings → finite.len files ≤ settings.slots
    → FirstFails files' fault → OpenFails files settings fault
open_fails files files' settings fault same allowed room first = by_fault fault (subst (λ fs. FirstFails fs fault) same first)
  where
    by_fault : (fault : OpenFault) → FirstFails files fault → OpenFails files settings fault
    by_fault open_faults.Settings first = absurd first.fails
    by_fault open_faults.Disk first = allowed
    by_fault open_faults.Memory first = allowed
    by_fault open_faults.LogsFull first = absurd first.fails
    by_fault (open_faults.Log id cause) first = (allowed, room, first)
    by_fault (open_faults.TooLong id) first = (allowed, room, first)
    by_fault open_faults.Odd first = absurd first.fails

-- as many logs are listed as there are files
pub listed_len : (files : Files) (ids : List ℕ) → ids ≡ finite.keys files → length ids ≡ finite.len files
listed_len files ids is = ap length is ∙ length-map (finite.entries files) (λ (e : ℕ × List ℕ). e.0) ∙ sym (finite.len-entries files)
