-- Logs that are found one after another, and why the first that fails is.
use Rattle.std.proofs.Common.{◌≡◌, inl, inr, ℕ, zero, suc, ◌+◌, ◌<◌, ◌≤◌, ◌^◌, Bool, if◌then◌else◌, IsTrue, List, [], ◌∷◌, ◌++◌}
use Rattle.std.proofs.Common.{length, map, take, get_or, Some, None, refl, sym, ap, subst, ◌∙◌, arith, eq-eqb}
use Rattle.std.proofs.lemmas.List.{take_more}
use Rattle.std.proofs.lemmas.Option.{same_Some}
use Rattle.std.specs.FinMap as finite
use Rattle.std.specs.FinSet as set
use Rattle.std.specs.FinMap.{nat_cmp-IsAntisymmetric}
use Rattle.std.proofs.lemmas.Cmp.{nat_cmp_total}
use Rattle.bk_record.specs.Files.{Files, In}
use Rattle.bk_record.proofs.Entries.{In-map, map-In, In-get, get-In}
use Rattle.bk_disk.specs.Disk.{IsFile, AreLogFiles, view_end}
use Rattle.bk_accounts.specs.Book.{Book, IsNotOpen, total_in, after_open}
use Rattle.bk_accounts.specs.Sums.{AreSums}
use Rattle.bk_accounts.proofs.CallerLaws.{sums_new, sums_is_closed}
use Rattle.bk_accounts.proofs.BookLaws.{total_in-after_open}
use Rattle.bk_store.specs.Logs.{View, Log, Logs, found_log}
use Rattle.bk_store.specs.Opening.{Opens, IsHeaded, FileFails, FirstFails}
use Rattle.bk_store.specs.Found.{LogRead, IsRead, IsReadWhole, IsScanned, IsTaken, AreTaken, with_entries, with_read, with_reads, logs_with}
use Rattle.bk_store.specs.declared.answer.OpenFault.{OpenFault}
use Rattle.bk_store.specs.declared.open.tally.Tally.{Tally}
use Rattle.bk_store.proofs.Walks.{AreAscending}
use Rattle.bk_store.proofs.HeldWalks.{keys_ascending}
use Rattle.bk_store.proofs.OpenedSums.{found_measure, Lists, no_names, sums_reads}
use Rattle.bk_store.proofs.OpenedLogs.{each_log, ids_push, id_below, next_cases, all-In, all_push}

-- ---- one log

-- a log whose account was just opened has counted nothing
pub opened_total : (old opened : Book) (id : ℕ) → opened ≡ after_open old id → total_in opened id ≡ Some 0
opened_total old opened id is =
    ap (λ b. total_in b id) is ∙ total_in-after_open old id id ∙ ap (λ b. if b then Some 0 else total_in old id) (eq-eqb id id refl)

-- a log that was scanned was tallied
pub log_taken : (honest : Bool) (files : Files) (id slot end : ℕ) (view : View) (old opened now : Tally)
    → opened ≡ record old { accounts = after_open old.accounts id } → IsScanned id end view.is_honest view.bytes opened now
    → (IsTrue honest → IsFile files id view.bytes × IsTrue view.is_honest) → (IsTrue view.is_honest → end ≡ view_end view.bytes)
    → (IsTrue honest → (length view.bytes < 2 ^ 32) × IsHeaded view.bytes) → IsTaken honest files id slot (found_log view slot end) old now
log_taken honest files id slot end view old opened now begun scanned shown whole judged = record {
  read = record { id = id; slot = slot; view = view; end = end; founds = scanned.founds };
  own = refl;
  seat = refl;
  reads = record {
    fits = scanned.fits;
    whole = λ is.
        let file = shown is in
        record {
          stands = file.0;
          honest = file.1;
          end_is = whole file.1;
          found = scanned.stand file.1;
          opens = record { short = (judged is).0; headed = (judged is).1; whole = scanned.whole file.1 };
        };
  };
  log_is = refl;
  taken = scanned.taken ∙ ap (λ t. with_entries id t scanned.founds) begun;
}

-- a scan that fails, of a view of the log's file
pub scan_fails : (files files' : Files) (id : ℕ) (file bytes : List ℕ) (fault : OpenFault) → files' ≡ files → IsFile files id file → IsFile files' id bytes
    → IsHeaded file → (IsHeaded bytes → FileFails id bytes fault) → FileFails id file fault
scan_fails files files' id file bytes fault unchanged stands shown headed fails =
    let same : bytes ≡ file = same_Some bytes file (sym shown ∙ ap (λ (fs : Files). finite.get fs id) unchanged ∙ stands) in
    subst (λ b. FileFails id b fault) same (fails (subst IsHeaded (sym same) headed))

-- ---- one more log

reads_push : (t : Tally) (reads : List LogRead) (r : LogRead) → with_reads t (reads ++ r ∷ []) ≡ with_read (with_reads t reads) r
reads_push t [] r = refl
reads_push t (x ∷ reads) r = reads_push (with_read t x) reads r

logs_push : (logs : Logs) (reads : List LogRead) (r : LogRead)
    → logs_with logs (reads ++ r ∷ []) ≡ finite.insert (logs_with logs reads) r.id (found_log r.view r.slot r.end)
logs_push logs [] r = refl
logs_push logs (x ∷ reads) r = logs_push (finite.insert logs x.id (found_log x.view x.slot x.end)) reads r

map_push : (reads : List LogRead) (r : LogRead) → map (λ x. x.id) (reads ++ r ∷ []) ≡ map (λ x. x.id) reads ++ r.id ∷ []
map_push [] r = refl
map_push (x ∷ reads) r = ap (λ l. x.id ∷ l) (map_push reads r)

pub none_taken : (honest : Bool) (files : Files) (old : Tally) (before : Logs) → AreTaken honest files [] 0 old old before before
none_taken honest files old before = record { reads = []; ids_are = refl; each = tt; rising = refl; taken = refl; held_are = refl }

pub taken_on : (honest : Bool) (files : Files) (ids : List ℕ) (next id slot : ℕ) (old now now' : Tally) (before logs logs' : Logs) (log : Log)
    → AreTaken honest files ids next old now before logs → IsTaken honest files id slot log now now' → next ≤ id → id < 2 ^ 31
    → logs' ≡ finite.insert logs id log → AreTaken honest files (ids ++ id ∷ []) (id + 1) old now' before logs'
taken_on honest files ids next id slot old now now' before logs logs' log taken one above below held = record {
  reads = taken.reads ++ one.read ∷ [];
  ids_are = map_push taken.reads one.read ∙ (λ i. taken.ids_are i ++ one.own i ∷ []);
  each = all_push (IsRead honest files) one.read taken.reads taken.each one.reads;
  rising = ids_push 0 next id ids taken.rising above below;
  taken = one.taken ∙ ap (λ t. with_read t one.read) taken.taken ∙ sym (reads_push old taken.reads one.read);
  held_are = held ∙ (λ i. finite.insert (taken.held_are i) (sym one.own i) (one.log_is i)) ∙ sym (logs_push before taken.reads one.read);
}

-- ---- what the next log meets

-- no account of it is open
pub next_closed : (honest : Bool) (files : Files) (ids : List ℕ) (next id : ℕ) (old now : Tally) (before logs : Logs)
    → AreTaken honest files ids next old now before logs → old.accounts ≡ finite.empty → next ≤ id → IsNotOpen now.accounts id
next_closed honest files ids next id old now before logs taken fresh above =
    let none : Lists = λ _. None in
    let start = subst (λ (b : Book). AreSums found_measure (set.contains old.dead) none no_names b) (sym fresh)
    (sums_new found_measure (set.contains old.dead) no_names) in
    let sums = sums_reads old none taken.reads start in
    elim (each_log taken.reads none before id) [
      | inl apart ↦ subst (λ (t : Tally). IsNotOpen t.accounts id) (sym taken.taken) (sums_is_closed found_measure sums id apart.listed)
      | inr found ↦
          let there = subst (In found.0.id) taken.ids_are (In-map (λ (r : LogRead). r.id) found.0 taken.reads found.1.there) in
          absurd (omega (arith, above, found.1.own, id_below 0 next ids found.0.id taken.rising there))
    ]

-- ids that rise

get_or-In : (ids : List ℕ) (k d : ℕ) → k < length ids → In (get_or ids k d) ids
get_or-In [] k d within = absurd (omega (arith, within))
get_or-In (x ∷ ids) zero d within = inl refl
get_or-In (x ∷ ids) (suc k) d within = inr (get_or-In ids k d (omega (arith, within)))

ascending_less : (ids : List ℕ) (k d n : ℕ) → AreAscending ids → k < length ids → In n (take k ids) → n < get_or ids k d
ascending_less [] k d n ascending within there = absurd (omega (arith, within))
ascending_less (x ∷ ids) zero d n ascending within there = absurd there
ascending_less (x ∷ ids) (suc k) d n ascending within (inl here) =
    subst (λ m. m < get_or ids k d) here (ascending.0 (get_or ids k d) (get_or-In ids k d (omega (arith, within))))
ascending_less (x ∷ ids) (suc k) d n ascending within (inr later) = ascending_less ids k d n ascending.1 (omega (arith, within)) later

ascending_before : (ids : List ℕ) (k d n : ℕ) → AreAscending ids → In n ids → n < get_or ids k d → In n (take k ids)
ascending_before [] k d n ascending there less = absurd there
ascending_before (x ∷ ids) zero d n ascending (inl here) less = absurd (omega (arith, here, less))
ascending_before (x ∷ ids) zero d n ascending (inr later) less = absurd (omega (arith, ascending.0 n later, less))
ascending_before (x ∷ ids) (suc k) d n ascending (inl here) less = inl here
ascending_before (x ∷ ids) (suc k) d n ascending (inr later) less = inr (ascending_before ids k d n ascending.1 later less)

module _ (files : Files) (ids : List ℕ) (listed : ids ≡ finite.keys files) where
  rise : AreAscending ids
  rise = subst AreAscending (sym listed) (keys_ascending files)

  id_file : (id : ℕ) → In id ids → (file : List ℕ) × IsFile files id file
  id_file id there =
      let e = map-In (λ (x : ℕ × List ℕ). x.0) id (finite.entries files) (subst (In id) listed there) in
      (e.0.1, subst (λ n. IsFile files n e.0.1) e.1.1 (In-get nat_cmp_total nat_cmp-IsAntisymmetric files e.0.0 e.0.1 e.1.0))

  file_id : (id : ℕ) (file : List ℕ) → IsFile files id file → In id ids
  file_id id file stands =
      subst (In id) (sym listed) (In-map (λ (e : ℕ × List ℕ). e.0) (id, file) (finite.entries files)
      (get-In nat_cmp_total nat_cmp-IsAntisymmetric files id file stands))

  module _ (honest : Bool) (k d next : ℕ) (old now : Tally) (before logs : Logs) (within : k < length ids)
      (taken : AreTaken honest files (take k ids) next old now before logs) where
    -- its id is past the others, and one of a log
    pub next_past : next ≤ get_or ids k d
    next_past = elim (next_cases 0 next (take k ids) taken.rising) [
      | inl none ↦ omega (arith, none)
      | inr last ↦ omega (arith, last.1.0, ascending_less ids k d last.0 rise within last.1.1.1)
    ]

    pub next_file : (file : List ℕ) × IsFile files (get_or ids k d) file
    next_file = id_file (get_or ids k d) (get_or-In ids k d within)

    -- and where it fails, all before it open
    pub first_fails : (fault : OpenFault) → IsTrue honest → ((file : List ℕ) → IsFile files (get_or ids k d) file → FileFails (get_or ids k d) file fault)
        → FirstFails files fault
    first_fails fault is fails = record {
      id = get_or ids k d;
      file = next_file.0;
      stands = next_file.1;
      fails = fails next_file.0 next_file.1;
      before = λ earlier other less stands.
          let there = ascending_before ids k d earlier rise (file_id earlier other stands) less in
          let r = map-In (λ (x : LogRead). x.id) earlier taken.reads (subst (In earlier) (sym taken.ids_are) there) in
          let whole = (all-In (IsRead honest files) r.0 taken.reads taken.each r.1.0).whole is in
          subst Opens (same_Some r.0.view.bytes other (sym (subst (λ n. IsFile files n r.0.view.bytes) r.1.1 whole.stands) ∙ stands)) whole.opens;
    }

-- ---- the loop over the ids

-- The logs before this one were tallied, and the disk has not failed.
pub record IsFinding (honest : Bool) (files : Files) (failures : ℕ) (ids : List ℕ) (old : Tally) (before : Logs) (honest' : Bool) (files' : Files)
    (failures' k next : ℕ) (now : Tally) (logs : Logs) : Type 0 where
  pub stays : honest' ≡ honest
  pub unfailed : failures' ≡ failures
  pub same : IsTrue honest → files' ≡ files
  pub taken : AreTaken honest files (take k ids) next old now before logs

-- what was read of a disk that is the same
taken_as : (honest honest' : Bool) (files files' : Files) (id slot : ℕ) (log : Log) (old new : Tally) → honest' ≡ honest → (IsTrue honest → files' ≡ files)
    → IsTaken honest' files' id slot log old new → IsTaken honest files id slot log old new
taken_as honest honest' files files' id slot log old new stays same one = record {
  read = one.read;
  own = one.own;
  seat = one.seat;
  reads = record {
    fits = one.reads.fits;
    whole = λ is. subst (λ fs. IsReadWhole fs one.read) (same is) (one.reads.whole (stays ∙ is));
  };
  log_is = one.log_is;
  taken = one.taken;
}

module _ {honest : Bool} {files : Files} {failures : ℕ} {ids : List ℕ} {old : Tally} {before : Logs} {honest' : Bool} {files' : Files}
    {failures' k next : ℕ} {now : Tally} {logs : Logs}
    (so_far : IsFinding honest files failures ids old before honest' files' failures' k next now logs) where
  -- no account of the next log is open
  pub finding_closed : (id : ℕ) → old.accounts ≡ finite.empty → next ≤ id → IsNotOpen now.accounts id
  finding_closed id fresh above = next_closed honest files (take k ids) next id old now before logs so_far.taken fresh above

  -- one more log
  pub finding_on : (d slot : ℕ) (log : Log) (honest'' : Bool) (files'' : Files) (failures'' : ℕ) (now' : Tally) (logs' : Logs) → k < length ids
      → next ≤ get_or ids k d → get_or ids k d < 2 ^ 31 → honest'' ≡ honest' → failures'' ≡ failures' → (IsTrue honest' → files'' ≡ files')
      → IsTaken honest' files' (get_or ids k d) slot log now now' → logs' ≡ finite.insert logs (get_or ids k d) log
      → IsFinding honest files failures ids old before honest'' files'' failures'' (k + 1) (get_or ids k d + 1) now' logs'
  finding_on d slot log honest'' files'' failures'' now' logs' within above below stays unfailed same one held = record {
    stays = stays ∙ so_far.stays;
    unfailed = unfailed ∙ so_far.unfailed;
    same = λ is. same (so_far.stays ∙ is) ∙ so_far.same is;
    taken = subst (λ l. AreTaken honest files l (get_or ids k d + 1) old now' before logs') (sym (take_more ids k d within))
        (taken_on honest files (take k ids) next (get_or ids k d) slot old now now' before logs logs' log so_far.taken
        (taken_as honest honest' files files' (get_or ids k d) slot log now now' so_far.stays so_far.same one) above below held);
  }

  module _ (listed : IsTrue honest → ids ≡ finite.keys files) (d : ℕ) (within : k < length ids) where
    -- the next log is the first that fails
    pub finding_refused : (fault : OpenFault)
        → ((file : List ℕ) → IsTrue honest' → IsFile files' (get_or ids k d) file → FileFails (get_or ids k d) file fault)
        → IsTrue honest → FirstFails files fault
    finding_refused fault fails is =
        first_fails files ids (listed is) honest k d next old now before logs within so_far.taken fault is
        (λ file stands. fails file (so_far.stays ∙ is) (subst (λ fs. IsFile fs (get_or ids k d) file) (sym (so_far.same is)) stands))

    -- the id of an honest disk's log is past the others, and a log's
    pub finding_past : IsTrue honest → next ≤ get_or ids k d
    finding_past is = next_past files ids (listed is) honest k d next old now before logs within so_far.taken

    pub finding_least : IsTrue honest → AreLogFiles files → get_or ids k d < 2 ^ 31
    finding_least is logs_are =
        let file = next_file files ids (listed is) honest k d next old now before logs within so_far.taken in
        (logs_are.each (get_or ids k d) file.0 file.1).id
