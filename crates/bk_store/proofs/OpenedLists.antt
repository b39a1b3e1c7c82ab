-- The index of logs that are tallied entry by entry: that of the list of all entries found.
use Rattle.std.proofs.Common.{◌≡◌, ℕ, Bool, true, false, not, cond, if◌then◌else◌, List, [], ◌∷◌, ◌++◌, map, Some, None, Option}
use Rattle.std.proofs.Common.{option_map, is_some, unwrap_or, IsTrue, refl, sym, ap, subst, ◌∙◌, append_assoc}
use Rattle.std.specs.List.{AllByRecursion, filter, flat_map, cons_option}
use Rattle.std.proofs.lemmas.List.{append-nil}
use Rattle.std.specs.FinMap as finite
use Rattle.std.specs.FinSet as set
use Rattle.bk_record.specs.Key.{EntryKey}
use Rattle.bk_record.specs.Location.{Place}
use Rattle.bk_record.specs.Record.{key_of, is_foreign}
use Rattle.bk_record.specs.Files.{Files, file_of, records_of}
use Rattle.bk_record.specs.Scan.{entries_of}
use Rattle.bk_log.specs.declared.found.Found.{Found}
use Rattle.bk_accounts.specs.Book.{after_open}
use Rattle.bk_record.specs.Keyed.{Places}
use Rattle.bk_store.specs.Found.{LogRead, IsRead, AreFoundAt, with_entry, with_entries, with_read, with_reads}
use Rattle.bk_store.specs.declared.open.tally.Tally.{Tally}
use Rattle.bk_store.proofs.EntryLists.{Listed, IsIndexOfList, list_indexed, list_passed}
use Rattle.bk_store.proofs.Walks.{keyed_at, placed_key, listed_of, walked}
use Rattle.bk_store.proofs.OpenedSums.{dead-entries}

-- the entries that were found in a log, each with its place
abbrev pub found_in : ℕ → List Found → Listed
found_in log founds = map (λ found. keyed_at log found.at found.key) founds

-- those of several logs
abbrev pub found_in_all : List LogRead → Listed
found_in_all reads = flat_map (λ r. found_in r.id r.founds) reads

abbrev pub HasIndex : Tally → Listed → Places → Type 0
HasIndex t entries index = IsIndexOfList entries t.dead index

indexed_entry : (log : ℕ) (t : Tally) (found : Found) (front : Listed) → HasIndex t front t.index
    → HasIndex t (front ++ keyed_at log found.at found.key ∷ []) (with_entry log t found).index
indexed_entry log t found front made =
    elim (set.contains t.dead found.key.ledger) as (λ b. set.contains t.dead found.key.ledger ≡ b
    → HasIndex t (front ++ keyed_at log found.at found.key ∷ [])
    (if b then t.index else finite.insert t.index found.key (record { log = log; at = found.at }))) [
      | true ↦ λ gone. list_passed made (record { log = log; at = found.at }) found.key gone
      | false ↦ λ alive. list_indexed made (record { log = log; at = found.at }) found.key alive
    ] refl

pub indexed_entries : (log : ℕ) (t : Tally) (founds : List Found) (front : Listed) → HasIndex t front t.index
    → HasIndex t (front ++ found_in log founds) (with_entries log t founds).index
indexed_entries log t [] front made = subst (λ l. HasIndex t l t.index) (sym (append-nil front)) made
indexed_entries log t (found ∷ later) front made =
    subst (λ l. HasIndex t l (with_entries log (with_entry log t found) later).index)
    (append_assoc front (keyed_at log found.at found.key ∷ []) (found_in log later))
    (indexed_entries log (with_entry log t found) later (front ++ keyed_at log found.at found.key ∷ []) (indexed_entry log t found front made))

pub indexed_reads : (t : Tally) (reads : List LogRead) (front : Listed) → HasIndex t front t.index
    → HasIndex t (front ++ found_in_all reads) (with_reads t reads).index
indexed_reads t [] front made = subst (λ l. HasIndex t l t.index) (sym (append-nil front)) made
indexed_reads t (r ∷ later) front made =
    let opened = record t { accounts = after_open t.accounts r.id } in
    let taken = indexed_entries r.id opened r.founds front made in
    let same = dead-entries r.id opened r.founds in
    subst (λ l. HasIndex t l (with_reads (with_read t r) later).index) (append_assoc front (found_in r.id r.founds) (found_in_all later))
    (subst (λ dead. IsIndexOfList ((front ++ found_in r.id r.founds) ++ found_in_all later) dead (with_reads (with_read t r) later).index) same
    (indexed_reads (with_read t r) later (front ++ found_in r.id r.founds)
    (subst (λ dead. IsIndexOfList (front ++ found_in r.id r.founds) dead (with_read t r).index) (sym same) taken)))

-- ---- what was found of files that were read whole

-- the records that are entries
abbrev kept : List (ℕ × List ℕ) → List (ℕ × List ℕ)
kept records = filter (λ r. not (is_foreign r.1)) records

entries_of-is : (file : List ℕ) → entries_of file ≡ kept (records_of file)
unfolding entries_of
entries_of-is file = refl

-- records without a key are not listed
listed_entries : (log : ℕ) (records : List (ℕ × List ℕ)) → listed_of log (filter (λ r. not (is_foreign r.1)) records) ≡ listed_of log records
listed_entries log [] = refl
listed_entries log (r ∷ records) = elim (key_of r.1) as (λ o. key_of r.1 ≡ o → listed_of log (kept (r ∷ records)) ≡ listed_of log (r ∷ records)) [
  | None ↦ λ none.
      let passed : not (is_foreign r.1) ≡ false = ap (λ (o : Option EntryKey). not (not (is_some o))) none in
      ap (λ b. listed_of log (cond b (r ∷ kept records) (kept records))) passed ∙ listed_entries log records
      ∙ ap (λ (o : Option EntryKey). cons_option (option_map (keyed_at log r.0) o) (listed_of log records)) (sym none)
  | Some key ↦ λ some.
      let stays : not (is_foreign r.1) ≡ true = ap (λ (o : Option EntryKey). not (not (is_some o))) some in
      ap (λ b. listed_of log (cond b (r ∷ kept records) (kept records))) stays
      ∙ ap (λ (l : Listed). cons_option (placed_key log r) l) (listed_entries log records)
] refl

pub listed_entries_of : (log : ℕ) (file : List ℕ) → listed_of log (entries_of file) ≡ listed_of log (records_of file)
listed_entries_of log file = ap (listed_of log) (entries_of-is file) ∙ listed_entries log (records_of file)

found_listed : (log : ℕ) (records : List (ℕ × List ℕ)) (founds : List Found) → AreFoundAt records founds → found_in log founds ≡ listed_of log records
found_listed log [] [] are = refl
found_listed log [] (found ∷ later) are = absurd are
found_listed log (r ∷ records) [] are = absurd are
found_listed log (r ∷ records) (found ∷ later) are =
    let first : placed_key log r ≡ Some (keyed_at log found.at found.key) =
    ap (option_map (keyed_at log r.0)) are.0.1 ∙ ap (λ n. Some (keyed_at log n found.key)) (sym are.0.0) in
    ap (λ (l : Listed). keyed_at log found.at found.key ∷ l) (found_listed log records later are.1)
    ∙ ap (λ (o : Option (Place × EntryKey)). cons_option o (listed_of log records)) (sym first)

-- the entries found in files that were read whole are those that a walk over them lists
pub found_walked : (honest : Bool) (files : Files) (reads : List LogRead) → IsTrue honest → AllByRecursion (IsRead honest files) reads
    → found_in_all reads ≡ walked (file_of files) (map (λ r. r.id) reads)
found_walked honest files [] is all = refl
found_walked honest files (r ∷ later) is all =
    let whole = all.0.whole is in
    let file : file_of files r.id ≡ r.view.bytes = ap (λ o. unwrap_or o []) whole.stands in
    let here : found_in r.id r.founds ≡ listed_of r.id (records_of (file_of files r.id)) =
    found_listed r.id (entries_of r.view.bytes) r.founds whole.found
    ∙ listed_entries_of r.id r.view.bytes ∙ ap (λ b. listed_of r.id (records_of b)) (sym file) in
    ap (λ (l : Listed). l ++ found_in_all later) here
    ∙ ap (λ (l : Listed). listed_of r.id (records_of (file_of files r.id)) ++ l) (found_walked honest files later is all.1)
