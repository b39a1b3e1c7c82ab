-- A scan of a log that was found, entry by entry, to its end or to a fault.
use Rattle.std.proofs.Common.{◌≡◌, ℕ, zero, suc, ◌+◌, ◌*◌, ◌<◌, ◌≤◌, ◌^◌, Bool, true, false, ◌==◌, if◌then◌else◌, IsTrue}
use Rattle.std.proofs.Common.{List, [], ◌∷◌, ◌++◌, length, take, drop, Option, Some, None, Ok, Err}
use Rattle.std.proofs.Common.{slice_get, refl, sym, ap, subst, ◌∙◌, append_assoc, arith, eq-eqb}
use Rattle.std.specs.Option.{option_map}
use Rattle.std.proofs.lemmas.List.{take_all, append-nil}
use Rattle.std.proofs.lemmas.List.Sums.{sum_by_push, sum_by-cons}
use Rattle.std.specs.FinSet as set
use Rattle.bk_record.specs.Files.{header_length}
use Rattle.bk_record.specs.Scan.{entries_of}
use Rattle.bk_record.specs.Body.{IsBadAt}
use Rattle.bk_record.specs.Spelling.{all_pieces, all_leftover}
use Rattle.bk_record.proofs.Spellings.{never_both}
use Rattle.bk_record.proofs.Growth.{take_next}
use Rattle.bk_disk.specs.Disk.{view_end}
use Rattle.bk_log.specs.declared.found.Found.{Found}
use Rattle.bk_log.specs.declared.fault.ScanFault.{ScanFault}
use Rattle.bk_log.specs.declared.fault.ScanFault.TheVariants as scans
use Rattle.bk_log.specs.Ranges.{entries_in, part}
use Rattle.bk_log.specs.declared.found.FoundRun.{FoundRun}
use Rattle.bk_log.specs.FoundRuns.{found_adjacent, founds_from, founds_of, bytes_of_run, IsEntryOf, AreEntriesOf, RunMoves}
use Rattle.bk_log.specs.Scanning.{Scan, part_of, NextMoves, ScanNextTransition}
use Rattle.bk_log.proofs.Ranges.{entries_in-file, whole_view}
use Rattle.bk_accounts.specs.Book.{total_in, after_ready, after_count, after_count_dead}
use Rattle.bk_accounts.proofs.BookLaws.{total_in-after_count, total_in-after_count_dead, total_in-after_ready}
use Rattle.bk_store.specs.Opening.{IsHeaded, FileFails}
use Rattle.bk_store.specs.Found.{IsScanned, IsFoundAt, AreFoundAt, with_entry, with_entries, bytes_found, open_fault_of_scan}
use Rattle.bk_store.specs.declared.answer.OpenFault.TheVariants as open_faults
use Rattle.bk_store.specs.declared.open.tally.Tally.{Tally}

-- ---- entries of one log, as they come

pub entries_push : (log : ℕ) (t : Tally) (founds : List Found) (found : Found)
    → with_entries log t (founds ++ found ∷ []) ≡ with_entry log (with_entries log t founds) found
entries_push log t [] found = refl
entries_push log t (f ∷ founds) found = entries_push log (with_entry log t f) founds found

total_here : (log total size : ℕ) (o : Option ℕ) → o ≡ Some total → option_map (λ n. if log == log then n + size else n) o ≡ Some (total + size)
total_here log total size o is =
    ap (option_map (λ n. if log == log then n + size else n)) is ∙ ap (λ b. Some (if b then total + size else total)) (eq-eqb log log refl)

total_entry : (log : ℕ) (t : Tally) (found : Found) (total : ℕ) → total_in t.accounts log ≡ Some total
    → total_in (with_entry log t found).accounts log ≡ Some (total + found.size)
total_entry log t found total is =
    elim (set.contains t.dead found.key.ledger) as (λ b.
    total_in
    (if b then after_count_dead t.accounts log found.size else after_count (after_ready t.accounts log found.key.ledger) log found.key.ledger found.size)
    log
    ≡ Some (total + found.size)) [
      | true ↦ total_in-after_count_dead t.accounts log found.size log ∙ total_here log total found.size _ is
      | false ↦
          total_in-after_count (after_ready t.accounts log found.key.ledger) log found.key.ledger found.size log
          ∙ total_here log total found.size _ (total_in-after_ready t.accounts log found.key.ledger log ∙ is)
    ]

bytes_first : (found : Found) (founds : List Found) → bytes_found (found ∷ founds) ≡ found.size + bytes_found founds
bytes_first found founds = sum_by-cons (λ (f : Found). f.size) found founds

nothing_plus : (n : ℕ) → n ≡ 0 + n
nothing_plus n = omega arith

plus_nothing : (n : ℕ) → n ≡ n + 0
plus_nothing n = omega arith

bytes_push : (founds : List Found) (found : Found) → bytes_found (founds ++ found ∷ []) ≡ bytes_found founds + found.size
bytes_push founds found = sum_by_push (λ (f : Found). f.size) founds found

-- one record and its entry more
found_push : (records : List (ℕ × List ℕ)) (founds : List Found) (r : ℕ × List ℕ) (found : Found) → AreFoundAt records founds → IsFoundAt r found
    → AreFoundAt (records ++ r ∷ []) (founds ++ found ∷ [])
found_push [] [] r found are is = (is, tt)
found_push [] (f ∷ founds) r found are is = absurd are
found_push (x ∷ records) [] r found are is = absurd are
found_push (x ∷ records) (f ∷ founds) r found are is = (are.0, found_push records founds r found are.1 is)

-- ---- entries of a run, at once

pub entries_append : (log : ℕ) (t : Tally) (founds more : List Found)
    → with_entries log t (founds ++ more) ≡ with_entries log (with_entries log t founds) more
entries_append log t [] more = refl
entries_append log t (f ∷ founds) more = entries_append log (with_entry log t f) founds more

bytes_append : (founds more : List Found) → bytes_found (founds ++ more) ≡ bytes_found founds + bytes_found more
bytes_append [] more = nothing_plus (bytes_found more)
bytes_append (f ∷ founds) more =
    omega (arith, bytes_first f (founds ++ more), bytes_first f founds, bytes_append founds more)

total_entries : (log : ℕ) (t : Tally) (founds : List Found) (total : ℕ) → total_in t.accounts log ≡ Some total
    → total_in (with_entries log t founds).accounts log ≡ Some (total + bytes_found founds)
total_entries log t [] total is = is ∙ ap Some (plus_nothing total)
total_entries log t (f ∷ founds) total is =
    total_entries log (with_entry log t f) founds (total + f.size) (total_entry log t f total is)
    ∙ ap Some (omega (arith, bytes_first f founds))

length-founds_from : (f : Found) (n : ℕ) → length (founds_from f n) ≡ n
length-founds_from f zero = refl
length-founds_from f (suc n) = ap suc (length-founds_from (found_adjacent f) n)

bytes-founds_from : (f : Found) (n : ℕ) → bytes_found (founds_from f n) ≡ n * f.size
bytes-founds_from f zero = omega arith
bytes-founds_from f (suc n) =
    let more : f.size + n * f.size ≡ suc n * f.size = omega arith in
    bytes_first f (founds_from (found_adjacent f) n) ∙ ap (λ m. f.size + m) (bytes-founds_from (found_adjacent f) n) ∙ more

-- entries of a part that go on where the founds end
founds_more : (s : Scan) (records : List (ℕ × List ℕ)) (place : ℕ) (founds more : List Found) → entries_in s.from (part_of s) ≡ records
    → AreFoundAt (take place records) founds → AreEntriesOf s place more → AreFoundAt (take (place + length more) records) (founds ++ more)
founds_more s records place founds [] same are rest =
    subst (λ n. AreFoundAt (take n records) (founds ++ [])) (plus_nothing place) (subst (AreFoundAt (take place records)) (sym (append-nil founds)) are)
founds_more s records place founds (f ∷ more) same are rest =
    let next : IsEntryOf s place f = rest.0 in
    let listed : slice_get records place ≡ Some (f.at, next.payload) =
    ap (λ (l : List (ℕ × List ℕ)). slice_get l place) (sym same) ∙ next.listed in
    let grown : AreFoundAt (take (place + 1) records) (founds ++ f ∷ []) =
    subst (λ l. AreFoundAt l (founds ++ f ∷ [])) (sym (take_next records place (f.at, next.payload) listed))
    (found_push (take place records) founds (f.at, next.payload) f are (refl, next.stands.keyed, next.sized)) in
    let count : place + 1 + length more ≡ place + suc (length more) = omega arith in
    subst (λ n. AreFoundAt (take n records) (founds ++ f ∷ more)) count
    (subst (AreFoundAt (take (place + 1 + length more) records)) (append_assoc founds (f ∷ []) more)
    (founds_more s records (place + 1) (founds ++ f ∷ []) more same grown rest.1))

-- ---- the scan so far

-- The scan is one of this log's whole part. The entries that it gave were tallied, and there was
-- room for them.
pub record IsScanning (log end : ℕ) (honest : Bool) (file : List ℕ) (old : Tally) (s : Scan) (now : Tally) : Type 0 where
  pub founds : List Found
  pub taken : now ≡ with_entries log old founds
  pub total : total_in now.accounts log ≡ Some (bytes_found founds)
  pub room : header_length + bytes_found founds + s.left ≤ end
  pub from : s.from ≡ header_length
  pub to : s.end ≡ end
  pub bytes : s.file ≡ file
  pub honest_is : s.honest ≡ honest
  pub stand : IsTrue honest → AreFoundAt (take s.given (entries_of file)) founds

module _ (log end : ℕ) (honest : Bool) (file : List ℕ) (old : Tally) (s : Scan) (now : Tally) (so_far : IsScanning log end honest file old s now) where
  scan_part : end ≡ view_end file → part_of s ≡ drop header_length file
  scan_part whole = (λ i. part (so_far.bytes i) (so_far.from i) (so_far.to i)) ∙ whole_view file end whole

  scan_entries : end ≡ view_end file → entries_in s.from (part_of s) ≡ entries_of file
  scan_entries whole = (λ i. entries_in (so_far.from i) (scan_part whole i)) ∙ entries_in-file file

  is_honest : IsTrue honest → IsTrue s.honest
  is_honest is = so_far.honest_is ∙ is

  -- one more entry
  module _ (found : Found) (s' : Scan) (moves : NextMoves s (Ok (Some found)) s') where
    pub scanning_on : (now' : Tally) → (IsTrue s.honest → ScanNextTransition s (Ok (Some found)) s') → (IsTrue honest → end ≡ view_end file)
        → now' ≡ with_entry log now found → IsScanning log end honest file old s' now'
    scanning_on now' turn whole added = record {
      founds = so_far.founds ++ found ∷ [];
      taken = added ∙ ap (λ t. with_entry log t found) so_far.taken ∙ sym (entries_push log old so_far.founds found);
      total = ap (λ (t : Tally). total_in t.accounts log) added ∙ total_entry log now found (bytes_found so_far.founds) so_far.total
          ∙ ap Some (sym (bytes_push so_far.founds found));
      room = omega (arith, so_far.room, moves.1.fewer, bytes_push so_far.founds found);
      from = ap (λ (x : Scan). x.from) moves.2 ∙ so_far.from;
      to = ap (λ (x : Scan). x.end) moves.2 ∙ so_far.to;
      bytes = ap (λ (x : Scan). x.file) moves.2 ∙ so_far.bytes;
      honest_is = ap (λ (x : Scan). x.honest) moves.2 ∙ so_far.honest_is;
      stand = λ is.
          let given = turn (is_honest is) in
          let listed : slice_get (entries_of file) s.given ≡ Some (found.at, given.payload) =
          ap (λ (l : List (ℕ × List ℕ)). slice_get l s.given) (sym (scan_entries (whole is))) ∙ given.listed in
          let counted : s'.given ≡ s.given + 1 = ap (λ (x : Scan). x.given) moves.2 in
          subst (λ n. AreFoundAt (take n (entries_of file)) (so_far.founds ++ found ∷ [])) (sym counted)
          (subst (λ l. AreFoundAt l (so_far.founds ++ found ∷ [])) (sym (take_next (entries_of file) s.given (found.at, given.payload) listed))
          (found_push (take s.given (entries_of file)) so_far.founds (found.at, given.payload) found (so_far.stand is)
          (refl, given.stands.keyed, given.sized)));
    }

  -- the entries of a run
  module _ (run : FoundRun) (s' : Scan) (moves : RunMoves s run s') where
    pub run_fits : end < 2 ^ 32 → (0 < run.count) × ((run.first.key.entry + run.count ≤ 2 ^ 63) × ((1028 ≤ run.first.at)
        × ((run.first.at + bytes_of_run run < 2 ^ 32 + run.first.size) × ((bytes_of_run run < 2 ^ 32)
        × (bytes_found so_far.founds + bytes_of_run run < 2 ^ 32)))))
    run_fits short = (
      moves.some,
      (
        moves.ids,
        (
          omega (arith, moves.begins, so_far.from),
          (
            omega (arith, moves.ends, moves.long, so_far.to, short),
            (omega (arith, moves.fewer, so_far.room, short), omega (arith, moves.fewer, so_far.room, short)),
          ),
        ),
      ),
    )

    pub scanning_run : (now' : Tally) → (IsTrue s.honest → AreEntriesOf s s.given (founds_of run)) → (IsTrue honest → end ≡ view_end file)
        → now' ≡ with_entries log now (founds_of run) → IsScanning log end honest file old s' now'
    scanning_run now' turn whole added =
        let more = founds_of run in
        let bytes : bytes_found more ≡ bytes_of_run run = bytes-founds_from run.first run.count in
        let both = bytes_append so_far.founds more in
        record {
          founds = so_far.founds ++ more;
          taken = added ∙ ap (λ t. with_entries log t more) so_far.taken ∙ sym (entries_append log old so_far.founds more);
          total = ap (λ (t : Tally). total_in t.accounts log) added ∙ total_entries log now more (bytes_found so_far.founds) so_far.total
              ∙ ap Some (sym both);
          room = omega (arith, so_far.room, moves.fewer, both, bytes);
          from = ap (λ (x : Scan). x.from) moves.scan_is ∙ so_far.from;
          to = ap (λ (x : Scan). x.end) moves.scan_is ∙ so_far.to;
          bytes = ap (λ (x : Scan). x.file) moves.scan_is ∙ so_far.bytes;
          honest_is = ap (λ (x : Scan). x.honest) moves.scan_is ∙ so_far.honest_is;
          stand = λ is.
              let counted : s'.given ≡ s.given + length more =
              ap (λ (x : Scan). x.given) moves.scan_is ∙ ap (λ n. s.given + n) (sym (length-founds_from run.first run.count)) in
              subst (λ n. AreFoundAt (take n (entries_of file)) (so_far.founds ++ more)) (sym counted)
              (founds_more s (entries_of file) s.given so_far.founds more (scan_entries (whole is)) (so_far.stand is) (turn (is_honest is)));
        }

  -- the end
  pub scanned : (s' : Scan) → NextMoves s (Ok None) s' → (IsTrue s.honest → ScanNextTransition s (Ok None) s') → (IsTrue honest → end ≡ view_end file)
      → IsScanned log end honest file old now
  scanned s' moves turn whole =
      let same : part_of s' ≡ part_of s =
      λ i. part (ap (λ (x : Scan). x.file) moves.1 i) (ap (λ (x : Scan). x.from) moves.1 i) (ap (λ (x : Scan). x.end) moves.1 i) in
      let from : s'.from ≡ s.from = ap (λ (x : Scan). x.from) moves.1 in
      let counted : s'.given ≡ s.given = ap (λ (x : Scan). x.given) moves.1 in
      record {
        founds = so_far.founds;
        taken = so_far.taken;
        fits = omega (arith, so_far.room);
        stand = λ is.
            let finished = turn (is_honest is) in
            let all : s.given ≡ length (entries_of file) =
            sym counted ∙ finished.given ∙ ap length ((λ i. entries_in (from i) (same i)) ∙ scan_entries (whole is)) in
            let whole_list : take s.given (entries_of file) ≡ entries_of file = take_all s.given (entries_of file) (omega (arith, all)) in
            subst (λ l. AreFoundAt l so_far.founds) whole_list (so_far.stand is);
        whole = λ is at value bad.
            let finished = turn (is_honest is) in
            let here : part_of s' ≡ drop header_length file = same ∙ scan_part (whole is) in
            never_both s'.from (part_of s') (all_pieces s'.from (part_of s')) (all_leftover (part_of s')) at value finished.spelled
            (subst (λ n. IsBadAt n (part_of s') at value) (sym (from ∙ so_far.from)) (subst (λ b. IsBadAt header_length b at value) (sym here) bad));
      }

  -- a fault
  pub scan_refused : (fault : ScanFault) (s' : Scan) → NextMoves s (Err fault) s' → (IsTrue s.honest → ScanNextTransition s (Err fault) s')
      → (IsTrue honest → end ≡ view_end file) → end < 2 ^ 32 → IsTrue honest → IsHeaded file → FileFails log file (open_fault_of_scan log fault)
  scan_refused (scans.BadLength at value) s' moves turn whole short is headed =
      let same : part_of s' ≡ part_of s =
      λ i. part (ap (λ (x : Scan). x.file) moves i) (ap (λ (x : Scan). x.from) moves i) (ap (λ (x : Scan). x.end) moves i) in
      let from : s'.from ≡ header_length = ap (λ (x : Scan). x.from) moves ∙ so_far.from in
      let bad = (turn (is_honest is)).1 in (
        refl,
        omega (arith, whole is, short),
        (headed, subst (λ b. IsBadAt header_length b at value) (same ∙ scan_part (whole is)) (subst (λ n. IsBadAt n (part_of s') at value) from bad)),
      )
  scan_refused scans.Disk s' moves turn whole short is headed = tt
  scan_refused scans.Memory s' moves turn whole short is headed = tt
  scan_refused scans.Odd s' moves turn whole short is headed = turn (is_honest is)

-- an opening fails with `Disk` by a scan only if the scan does
pub disk_told : (id : ℕ) (fault : ScanFault) → open_fault_of_scan id fault ≡ open_faults.Disk → fault ≡ scans.Disk
disk_told id (scans.BadLength at value) is = cc
disk_told id scans.Disk is = refl
disk_told id scans.Memory is = cc
disk_told id scans.Odd is = cc
