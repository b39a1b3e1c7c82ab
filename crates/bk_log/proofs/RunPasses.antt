-- Records whose heads a view knows: each is the entry at its position, and a scan passes all of them.
use Rattle.std.proofs.Common.{◌≡◌, ℕ, zero, suc, ◌+◌, ◌-◌, ◌*◌, ◌<◌, ◌≤◌, ◌^◌, Bool, true, false, cond, ◌&&◌, nat_lt, List, ◌++◌, length, take, drop}
use Rattle.std.proofs.Common.{Option, Some, None, IsTrue, slice_get, refl, sym, ap, ◌∙◌, subst, arith}
use Rattle.std.proofs.Math.Nat.{suc-mul, mul-le-mul_right, mul-le-mul_left}
use Rattle.std.proofs.lemmas.Bool.{false≢true, and_from, lt-ltb}
use Rattle.std.proofs.lemmas.List.{take-take, length-take}
use Rattle.std.proofs.lemmas.Nat.{from_be_bytes-to_be_bytes_8}
use Rattle.std.specs.Int.{w64, to_be_bytes}
use Rattle.bk_record.specs.Key.{EntryKey}
use Rattle.bk_record.specs.Record.{key_of, ledger_field, entry_field}
use Rattle.bk_record.specs.Files.{header_length}
use Rattle.bk_disk.specs.Blocks.{HasPrefix}
use Rattle.bk_disk.specs.Disk.{IsInView}
use Rattle.bk_disk.specs.Runs.{head_in_run, IsRunAt}
use Rattle.bk_disk.specs.declared.record_run.RecordRun.{RecordRun}
use Rattle.bk_log.specs.declared.fault.ScanFault.{ScanFault}
use Rattle.bk_log.specs.declared.found.Found.{Found}
use Rattle.bk_log.specs.declared.found.FoundRun.{FoundRun}
use Rattle.bk_log.specs.declared.front.Front.TheVariants.{Record}
use Rattle.bk_log.specs.Ahead.{Ahead}
use Rattle.bk_log.specs.Fronts.{IsFront, HasWholeFirst, IsWholeRun}
use Rattle.bk_log.specs.FoundRuns.{found_adjacent, founds_from, founds_of, IsEntryOf, AreEntriesOf}
use Rattle.bk_log.specs.Places.{HasEntryAt}
use Rattle.bk_log.specs.Ranges.{IsPassed, entries_in, part}
use Rattle.bk_log.specs.Scanned.{window_scan, KeepsScan}
use Rattle.bk_log.specs.Scanning.{Scan, part_of}
use Rattle.bk_log.proofs.Aheads.{length-left}
use Rattle.bk_log.proofs.Fronts.{record_shown}
use Rattle.bk_log.proofs.Kept.{behind_record, foreign_some, no_fault, record_stands}
use Rattle.bk_log.proofs.Passes.{passed_more, entry_at}

-- ---- the head of a record of a run

key_from_fields : (ids : List ℕ) (ledger entry : ℕ) → ledger_field ids ≡ ledger → entry_field ids ≡ entry → ledger < 2 ^ 63 → entry < 2 ^ 63
    → Some (record { ledger = ledger; entry = entry }) ≡ key_of ids
unfolding key_of
key_from_fields ids ledger entry first second low least =
    let fits : (nat_lt ledger (2 ^ 63) && nat_lt entry (2 ^ 63)) ≡ true = and_from _ _ (lt-ltb _ _ low) (lt-ltb _ _ least) in
    let both : ℕ → ℕ → Option EntryKey = λ n k. cond (nat_lt n (2 ^ 63) && nat_lt k (2 ^ 63)) (Some (record { ledger = n; entry = k })) None in
    sym (ap (λ n. both n (entry_field ids)) first ∙ ap (λ k. both ledger k) second
    ∙ ap (λ b. cond b (Some (record { ledger = ledger; entry = entry })) None) fits)

-- the two ids are those in the bytes
key_written : (ledger entry : ℕ) → ledger < 2 ^ 63 → entry < 2 ^ 63
    → Some (record { ledger = ledger; entry = entry }) ≡ key_of (to_be_bytes w64 ledger ++ to_be_bytes w64 entry)
unfolding ledger_field entry_field
key_written ledger entry low least =
    key_from_fields (to_be_bytes w64 ledger ++ to_be_bytes w64 entry) ledger entry (from_be_bytes-to_be_bytes_8 ledger (omega arith))
    (from_be_bytes-to_be_bytes_8 entry (omega arith)) low least

-- bytes that begin with the head of a record of a run, and are long enough, begin with the record
pub front_in_run : (bytes : List ℕ) (at left : ℕ) (run : RecordRun) (place : ℕ) → HasPrefix (drop at bytes) (head_in_run run place) → 20 ≤ run.size
    → run.size < 2 ^ 31 + 4 → run.first.ledger < 2 ^ 63 → run.first.entry + place < 2 ^ 63 → run.size ≤ length (take left (drop at bytes))
    → IsFront (take left (drop at bytes)) (Record run.size (Some (record { ledger = run.first.ledger; entry = run.first.entry + place })))
front_in_run bytes at left run place (behind, is) long legal low least enough =
    let head = head_in_run run place in
    let ids = to_be_bytes w64 run.first.ledger ++ to_be_bytes w64 (run.first.entry + place) in
    let many : 20 ≤ left = omega (arith, length-take left (drop at bytes)) in
    let front : take 20 (head ++ behind) ≡ head = refl in
    let shown : head ≡ take 20 (take left (drop at bytes)) = sym (take-take 20 left (drop at bytes) many ∙ ap (take 20) is ∙ front) in
    let (payload, (begins, (sized, keyed))) =
    record_shown (take left (drop at bytes)) head ids (run.size - 4) (Some (record { ledger = run.first.ledger; entry = run.first.entry + place })) shown refl
    (omega arith) (omega arith) (omega arith) refl (key_written run.first.ledger (run.first.entry + place) low least) in
    (payload, (begins, (omega (arith, sized), keyed)))

-- the first record of a run at a position is there
pub first_in_run : (bytes : List ℕ) (at left : ℕ) (run : RecordRun) → IsInView bytes at left → IsRunAt bytes at run → HasWholeFirst left run
    → IsFront (take left (drop at bytes)) (Record run.size (Some run.first))
first_in_run bytes at left run view shown whole =
    let here : at + 0 * run.size ≡ at = omega arith in
    let same : run.first.entry + 0 ≡ run.first.entry = omega arith in
    subst (λ n. IsFront (take left (drop at bytes)) (Record run.size (Some (record { ledger = run.first.ledger; entry = n })))) same
    (front_in_run bytes at left run 0 (subst (λ n. HasPrefix (drop n bytes) (head_in_run run 0)) here (shown 0 whole.some)) whole.long whole.legal whole.ledger
    (omega (arith, whole.entry)) (omega (arith, whole.within, length-left bytes at left view)))

-- ---- a scan passes the records of a run

-- an entry at the position is the next one of the part, and is passed
entry_passed : (s : Scan) (at given foreign : ℕ) (found : Found) → found.at ≡ at + 4 → header_length ≤ at → at + found.size ≤ s.end
    → IsPassed s.from (part_of s) at (part s.file at s.end) given foreign → IsFront (part s.file at s.end) (Record found.size (Some found.key))
    → IsEntryOf s given found × IsPassed s.from (part_of s) (at + found.size) (part s.file (at + found.size) s.end) (given + 1) foreign
entry_passed s at given foreign found place headed within passed (payload, (begins, (sized, is))) =
    let entry = foreign_some payload found.key is in
    let none : foreign + 0 ≡ foreign = omega arith in
    let more = passed_more s.from at given foreign (part_of s) (part s.file at s.end) _ payload false passed begins
    (behind_record s.file payload at s.end begins (omega (arith, sized))) entry in (
      record {
        payload = payload;
        listed = subst (λ n. slice_get (entries_in s.from (part_of s)) given ≡ Some (n, payload)) (sym place)
            (entry_at s.from at given foreign (part_of s) (part s.file at s.end) payload passed begins entry);
        stands = subst (λ n. HasEntryAt s.file n found.key payload) (sym place)
            (record { here = record_stands s.file payload at s.end headed begins; keyed = sym is });
        sized = sized;
      },
      subst (λ n. IsPassed s.from (part_of s) (at + n) (part s.file (at + n) s.end) (given + 1) foreign) (sym sized)
          (subst (λ n. IsPassed s.from (part_of s) (at + (4 + length payload)) (part s.file (at + (4 + length payload)) s.end) (given + 1) n) none more),
    )

-- entries of one size that stand one behind another are the next ones of the part, and are passed
entries_passed : (s : Scan) (at given foreign count : ℕ) (found : Found) → found.at ≡ at + 4 → header_length ≤ at → at + count * found.size ≤ s.end
    → IsPassed s.from (part_of s) at (part s.file at s.end) given foreign
    → ((place : ℕ) → place < count → IsFront (part s.file (at + place * found.size) s.end)
    (Record found.size (Some (record { ledger = found.key.ledger; entry = found.key.entry + place }))))
    → AreEntriesOf s given (founds_from found count)
    × IsPassed s.from (part_of s) (at + count * found.size) (part s.file (at + count * found.size) s.end) (given + count) foreign
entries_passed s at given foreign zero found place headed within passed fronts =
    let here : at ≡ at + 0 * found.size = omega arith in
    let same : given ≡ given + 0 = omega arith in (
      tt,
      subst (λ n. IsPassed s.from (part_of s) n (part s.file n s.end) (given + 0) foreign) here
          (subst (λ n. IsPassed s.from (part_of s) at (part s.file at s.end) n foreign) same passed),
    )
entries_passed s at given foreign (suc count) found place headed within passed fronts =
    let size = found.size in
    let sum : suc count * size ≡ count * size + size = suc-mul count size in
    let here : at + 0 * size ≡ at = omega arith in
    let first : found.key.entry + 0 ≡ found.key.entry = omega arith in
    let front : IsFront (part s.file at s.end) (Record size (Some found.key)) =
    subst (λ n. IsFront (part s.file n s.end) (Record size (Some found.key))) here
    (subst (λ n. IsFront (part s.file (at + 0 * size) s.end) (Record size (Some (record { ledger = found.key.ledger; entry = n })))) first
    (fronts 0 (omega arith))) in
    let one = entry_passed s at given foreign found place headed (omega (arith, sum)) passed front in
    let later = entries_passed s (at + size) (given + 1) foreign count (found_adjacent found) (omega arith) (omega arith) (omega (arith, sum)) one.1
    (λ k less.
    let step : at + suc k * size ≡ at + size + k * size = omega (arith, suc-mul k size) in
    let id : found.key.entry + suc k ≡ found.key.entry + 1 + k = omega arith in
    subst (λ n. IsFront (part s.file n s.end) (Record size (Some (record { ledger = found.key.ledger; entry = found.key.entry + 1 + k })))) step
    (subst (λ n. IsFront (part s.file (at + suc k * size) s.end) (Record size (Some (record { ledger = found.key.ledger; entry = n })))) id
    (fronts (suc k) (omega arith)))) in
    let end : at + size + count * size ≡ at + suc count * size = omega (arith, sum) in
    let number : given + 1 + count ≡ given + suc count = omega arith in (
      (one.0, later.0),
      subst (λ n. IsPassed s.from (part_of s) n (part s.file n s.end) (given + suc count) foreign) end
          (subst (λ n. IsPassed s.from (part_of s) (at + size + count * size) (part s.file (at + size + count * size) s.end) n foreign) number later.1),
    )

-- ---- the invariant of a scanner

-- the run at a position, as entries found
abbrev pub found_run : ℕ → RecordRun → FoundRun
found_run at run = record { first = record { key = run.first; at = at + 4; size = run.size }; count = run.count }

-- a run at the window's position is the next entries of the part, and is passed
pub run_passed : (window : Ahead) (from end given foreign torn size : ℕ) (ended : Bool) (fault : Option ScanFault) (run : RecordRun)
    → KeepsScan window from end given foreign torn ended fault → IsTrue window.honest → IsRunAt window.bytes window.at run
    → HasWholeFirst (end - window.at) run → IsWholeRun (end - window.at) run size
    → AreEntriesOf (window_scan window from end given foreign torn ended fault) given (founds_of (found_run window.at run))
    × IsPassed from (part window.bytes from end) (window.at + run.count * run.size) (part window.bytes (window.at + run.count * run.size) end)
    (given + run.count) foreign
run_passed window from end given foreign torn size ended fault run kept h shown whole all =
    let at = window.at in
    entries_passed (window_scan window from end given foreign torn ended fault) at given foreign run.count
    (record { key = run.first; at = at + 4; size = run.size }) refl (omega (arith, kept.headed, kept.placed.begun))
    (omega (arith, kept.placed.within, all.sum, all.within)) (kept.scanned h).passed
    (λ place less.
    let here = at + place * run.size in
    let more : suc place * run.size ≤ run.count * run.size = mul-le-mul_right run.size less in
    let last : here + run.size ≤ end = omega (arith, more, suc-mul place run.size, kept.placed.within, all.sum, all.within) in
    let view : IsInView window.bytes here (end - here) =
    (omega (arith, kept.headed, kept.placed.begun), omega (arith, kept.in_view h, last)) in
    front_in_run window.bytes here (end - here) run place (shown place less) whole.long whole.legal whole.ledger (omega (arith, all.ids, less))
    (omega (arith, last, length-left window.bytes here (end - here) view)))

-- invariant after a run
pub kept_run : (window : Ahead) (from end given foreign torn size ready : ℕ) (ended : Bool) (fault : Option ScanFault) (run : RecordRun)
    → KeepsScan window from end given foreign torn ended fault → 0 < window.room → ended ≡ false → fault ≡ None
    → (IsTrue window.honest → IsRunAt window.bytes window.at run) → HasWholeFirst (end - window.at) run → IsWholeRun (end - window.at) run size
    → KeepsScan (record window { at = window.at + size; ready = ready }) from end (given + run.count) foreign torn ended fault
kept_run window from end given foreign torn size ready ended fault run kept made going calm shown whole all = record {
  placed = record {
    begun = omega (arith, kept.placed.begun);
    within = omega (arith, kept.placed.within, all.within);
    room =
        let least : run.count * 20 ≤ run.count * run.size = mul-le-mul_left run.count whole.long in
        omega (arith, kept.placed.room, all.sum, least);
    end_fits = kept.placed.end_fits;
  };
  told = kept.told;
  fresh = λ goes still none. absurd (omega (arith, made, none));
  headed = kept.headed;
  in_view = kept.in_view;
  scanned = λ h. record {
    passed = subst (λ n. IsPassed from (part window.bytes from end) (window.at + n) (part window.bytes (window.at + n) end) (given + run.count) foreign)
        (sym all.sum) (run_passed window from end given foreign torn size ended fault run kept h (shown h) whole all).1;
    finished = λ e. absurd (false≢true (sym going ∙ e));
    stopped = λ f e. absurd (no_fault fault f calm e);
  };
}
