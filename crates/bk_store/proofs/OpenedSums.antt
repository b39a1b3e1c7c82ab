-- The accounts of logs that are tallied entry by entry: the sums over the entries found.
use Rattle.std.proofs.Common.{◌≡◌, ℕ, suc, ◌+◌, ◌<◌, ◌≤◌, ◌^◌, Bool, true, false, ◌==◌, if◌then◌else◌, List, [], ◌∷◌, ◌++◌, length, Some, None, Option}
use Rattle.std.proofs.Common.{IfSome, Result, Ok, Err, is_err, OnOk, refl, sym, ap, subst, ◌∙◌, append_assoc, length-append, arith, eq-eqb}
use Rattle.std.specs.List.{count_by, AllByRecursion}
use Rattle.std.specs.Option.{option_map}
use Rattle.std.proofs.lemmas.List.{append-nil}
use Rattle.std.proofs.lemmas.List.Sums.{sum_by-cons}
use Rattle.std.specs.FinSet as set
use Rattle.bk_record.specs.Key.{EntryKey}
use Rattle.bk_record.specs.Location.{Place}
use Rattle.bk_log.specs.declared.found.Found.{Found}
use Rattle.bk_accounts.specs.Book.{Book, named_in, total_in, after_open, after_ready, after_count, after_count_dead, after_name, after_names}
use Rattle.bk_accounts.specs.Sums.{Measure, AreSums}
use Rattle.bk_accounts.proofs.CallerLaws.{sums_open, sums_ready, sums_count, sums_count_dead, sums_name}
use Rattle.bk_accounts.proofs.BookLaws.{named_in-after_name, named_in-after_names, total_in-after_ready}
use Rattle.bk_accounts.proofs.ManyCalls.{names_more, names_none}
use Rattle.bk_accounts.proofs.Listings.{swapped}
use Rattle.bk_index.specs.Passing.{PassesLog}
use Rattle.bk_store.specs.Found.{LogRead, with_entry, with_entries, with_read, with_reads, named_by, AreUnnamed}
use Rattle.bk_store.specs.declared.open.tally.Tally.{Tally}

-- an entry that was found is measured by its ledger and the size of its record
abbrev pub found_measure : Measure Found
found_measure = record { ledger = λ found. found.key.ledger; size = λ found. found.size }

-- the lists of entries of logs
abbrev pub Lists : Type 0
Lists = ℕ → Option (List Found)

-- with another list for one log
abbrev pub with_list : Lists → ℕ → List Found → Lists
with_list lists log founds q = if q == log then Some founds else lists q

-- with those of more logs
abbrev pub with_lists : Lists → List LogRead → Lists
with_lists lists [] = lists
with_lists lists (r ∷ later) = with_lists (with_list lists r.id r.founds) later

-- the sums of a tally's accounts
abbrev pub HasSums : Tally → Lists → (ℕ → ℕ) → Book → Type 0
HasSums t lists names book = AreSums found_measure (set.contains t.dead) lists names book

list_here : (lists : Lists) (log : ℕ) (founds : List Found) → with_list lists log founds log ≡ Some founds
list_here lists log founds = ap (λ b. if b then Some founds else lists log) (eq-eqb log log refl)

list_again : (lists : Lists) (log : ℕ) (first second : List Found) (q : ℕ)
    → with_list lists log second q ≡ (if q == log then Some second else with_list lists log first q)
list_again lists log first second q =
    elim (q == log) as (λ b. (if b then Some second else lists q) ≡ (if b then Some second else if b then Some first else lists q)) [
      | true ↦ refl
      | false ↦ refl
    ]

pub dead-entries : (log : ℕ) (t : Tally) (founds : List Found) → (with_entries log t founds).dead ≡ t.dead
dead-entries log t [] = refl
dead-entries log t (found ∷ later) = dead-entries log (with_entry log t found) later

pub dead-reads : (t : Tally) (reads : List LogRead) → (with_reads t reads).dead ≡ t.dead
dead-reads t [] = refl
dead-reads t (r ∷ later) = dead-reads (with_read t r) later ∙ dead-entries r.id (record t { accounts = after_open t.accounts r.id }) r.founds

module _ (names : ℕ → ℕ) (lists : Lists) (log : ℕ) where
  sums_entry : (t : Tally) (found : Found) (front : List Found) → HasSums t (with_list lists log front) names t.accounts
      → HasSums t (with_list lists log (front ++ found ∷ [])) names (with_entry log t found).accounts
  sums_entry t found front sums =
      let later = with_list lists log (front ++ found ∷ []) in
      let was = list_here lists log front in
      let is = list_again lists log front (front ++ found ∷ []) in
      elim (set.contains t.dead found.key.ledger) as (λ b. set.contains t.dead found.key.ledger ≡ b
      → HasSums t later names (record t {
        index = t.index;
        accounts = if b
            then after_count_dead t.accounts log found.size
            else after_count (after_ready t.accounts log found.key.ledger) log found.key.ledger found.size;
      }).accounts) [
        | true ↦ λ gone. sums_count_dead found_measure sums log front found later was gone is
        | false ↦ λ alive. sums_count found_measure (sums_ready found_measure sums log found.key.ledger) log front found later was alive is
      ] refl

  pub sums_entries : (t : Tally) (founds front : List Found) → HasSums t (with_list lists log front) names t.accounts
      → HasSums t (with_list lists log (front ++ founds)) names (with_entries log t founds).accounts
  sums_entries t [] front sums = subst (λ l. HasSums t (with_list lists log l) names t.accounts) (sym (append-nil front)) sums
  sums_entries t (found ∷ later) front sums =
      subst (λ l. HasSums t (with_list lists log l) names (with_entries log (with_entry log t found) later).accounts) (append_assoc front (found ∷ []) later)
      (sums_entries (with_entry log t found) later (front ++ found ∷ []) (sums_entry t found front sums))

-- no log has a name yet
abbrev pub no_names : ℕ → ℕ
no_names _ = 0

pub sums_reads : (t : Tally) (lists : Lists) (reads : List LogRead) → HasSums t lists no_names t.accounts
    → HasSums t (with_lists lists reads) no_names (with_reads t reads).accounts
sums_reads t lists [] sums = sums
sums_reads t lists (r ∷ later) sums =
    let opened = record t { accounts = after_open t.accounts r.id } in
    let begun = sums_open found_measure sums r.id (with_list lists r.id []) refl (λ q. refl) in
    let taken = sums_entries no_names lists r.id opened r.founds [] begun in
    let same = dead-entries r.id opened r.founds in
    subst
    (λ dead. AreSums found_measure (set.contains dead) (with_lists (with_list lists r.id r.founds) later) no_names (with_reads (with_read t r) later).accounts)
    same
    (sums_reads (with_read t r) (with_list lists r.id r.founds) later
    (subst (λ dead. AreSums found_measure (set.contains dead) (with_list lists r.id r.founds) no_names (with_read t r).accounts) (sym same) taken))

-- ---- names

-- how many of the pairs send their key to the log
abbrev pub names_in : List (EntryKey × Place) → ℕ → ℕ
names_in pairs log = count_by (λ e. e.1.log == log) pairs

pub plus_none : (n : ℕ) → n ≡ n + 0
plus_none n = omega arith

-- a name more, counted first or last
name_moved : (n rest : ℕ) (a b : Bool) → a ≡ b → (if a then n + 1 else n) + rest ≡ n + ((if b then 1 else 0) + rest)
name_moved n rest true true same = omega arith
name_moved n rest true false same = cc
name_moved n rest false true same = cc
name_moved n rest false false same = omega arith

pub name_counted : (names : ℕ → ℕ) (e : EntryKey × Place) (pairs : List (EntryKey × Place)) (log : ℕ)
    → (if log == e.1.log then names log + 1 else names log) + names_in pairs log ≡ names log + names_in (e ∷ pairs) log
name_counted names e pairs log =
    name_moved (names log) (names_in pairs log) (log == e.1.log) (e.1.log == log) (swapped log e.1.log)
    ∙ ap (λ n. names log + n) (sym (sum_by-cons (λ (x : EntryKey × Place). if x.1.log == log then 1 else 0) e pairs))

module _ {is_dead : ℕ → Bool} {lists : Lists} where
  pub sums_named : (pairs : List (EntryKey × Place)) (names : ℕ → ℕ) (book : Book) → AreSums found_measure is_dead lists names book
      → AreSums found_measure is_dead lists (λ log. names log + names_in pairs log) (named_by pairs book)
  sums_named [] names book sums = subst (λ f. AreSums found_measure is_dead lists f book) (λ i log. plus_none (names log) i) sums
  sums_named (e ∷ pairs) names book sums =
      let more : ℕ → ℕ = λ q. if q == e.1.log then names q + 1 else names q in
      let named = sums_name found_measure sums e.1.log more (λ q. refl) in
      subst (λ f. AreSums found_measure is_dead lists f (named_by pairs (after_name book e.1.log)))
      (λ i log. name_counted names e pairs log i)
      (sums_named pairs more (after_name book e.1.log) named)

-- ---- what each call asks

pub when_ok : {T E P : Type 0} (r : Result T E) → is_err r ≡ false → OnOk r P → P
when_ok (Ok x) ok on = on
when_ok (Err fault) ok on = cc

-- a log whose total leaves room for one more record has that room after a `ready`
pub still_fits : (book now : Book) (log ledger size : ℕ) → now ≡ after_ready book log ledger → IfSome (total_in book log) (λ total. total + size < 2 ^ 32)
    → IfSome (total_in now log) (λ total. total + size < 2 ^ 32)
still_fits book now log ledger size is fits =
    subst (λ o. IfSome o (λ total. total + size < 2 ^ 32)) (sym (ap (λ b. total_in b log) is ∙ total_in-after_ready book log ledger log)) fits

-- each log has n index entries at most
abbrev pub NamedWithin : ℕ → Book → Type 0
NamedWithin most book = (log : ℕ) → IfSome (named_in book log) (λ named. named ≤ most)

one_more_name : (most : ℕ) (o : Option ℕ) (b : Bool) → IfSome o (λ named. named ≤ most)
    → IfSome (option_map (λ named. if b then named + 1 else named) o) (λ named. named ≤ most + 1)
one_more_name most None b within = tt
one_more_name most (Some n) true within = omega (arith, within)
one_more_name most (Some n) false within = omega (arith, within)

pub within_name : (most : ℕ) (book : Book) (log : ℕ) → NamedWithin most book → NamedWithin (most + 1) (after_name book log)
within_name most book log within q =
    subst (λ o. IfSome o (λ named. named ≤ most + 1)) (sym (named_in-after_name book log q)) (one_more_name most (named_in book q) (q == log) (within q))

-- ---- a walk over the pairs of an index that names their logs

-- the pairs that are left name their logs as all of them do, and no log has more names than pairs
-- were passed
pub record IsNaming (pairs : List (EntryKey × Place)) (old : Book) (left : List (EntryKey × Place)) (now : Book) : Type 0 where
  pub passed : ℕ
  pub counted : passed + length left ≡ length pairs
  pub within : NamedWithin passed now
  pub named : named_by left now ≡ named_by pairs old

module _ {pairs left : List (EntryKey × Place)} {old now : Book} {e : EntryKey × Place} (so_far : IsNaming pairs old (e ∷ left) now) where
  pub naming_on : IsNaming pairs old left (after_name now e.1.log)
  naming_on = record {
    passed = so_far.passed + 1;
    counted = omega (arith, so_far.counted);
    within = within_name so_far.passed now e.1.log so_far.within;
    named = so_far.named;
  }

-- ---- the same, with the names of adjacent pairs of one log counted together

none_within : (o : Option ℕ) → IfSome o (λ named. named ≡ 0) → IfSome o (λ named. named ≤ 0)
none_within None none = tt
none_within (Some n) none = omega (arith, none)

pub naming_first : (pairs : List (EntryKey × Place)) (book : Book) → AreUnnamed book → IsNaming pairs book pairs book
naming_first pairs book unnamed = record {
  passed = 0;
  counted = omega arith;
  within = λ q. none_within (named_in book q) (unnamed q);
  named = refl;
}

many_fit : (most count : ℕ) (o : Option ℕ) → most + count < 2 ^ 64 → IfSome o (λ named. named ≤ most) → IfSome o (λ named. named + count < 2 ^ 64)
many_fit most count None few within = tt
many_fit most count (Some n) few within = omega (arith, few, within)

module _ {pairs : List (EntryKey × Place)} {old : Book} (now : Book) (log : ℕ) where
  -- pairs of the log, behind so many that were counted
  naming_more : (count : ℕ) (passed left : List (EntryKey × Place)) → AllByRecursion (λ pair. pair.1.log ≡ log) passed
      → IsNaming pairs old (passed ++ left) (after_names now log count) → IsNaming pairs old left (after_names now log (count + length passed))
  naming_more count [] left same so_far =
      let none : count ≡ count + 0 = omega arith in
      subst (λ n. IsNaming pairs old left (after_names now log n)) none so_far
  naming_more count (e ∷ passed) left same so_far =
      let next = ap (after_name (after_names now log count)) same.0 ∙ names_more now log count in
      let many : (count + 1) + length passed ≡ count + suc (length passed) = omega arith in
      subst (λ n. IsNaming pairs old left (after_names now log n)) many
      (naming_more (count + 1) passed left same.1 (subst (IsNaming pairs old (passed ++ left)) next (naming_on so_far)))

  module _ {before left : List (EntryKey × Place)} (count : ℕ) (passes : PassesLog before log count left) (so_far : IsNaming pairs old before now) where
    pub naming_passed : IsNaming pairs old left (after_names now log count)
    naming_passed =
        let all = subst (λ (l : List (EntryKey × Place)). IsNaming pairs old l now) passes.split so_far in
        let many : 0 + length passes.passed ≡ count = omega (arith, passes.many) in
        subst (λ n. IsNaming pairs old left (after_names now log n)) many
        (naming_more 0 passes.passed left passes.same (subst (IsNaming pairs old (passes.passed ++ left)) (sym (names_none now log)) all))

    pub naming_many : length pairs < 2 ^ 64 → IfSome (named_in now log) (λ named. named + count < 2 ^ 64)
    naming_many few =
        let split = ap length passes.split ∙ length-append passes.passed left in
        many_fit so_far.passed count (named_in now log) (omega (arith, few, so_far.counted, split, passes.many)) (so_far.within log)
