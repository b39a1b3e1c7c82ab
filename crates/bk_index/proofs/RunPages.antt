-- The page of a run: each of its keys up to the next fence has it, and those added at its end are
-- put in among all pairs.
use Rattle.std.proofs.Common.{◌≡◌, inl, inr, ℕ, zero, suc, ◌+◌, ◌<◌, ◌≤◌, List, [], ◌∷◌, ◌++◌, length, get_or, set, refl, sym, ap, subst, ◌∙◌, arith}
use Rattle.std.proofs.Common.{length-append}
use Rattle.std.proofs.lemmas.Bool.{cases_lt}
use Rattle.std.proofs.lemmas.List.{get_or-map, append-nil}
use Rattle.std.proofs.lemmas.List.Concat.{flat_map-append}
use Rattle.std.specs.List.{AllByRecursion}
use Rattle.std.specs.declared.cmp.Ordering.TheVariants.{Less}
use Rattle.std.specs.Bool.{IsTrue}
use Rattle.std.specs.FinMap.{put, is_sorted, from_sorted}
use Rattle.bk_record.specs.Key.{EntryKey, key_cmp}
use Rattle.bk_record.specs.Location.{Place}
use Rattle.bk_record.specs.Keyed.{Places}
use Rattle.bk_record.proofs.Keys.{key_cmp_total}
use Rattle.bk_record.proofs.SortedPairs.{is_sorted_put}
use Rattle.bk_record.proofs.SortedMaps.{insert-sorted}
use Rattle.bk_index.specs.Sorted.{IsGapFor}
use Rattle.bk_index.specs.Pages.{first_key, all_pairs, IsHome, AreFenced, AreCounted}
use Rattle.bk_index.specs.Runs.{key_behind, place_behind, key_of_run, pairs_of_run, with_run, put_run}
use Rattle.bk_index.proofs.CutPairs.{each_weaker, head_below, sorted_back}
use Rattle.bk_index.proofs.Homes.{AreFilled}
use Rattle.bk_index.proofs.FencedPages.{few_fences, length_set}
use Rattle.bk_index.proofs.HomePages.{read_page}
use Rattle.bk_index.proofs.RisingFences.{all_filled}
use Rattle.bk_index.proofs.LedgerFences.{less_ledger}
use Rattle.bk_index.proofs.RunPairs.{AreBefore, less_key, key_of_run-zero, before_run, each_read, put_run_behind, put_run_between, put_run_end, is_sorted_put_run, length_run}

-- a key that is greater by ledger, or not reached by the run, is greater than the keys of the run
before_fence : (key fence : EntryKey) (i : ℕ) → key_cmp key fence ≡ Less → (fence.ledger ≡ key.ledger → key.entry + i < fence.entry)
    → key_cmp (key_of_run key i) fence ≡ Less
before_fence key fence i less room = less_key (key_of_run key i) fence (elim (cases_lt key.ledger fence.ledger) [
  | inl below ↦ inl below
  | inr order ↦ let same : key.ledger ≡ fence.ledger = omega (arith, less_ledger key fence less) in inr (same, room (sym same))
])

-- the keys of a run up to the fence of the next page have the home of the first
pub homes_of_run : (key : EntryKey) (n : ℕ) (pages : List (List (EntryKey × Place))) (at : ℕ) → IsHome key pages at
    → IsTrue (is_sorted key_cmp (all_pairs pages)) → AreFilled pages
    → (suc at < length pages → (first_key (get_or pages (suc at) [])).ledger ≡ key.ledger → key.entry + n ≤ (first_key (get_or pages (suc at) [])).entry)
    → (i : ℕ) → i < n → IsHome (key_of_run key i) pages at
homes_of_run key n [] at home sorted filled room i inside = tt
homes_of_run key n (page ∷ []) zero home sorted filled room i inside = tt
homes_of_run key n (page ∷ [] ∷ pages) zero home sorted filled room i inside = absurd (omega (arith, filled.1.0))
homes_of_run key n (page ∷ (e ∷ es) ∷ pages) zero home sorted filled room i inside =
    let first : key_cmp (key_of_run key i) e.0 ≡ Less =
    before_fence key e.0 i home.0 (λ same. let most = room (omega arith) same in omega (arith, most)) in (
      first,
      each_weaker _ _ (λ d above. key_cmp_total.trans (key_of_run key i) e.0 d.0 first above) (es ++ all_pairs pages)
          (head_below key_cmp e (es ++ all_pairs pages) (sorted_back key_cmp page (all_pairs ((e ∷ es) ∷ pages)) sorted)),
    )
homes_of_run key n (page ∷ pages) (suc at) home sorted filled room i inside = (
  each_weaker _ _ (λ d less. before_run d.0 key i less) page home.0,
  homes_of_run key n pages at home.1 (sorted_back key_cmp page (all_pairs pages) sorted) filled.1 (λ within. room (omega arith)) i inside,
)

module _ (fences : List EntryKey) (pages : List (List (EntryKey × Place))) (are : AreFenced fences pages) (sorted : IsTrue (is_sorted key_cmp (all_pairs pages)))
    (key : EntryKey) (at : ℕ) (home : IsHome key pages at) where
  -- all keys of a run have the last page
  pub home_of_run-last : length fences ≤ at + 1 → (i : ℕ) → IsHome (key_of_run key i) pages at
  home_of_run-last last i =
      homes_of_run key (suc i) pages at home sorted (all_filled pages are.sizes) (λ within. absurd (omega (arith, few_fences fences pages are, last, within))) i
      (omega arith)

  -- a key of a run that is before the next fence, if that is of its ledger, has the page before it
  pub home_of_run-next : (fence : EntryKey) → at + 1 < length fences → fence ≡ get_or fences (at + 1) fence → (i : ℕ)
      → (fence.ledger ≡ key.ledger → key.entry + i < fence.entry) → IsHome (key_of_run key i) pages at
  home_of_run-next fence within read i room =
      let next : at + 1 ≡ suc at = omega arith in
      let inside : suc at < length pages = omega (arith, few_fences fences pages are, within) in
      let is : fence ≡ first_key (get_or pages (suc at) []) =
      read ∙ ap (λ m. get_or fences m fence) next ∙ ap (λ fs. get_or fs (suc at) fence) are.fenced ∙ get_or-map first_key pages (suc at) [] fence inside in
      let most : fence.ledger ≡ key.ledger → key.entry + suc i ≤ fence.entry = λ same. let below = room same in omega (arith, below) in
      homes_of_run key (suc i) pages at home sorted (all_filled pages are.sizes)
      (λ _. subst (λ (f : EntryKey). f.ledger ≡ key.ledger → key.entry + suc i ≤ f.entry) is most) i (omega arith)

-- keys of a run at the end of their page are put in among all pairs
pub run_there : (key : EntryKey) (place : Place) (size n : ℕ) (pages : List (List (EntryKey × Place))) (at : ℕ) → at < length pages
    → (0 < n → AreBefore key (get_or pages at [])) → ((i : ℕ) → i < n → IsHome (key_of_run key i) pages at)
    → all_pairs (set pages at (get_or pages at [] ++ pairs_of_run key place size n)) ≡ put_run (all_pairs pages) key place size n
run_there key place size n [] at within before homes = absurd (omega arith)
run_there key place size n (page ∷ pages) zero within before homes = sym (put_run_between page (all_pairs pages) key place size n before homes)
run_there key place size n (page ∷ pages) (suc at) within before homes =
    ap (λ rest. page ++ rest) (run_there key place size n pages at (omega arith) before (λ i inside. (homes i inside).1))
    ∙ sym (put_run_behind page (all_pairs pages) key place size n (λ some. subst (λ (q : EntryKey). AreBefore q page) (sym (key_of_run-zero key)) (homes 0 some).0))

module _ (pages : List (List (EntryKey × Place))) (at : ℕ) (within : at < length pages) (held : List (EntryKey × Place)) (read : held ≡ get_or pages at held)
    (key : EntryKey) (place : Place) (size n : ℕ) (page : List (EntryKey × Place)) (is : page ≡ held ++ pairs_of_run key place size n) where
  pub page_run : (0 < n → AreBefore key held) → ((i : ℕ) → i < n → IsHome (key_of_run key i) pages at)
      → all_pairs (set pages at page) ≡ put_run (all_pairs pages) key place size n
  page_run before homes =
      let same = read_page pages at within held read in
      ap (λ p. all_pairs (set pages at p)) (is ∙ ap (λ front. front ++ pairs_of_run key place size n) same)
      ∙ run_there key place size n pages at within (subst (λ (front : List (EntryKey × Place)). 0 < n → AreBefore key front) same before) homes

  pub length_page : length page ≡ length held + n
  length_page = omega (arith, ap length is, length-append held (pairs_of_run key place size n), length_run key place size n)

  pub length_pages : length (all_pairs (set pages at page)) ≡ length (all_pairs pages) + n
  length_pages = omega (arith, length_set pages at page within, length_page, ap length (read_page pages at within held read))

-- ---- a page behind all others

each_append : {A : Type 0} (P : A → Type 0) (xs ys : List A) → AllByRecursion P xs → AllByRecursion P ys → AllByRecursion P (xs ++ ys)
each_append P [] ys front back = back
each_append P (x ∷ xs) ys front back = (front.0, each_append P xs ys front.1 back)

-- if the page of a key is the last one and its keys are before it, so are those of all pages
pub all_before : (key : EntryKey) (pages : List (List (EntryKey × Place))) (at : ℕ) → IsHome key pages at → at + 1 ≡ length pages
    → AreBefore key (get_or pages at []) → AreBefore key (all_pairs pages)
all_before key [] at home last before = tt
all_before key (page ∷ []) zero home last before = each_append (λ pair. key_cmp pair.0 key ≡ Less) page [] before tt
all_before key (page ∷ next ∷ pages) zero home last before = absurd (omega (arith, last))
all_before key (page ∷ pages) (suc at) home last before =
    each_append (λ pair. key_cmp pair.0 key ≡ Less) page (all_pairs pages) home.0 (all_before key pages at home.1 (omega (arith, last)) before)

-- a key that would be put in behind all pairs of a page is greater than they are
pub gap_behind : (pairs : List (EntryKey × Place)) (key : EntryKey) (place : ℕ) → IsGapFor pairs key place → place ≡ length pairs → AreBefore key pairs
gap_behind pairs key place gap last = each_read (λ pair. key_cmp pair.0 key ≡ Less) pairs
    (λ i pair inside there. gap.smaller_before i pair (omega (arith, inside, last)) there)

pub first_of_run : (key : EntryKey) (place : Place) (size n : ℕ) → 0 < n → key ≡ first_key (pairs_of_run key place size n)
first_of_run key place size zero some = absurd (omega arith)
first_of_run key place size (suc n) some = refl

module _ (pages : List (List (EntryKey × Place))) (key : EntryKey) (place : Place) (size n : ℕ) (page : List (EntryKey × Place))
    (is : page ≡ pairs_of_run key place size n) where
  all_and_page : all_pairs (pages ++ page ∷ []) ≡ all_pairs pages ++ pairs_of_run key place size n
  all_and_page =
      flat_map-append (λ page. page) pages (page ∷ []) ∙ ap (λ back. all_pairs pages ++ back) (append-nil page) ∙ ap (λ p. all_pairs pages ++ p) is

  -- a run as a page behind smaller keys is put in among all pairs
  pub run_behind : AreBefore key (all_pairs pages) → all_pairs (pages ++ page ∷ []) ≡ put_run (all_pairs pages) key place size n
  run_behind before = all_and_page ∙ sym (put_run_end (all_pairs pages) key place size n (λ _. before))

  pub length_behind : length (all_pairs (pages ++ page ∷ [])) ≡ length (all_pairs pages) + n
  length_behind =
      omega (arith, ap length all_and_page, length-append (all_pairs pages) (pairs_of_run key place size n), length_run key place size n)

  pub length_of_page : length page ≡ n
  length_of_page = omega (arith, ap length is, length_run key place size n)

-- the map of sorted pairs with a run put in
run_sorted : (pairs : List (EntryKey × Place)) → IsTrue (is_sorted key_cmp pairs) → (key : EntryKey) (place : Place) (size n : ℕ)
    → from_sorted {R = key_cmp} (put_run pairs key place size n) ≡ with_run (from_sorted {R = key_cmp} pairs) key place size n
run_sorted pairs sorted key place size zero = refl
run_sorted pairs sorted key place size (suc n) =
    run_sorted (put key_cmp key place pairs) (is_sorted_put key_cmp_total key place pairs sorted) (key_behind key) (place_behind place size) size n
    ∙ ap (λ m. with_run m (key_behind key) (place_behind place size) size n) (sym (insert-sorted key_cmp pairs sorted key_cmp_total key place))

module _ (pages : List (List (EntryKey × Place))) (sorted : IsTrue (is_sorted key_cmp (all_pairs pages))) (key : EntryKey) (place : Place) (size n : ℕ)
    (left : List (List (EntryKey × Place))) (is : all_pairs left ≡ put_run (all_pairs pages) key place size n) where
  pub run_seen : (m : Places) → from_sorted {R = key_cmp} (all_pairs pages) ≡ m → from_sorted {R = key_cmp} (all_pairs left) ≡ with_run m key place size n
  run_seen m seen = ap from_sorted is ∙ run_sorted (all_pairs pages) sorted key place size n ∙ ap (λ m. with_run m key place size n) seen

  pub counted_run : (len : ℕ) → len ≡ length (all_pairs left) → AreCounted left len
  counted_run len counted = record { sorted = rw is (is_sorted_put_run (all_pairs pages) key place size n sorted); counted = counted }
