-- The pages that have keys of a ledger, by their fences.
use Rattle.std.proofs.Common.{◌≡◌, ℕ, ◌+◌, ◌-◌, ◌<◌, ◌≤◌, true, false, ltb, leb, List, [], ◌∷◌, ◌++◌, length, get_or, take, drop, ap, ◌∙◌, inl}
use Rattle.std.proofs.Common.{inr, arith}
use Rattle.std.specs.declared.cmp.Ordering.TheVariants.{Less, Greater}
use Rattle.std.specs.Bool.{IsTrue}
use Rattle.std.specs.List.{AllByRecursion}
use Rattle.std.specs.List.Sorted.{IsPartitionPoint}
use Rattle.std.specs.FinMap.{is_sorted}
use Rattle.std.proofs.lemmas.Bool.{ltb-true, ltb-false, leb-true, leb-false, lt-ltb, le-leb, le-ltb, ne_eqb, cases_lt}
use Rattle.std.proofs.lemmas.List.{drop_more, drop_all, get_or-map, length-map}
use Rattle.bk_record.specs.Key.{EntryKey, key_cmp}
use Rattle.bk_index.specs.Pages.{first_key, all_pairs, AreFenced, HoldsLedger}
use Rattle.bk_index.proofs.CutPairs.{each_weaker, head_below, sorted_back, front_below}
use Rattle.bk_index.proofs.FencedPages.{all_split}
use Rattle.bk_index.proofs.RisingFences.{IsDownward}

pub less_ledger : (a b : EntryKey) → key_cmp a b ≡ Less → a.ledger ≤ b.ledger
less_ledger a b less = elim (cases_lt b.ledger a.ledger) [
  | inl after ↦
      let greater : key_cmp a b ≡ Greater = rw (le-ltb a.ledger b.ledger (omega arith), ne_eqb a.ledger b.ledger (omega arith)) in
      cc
  | inr order ↦ order
]

pub is_downward_below : (ledger : ℕ) → IsDownward (λ f. ltb f.ledger ledger)
is_downward_below ledger a b less passes = lt-ltb a.ledger ledger (omega (arith, less_ledger a b less, ltb-true b.ledger ledger passes))

pub is_downward_upto : (ledger : ℕ) → IsDownward (λ f. leb f.ledger ledger)
is_downward_upto ledger a b less passes = le-leb a.ledger ledger (omega (arith, less_ledger a b less, leb-true b.ledger ledger passes))

module _ {X : Type 0} where
  ledgers_before : (front page rest : List (EntryKey × X)) → IsTrue (is_sorted key_cmp (front ++ (page ++ rest))) → 1 ≤ length page
      → AllByRecursion (λ e. e.0.ledger ≤ (first_key page).ledger) front
  ledgers_before front [] rest sorted some = absurd (omega arith)
  ledgers_before front (e ∷ es) rest sorted some =
      each_weaker (λ d. key_cmp d.0 e.0 ≡ Less) (λ d. d.0.ledger ≤ e.0.ledger) (λ d less. less_ledger d.0 e.0 less) front
      (front_below key_cmp front e (es ++ rest) sorted)

  ledgers_behind : (page rest : List (EntryKey × X)) → IsTrue (is_sorted key_cmp (page ++ rest)) → 1 ≤ length page
      → AllByRecursion (λ e. (first_key page).ledger ≤ e.0.ledger) (page ++ rest)
  ledgers_behind [] rest sorted some = absurd (omega arith)
  ledgers_behind (e ∷ es) rest sorted some = (
    omega arith,
    each_weaker (λ d. key_cmp e.0 d.0 ≡ Less) (λ d. e.0.ledger ≤ d.0.ledger) (λ d less. less_ledger e.0 d.0 less) (es ++ rest)
        (head_below key_cmp e (es ++ rest) sorted),
  )

module _ {X : Type 0} (fences : List EntryKey) (pages : List (List (EntryKey × X))) (are : AreFenced fences pages)
    (sorted : IsTrue (is_sorted key_cmp (all_pairs pages))) where
  page_at : (n : ℕ) → n < length pages → drop n pages ≡ get_or pages n [] ∷ drop (n + 1) pages
  page_at n within = drop_more pages n [] within

  before_fence : (n : ℕ) → n < length pages → AllByRecursion (λ e. e.0.ledger ≤ (first_key (get_or pages n [])).ledger) (all_pairs (take n pages))
  before_fence n within =
      let cut = all_split n pages ∙ ap (λ ps. all_pairs (take n pages) ++ all_pairs ps) (page_at n within) in
      ledgers_before (all_pairs (take n pages)) (get_or pages n []) (all_pairs (drop (n + 1) pages)) (rw (← cut) sorted) (are.sizes n [] within).0

  from_fence : (n : ℕ) → n < length pages → AllByRecursion (λ e. (first_key (get_or pages n [])).ledger ≤ e.0.ledger) (all_pairs (drop n pages))
  from_fence n within =
      let behind = sorted_back key_cmp (all_pairs (take n pages)) (all_pairs (drop n pages)) (rw (← all_split n pages) sorted) in
      rw (page_at n within)
      (ledgers_behind (get_or pages n []) (all_pairs (drop (n + 1) pages)) (rw (page_at n within) at behind) (are.sizes n [] within).0)

  -- fences before the first place are of smaller ledgers, those from the second on of greater ones
  module _ (ledger smaller upto : ℕ) (smaller_bound : smaller ≤ length pages) (upto_bound : upto ≤ length pages)
      (smaller_point : IsPartitionPoint (λ f. ltb f.ledger ledger ≡ true) (λ f. ltb f.ledger ledger ≡ false) fences smaller)
      (upto_point : IsPartitionPoint (λ f. leb f.ledger ledger ≡ true) (λ f. leb f.ledger ledger ≡ false) fences upto) where
    fence_at : (n : ℕ) → n < length pages → get_or fences n (first_key (get_or pages n [])) ≡ first_key (get_or pages n [])
    fence_at n within = ap (λ fs. get_or fs n (first_key (get_or pages n []))) are.fenced
        ∙ get_or-map first_key pages n [] (first_key (get_or pages n [])) within

    many : length fences ≡ length pages
    many = ap length are.fenced ∙ length-map pages first_key

    is_smaller : (n : ℕ) → n < smaller → (first_key (get_or pages n [])).ledger < ledger
    is_smaller n before = rw (← fence_at n (omega arith)) (ltb-true _ ledger (smaller_point.0 n (first_key (get_or pages n [])) (omega arith) before))

    is_not_smaller : (n : ℕ) → smaller ≤ n → n < length pages → ledger ≤ (first_key (get_or pages n [])).ledger
    is_not_smaller n from within = rw (← fence_at n within) (ltb-false _ ledger (smaller_point.1 n (first_key (get_or pages n [])) from (omega (arith, many))))

    is_upto : (n : ℕ) → n < upto → (first_key (get_or pages n [])).ledger ≤ ledger
    is_upto n before = rw (← fence_at n (omega arith)) (leb-true _ ledger (upto_point.0 n (first_key (get_or pages n [])) (omega arith) before))

    is_greater : (n : ℕ) → upto ≤ n → n < length pages → ledger < (first_key (get_or pages n [])).ledger
    is_greater n from within = rw (← fence_at n within) (leb-false _ ledger (upto_point.1 n (first_key (get_or pages n [])) from (omega (arith, many))))

    take_none : (n : ℕ) → n ≤ 0 → all_pairs (take n pages) ≡ []
    take_none n none = let nothing : n ≡ 0 = omega arith in ap (λ m. all_pairs (take m pages)) nothing

    drop_none : (n : ℕ) → length pages ≤ n → all_pairs (drop n pages) ≡ []
    drop_none n past = ap all_pairs (drop_all n pages past)

    pub holds_ledger : HoldsLedger pages ledger (smaller - 1) upto
    holds_ledger = record {
      order = elim (cases_lt upto smaller) [
        | inl less ↦ absurd (omega (arith, is_smaller upto less, is_greater upto (omega arith) (omega arith)))
        | inr order ↦ omega arith
      ];
      bound = upto_bound;
      before = elim (cases_lt 0 smaller) [
        | inl some ↦ each_weaker _ _ (λ e le. omega (arith, le, is_smaller (smaller - 1) (omega arith))) (all_pairs (take (smaller - 1) pages))
            (before_fence (smaller - 1) (omega arith))
        | inr none ↦ rw (take_none (smaller - 1) (omega arith)) tt
      ];
      not_after_first = elim (cases_lt (smaller - 1 + 1) (length pages)) [
        | inl within ↦ each_weaker _ _ (λ e le. omega (arith, le, is_not_smaller (smaller - 1 + 1) (omega arith) within))
            (all_pairs (drop (smaller - 1 + 1) pages)) (from_fence (smaller - 1 + 1) within)
        | inr past ↦ rw (drop_none (smaller - 1 + 1) past) tt
      ];
      not_before_last = elim (cases_lt 0 upto) [
        | inl some ↦ each_weaker _ _ (λ e le. omega (arith, le, is_upto (upto - 1) (omega arith))) (all_pairs (take (upto - 1) pages))
            (before_fence (upto - 1) (omega arith))
        | inr none ↦ rw (take_none (upto - 1) (omega arith)) tt
      ];
      behind = elim (cases_lt upto (length pages)) [
        | inl within ↦ each_weaker _ _ (λ e le. omega (arith, le, is_greater upto (omega arith) within)) (all_pairs (drop upto pages)) (from_fence upto within)
        | inr past ↦ rw (drop_none upto past) tt
      ];
    }
