-- The pairs of one ledger are adjacent, in a page and over pages.
use Rattle.std.proofs.Common.{◌≡◌, ℕ, zero, suc, ◌+◌, ◌-◌, ◌<◌, ◌≤◌, true, false, ltb, leb, List, [], ◌∷◌, ◌++◌, length, get_or, take, drop, refl, ap, ◌∙◌}
use Rattle.std.proofs.Common.{arith, length-drop}
use Rattle.std.specs.declared.cmp.Ordering.TheVariants.{Less}
use Rattle.std.specs.Bool.{◌==◌, IsTrue}
use Rattle.std.specs.List.{AllByRecursion, filter}
use Rattle.std.specs.List.Sorted.{IsNonDecreasingBy, IsPartitionPoint}
use Rattle.std.specs.FinMap.{is_sorted}
use Rattle.std.proofs.lemmas.Bool.{ltb-true, ltb-false, leb-true, leb-false, eq-eqb, ne_eqb}
use Rattle.std.proofs.lemmas.List.{drop-drop, drop-take, get_or-drop, get_or-take, take-take, length-take-le, append-nil, get_or_default}
use Rattle.std.proofs.lemmas.List.Elements.{filter-append}
use Rattle.bk_record.specs.Key.{EntryKey, key_cmp}
use Rattle.bk_index.specs.Pages.{all_pairs, HoldsLedger}
use Rattle.bk_index.proofs.CutPairs.{each_weaker, head_below, sorted_back}
use Rattle.bk_index.proofs.FencedPages.{all_split}
use Rattle.bk_index.proofs.RisingFences.{each_at}
use Rattle.bk_index.proofs.LedgerFences.{less_ledger}
use Rattle.bk_index.proofs.LedgerPages.{from_first, between, after_first, between_low, between_high}

module _ {X : Type 0} where
  pub ledgers_rise : (es : List (EntryKey × X)) → IsTrue (is_sorted key_cmp es) → IsNonDecreasingBy (λ e. e.0.ledger) es
  ledgers_rise [] sorted i j d order within = absurd (omega arith)
  ledgers_rise (e ∷ es) sorted zero zero d order within = omega arith
  ledgers_rise (e ∷ es) sorted zero (suc j) d order within =
      let behind = each_weaker (λ f. key_cmp e.0 f.0 ≡ Less) (λ f. e.0.ledger ≤ f.0.ledger) (λ f less. less_ledger e.0 f.0 less) es
      (head_below key_cmp e es sorted) in
      each_at (λ f. e.0.ledger ≤ f.0.ledger) es j d behind (omega arith)
  ledgers_rise (e ∷ es) sorted (suc i) zero d order within = absurd (omega arith)
  ledgers_rise (e ∷ es) sorted (suc i) (suc j) d order within = ledgers_rise es (sorted_back key_cmp (e ∷ []) es sorted) i j d (omega arith) (omega arith)

module _ {X : Type 0} (ledger : ℕ) where
  smaller_none : (xs : List (EntryKey × X)) → AllByRecursion (λ e. e.0.ledger < ledger) xs → filter (λ e. e.0.ledger == ledger) xs ≡ []
  smaller_none [] each = refl
  smaller_none (x ∷ xs) each = rw (ne_eqb x.0.ledger ledger (omega (arith, each.0))) (smaller_none xs each.1)

  greater_none : (xs : List (EntryKey × X)) → AllByRecursion (λ e. ledger < e.0.ledger) xs → filter (λ e. e.0.ledger == ledger) xs ≡ []
  greater_none [] each = refl
  greater_none (x ∷ xs) each = rw (ne_eqb x.0.ledger ledger (omega (arith, each.0))) (greater_none xs each.1)

  same_all : (xs : List (EntryKey × X)) → AllByRecursion (λ e. ledger ≤ e.0.ledger) xs → AllByRecursion (λ e. e.0.ledger ≤ ledger) xs
      → filter (λ e. e.0.ledger == ledger) xs ≡ xs
  same_all [] low high = refl
  same_all (x ∷ xs) low high = rw (eq-eqb x.0.ledger ledger (omega (arith, low.0, high.0))) (ap (λ rest. x ∷ rest) (same_all xs low.1 high.1))

  -- if no pair is of a smaller ledger, the first pairs are those of the ledger
  from_on : (xs : List (EntryKey × X)) (n : ℕ) → ((i : ℕ) (d : EntryKey × X) → i < length xs → ltb (get_or xs i d).0.ledger ledger ≡ false)
      → IsPartitionPoint (λ e. leb e.0.ledger ledger ≡ true) (λ e. leb e.0.ledger ledger ≡ false) xs n → take n xs ≡ filter (λ e. e.0.ledger == ledger) xs
  from_on [] zero low point = refl
  from_on [] (suc n) low point = refl
  from_on (x ∷ xs) zero low point =
      rw (ne_eqb x.0.ledger ledger (omega (arith, leb-false x.0.ledger ledger (point.1 0 x (omega arith) (omega arith)))))
      (from_on xs zero (λ i d within. low (suc i) d (omega arith))
      (λ i d from before. absurd (omega arith), λ i d from within. point.1 (suc i) d (omega arith) (omega arith)))
  from_on (x ∷ xs) (suc n) low point =
      rw (eq-eqb x.0.ledger ledger (omega (
        arith,
        leb-true x.0.ledger ledger (point.0 0 x (omega arith) (omega arith)),
        ltb-false x.0.ledger ledger
            (low 0 x (omega arith)),
      )))
      (ap (λ rest. x ∷ rest) (from_on xs n (λ i d within. low (suc i) d (omega arith))
      (λ i d from before. point.0 (suc i) d (omega arith) (omega arith), λ i d from within. point.1 (suc i) d (omega arith) (omega arith))))

  -- the pairs of the ledger are adjacent
  pub side_by_side : (xs : List (EntryKey × X)) (from n : ℕ)
      → IsPartitionPoint (λ e. ltb e.0.ledger ledger ≡ true) (λ e. ltb e.0.ledger ledger ≡ false) xs from
      → IsPartitionPoint (λ e. leb e.0.ledger ledger ≡ true) (λ e. leb e.0.ledger ledger ≡ false) (drop from xs) n → take n (drop from xs)
      ≡ filter (λ e. e.0.ledger == ledger) xs
  side_by_side [] zero n low point = from_on [] n (λ i d within. absurd (omega arith)) point
  side_by_side [] (suc from) n low point = from_on [] n (λ i d within. absurd (omega arith)) point
  side_by_side (x ∷ xs) zero n low point = from_on (x ∷ xs) n (λ i d within. low.1 i d (omega arith) within) point
  side_by_side (x ∷ xs) (suc from) n low point =
      rw (ne_eqb x.0.ledger ledger (omega (arith, ltb-true x.0.ledger ledger (low.0 0 x (omega arith) (omega arith)))))
      (side_by_side xs from n (
        λ i d low_from before. low.0 (suc i) d (omega arith) (omega arith),
        λ i d low_from within. low.1 (suc i) d (omega arith)
            (omega arith),
      ) point)

module _ {X : Type 0} (pages : List (List (EntryKey × X))) (ledger from to : ℕ) (holds : HoldsLedger pages ledger from to) where
  back_none : filter (λ e. e.0.ledger == ledger) (all_pairs (drop to pages)) ≡ []
  back_none = greater_none ledger (all_pairs (drop to pages)) holds.behind

  -- no pair of the ledger is before the first page
  held_from : filter (λ e. e.0.ledger == ledger) (all_pairs pages) ≡ filter (λ e. e.0.ledger == ledger) (all_pairs (drop from pages))
  held_from =
      ap (filter (λ e. e.0.ledger == ledger)) (all_split from pages)
      ∙ filter-append (λ e. e.0.ledger == ledger) (all_pairs (take from pages)) (all_pairs (drop from pages))
      ∙ ap (λ front. front ++ filter (λ e. e.0.ledger == ledger) (all_pairs (drop from pages))) (smaller_none ledger (all_pairs (take from pages)) holds.before)

  pub held_none : from ≡ to → filter (λ e. e.0.ledger == ledger) (all_pairs pages) ≡ []
  held_none same = held_from ∙ ap (λ n. filter (λ e. e.0.ledger == ledger) (all_pairs (drop n pages))) same ∙ back_none

  held_first : from < to → filter (λ e. e.0.ledger == ledger) (all_pairs pages)
      ≡ filter (λ e. e.0.ledger == ledger) (get_or pages from []) ++ filter (λ e. e.0.ledger == ledger) (all_pairs (drop (from + 1) pages))
  held_first some =
      held_from ∙ ap (filter (λ e. e.0.ledger == ledger)) (from_first pages ledger from to holds some)
      ∙ filter-append (λ e. e.0.ledger == ledger) (get_or pages from []) (all_pairs (drop (from + 1) pages))

  pub held_one : from + 1 ≡ to → filter (λ e. e.0.ledger == ledger) (all_pairs pages) ≡ filter (λ e. e.0.ledger == ledger) (get_or pages from []) ++ []
  held_one next =
      held_first (omega arith)
      ∙ ap (λ n. filter (λ e. e.0.ledger == ledger) (get_or pages from []) ++ filter (λ e. e.0.ledger == ledger) (all_pairs (drop n pages))) next
      ∙ ap (λ back. filter (λ e. e.0.ledger == ledger) (get_or pages from []) ++ back) back_none

  module _ (many : from + 1 < to) where
    -- all pairs of the pages strictly between are of the ledger
    held_behind : filter (λ e. e.0.ledger == ledger) (all_pairs (drop (from + 1) pages))
        ≡ all_pairs (between pages ledger from to holds many) ++ (filter (λ e. e.0.ledger == ledger) (get_or pages (to - 1) []) ++ [])
    held_behind =
        let inner = all_pairs (between pages ledger from to holds many) in
        let last = get_or pages (to - 1) [] ++ all_pairs (drop to pages) in
        ap (filter (λ e. e.0.ledger == ledger)) (after_first pages ledger from to holds many)
        ∙ filter-append (λ e. e.0.ledger == ledger) inner last
        ∙ ap (λ all. all ++ filter (λ e. e.0.ledger == ledger) last)
        (same_all ledger inner (between_low pages ledger from to holds many) (between_high pages ledger from to holds many))
        ∙ ap (λ back. inner ++ back) (filter-append (λ e. e.0.ledger == ledger) (get_or pages (to - 1) []) (all_pairs (drop to pages))
        ∙ ap (λ none. filter (λ e. e.0.ledger == ledger) (get_or pages (to - 1) []) ++ none) back_none)

    pub held_many : filter (λ e. e.0.ledger == ledger) (all_pairs pages)
        ≡ filter (λ e. e.0.ledger == ledger) (get_or pages from []) ++
        (all_pairs (between pages ledger from to holds many) ++ filter (λ e. e.0.ledger == ledger) (get_or pages (to - 1) []))
    held_many =
        held_first (omega arith)
        ∙ ap (λ rest. filter (λ e. e.0.ledger == ledger) (get_or pages from []) ++ rest)
        (held_behind ∙ ap (λ last. all_pairs (between pages ledger from to holds many) ++ last)
        (append-nil (filter (λ e. e.0.ledger == ledger) (get_or pages (to - 1) []))))

  -- the pages with keys of the ledger, as a part of the list
  module _ (part : List (List (EntryKey × X))) (is : part ≡ take (to - from) (drop from pages)) where
    pub part_length : length part ≡ to - from
    part_length = ap length is ∙ length-take-le (to - from) (drop from pages) (omega (arith, length-drop from pages, holds.bound))

    part_at : (i : ℕ) (d : List (EntryKey × X)) → i < to - from → get_or part i d ≡ get_or pages (from + i) []
    part_at i d within =
        ap (λ ps. get_or ps i d) is ∙ get_or-take (to - from) (drop from pages) i d within ∙ get_or-drop from pages i d
        ∙ get_or_default pages (from + i) d [] (omega (arith, holds.bound))

    pub part_first : (d : List (EntryKey × X)) → from < to → get_or part 0 d ≡ get_or pages from []
    part_first d some = part_at 0 d (omega arith) ∙ ap (λ n. get_or pages n []) (omega arith)

    pub part_last : (d : List (EntryKey × X)) → from < to → get_or part (length part - 1) d ≡ get_or pages (to - 1) []
    part_last d some = part_at (length part - 1) d (omega (arith, part_length)) ∙ ap (λ n. get_or pages n []) (omega (arith, part_length))

    pub part_between : (many : from + 1 < to) → take (length part - 1 - 1) (drop 1 part) ≡ between pages ledger from to holds many
    part_between many =
        let less : to - from ≡ 1 + (to - from - 1) = omega arith in
        let behind = ap (drop 1) is ∙ ap (λ n. drop 1 (take n (drop from pages))) less ∙ drop-take 1 (to - from - 1) (drop from pages) in
        let few : length part - 1 - 1 ≡ to - 1 - (from + 1) = omega (arith, part_length) in
        (λ i. take (few i) (behind i)) ∙ take-take (to - 1 - (from + 1)) (to - from - 1) (drop 1 (drop from pages)) (omega arith)
        ∙ ap (take (to - 1 - (from + 1))) (drop-drop 1 from pages)
