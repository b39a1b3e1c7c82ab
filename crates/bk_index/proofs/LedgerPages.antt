-- All pairs after the keys of a ledger are removed from the pages that have them.
use Rattle.std.proofs.Common.{◌≡◌, ℕ, ◌+◌, ◌-◌, ◌<◌, ◌≤◌, not, List, [], ◌∷◌, ◌++◌, length, get_or, take, drop, refl, sym, ap, ◌∙◌, arith, length-take}
use Rattle.std.specs.Bool.{◌==◌}
use Rattle.std.specs.List.{AllByRecursion, filter}
use Rattle.std.proofs.lemmas.Bool.{eq-eqb, ne_eqb}
use Rattle.std.proofs.lemmas.List.{drop_more, drop-drop, drop-take, drop_at, take_at, take-take, get_or-take}
use Rattle.std.proofs.lemmas.List.Elements.{filter-append}
use Rattle.bk_record.specs.Key.{EntryKey}
use Rattle.bk_index.specs.Pages.{all_pairs, HoldsLedger}
use Rattle.bk_index.proofs.CutPairs.{each_front, each_back}
use Rattle.bk_index.proofs.FencedPages.{all_split}

module _ {X : Type 0} (ledger : ℕ) where
  -- pairs of other ledgers are kept, those of the ledger are removed
  smaller_stay : (xs : List (EntryKey × X)) → AllByRecursion (λ e. e.0.ledger < ledger) xs → filter (λ e. not (e.0.ledger == ledger)) xs ≡ xs
  smaller_stay [] each = refl
  smaller_stay (x ∷ xs) each = rw (ne_eqb x.0.ledger ledger (omega (arith, each.0))) (ap (λ rest. x ∷ rest) (smaller_stay xs each.1))

  greater_stay : (xs : List (EntryKey × X)) → AllByRecursion (λ e. ledger < e.0.ledger) xs → filter (λ e. not (e.0.ledger == ledger)) xs ≡ xs
  greater_stay [] each = refl
  greater_stay (x ∷ xs) each = rw (ne_eqb x.0.ledger ledger (omega (arith, each.0))) (ap (λ rest. x ∷ rest) (greater_stay xs each.1))

  same_go : (xs : List (EntryKey × X)) → AllByRecursion (λ e. ledger ≤ e.0.ledger) xs → AllByRecursion (λ e. e.0.ledger ≤ ledger) xs
      → filter (λ e. not (e.0.ledger == ledger)) xs ≡ []
  same_go [] low high = refl
  same_go (x ∷ xs) low high = rw (eq-eqb x.0.ledger ledger (omega (arith, low.0, high.0))) (same_go xs low.1 high.1)

module _ {X : Type 0} (pages : List (List (EntryKey × X))) (ledger from to : ℕ) (holds : HoldsLedger pages ledger from to) where
  front_stays : filter (λ e. not (e.0.ledger == ledger)) (all_pairs (take from pages)) ≡ all_pairs (take from pages)
  front_stays = smaller_stay ledger (all_pairs (take from pages)) holds.before

  back_stays : filter (λ e. not (e.0.ledger == ledger)) (all_pairs (drop to pages)) ≡ all_pairs (drop to pages)
  back_stays = greater_stay ledger (all_pairs (drop to pages)) holds.behind

  -- no page has keys of the ledger
  pub kept_none : from ≡ to → all_pairs pages ≡ filter (λ e. not (e.0.ledger == ledger)) (all_pairs pages)
  kept_none same =
      let back = ap (λ n. all_pairs (drop n pages)) same in
      let stays = ap (filter (λ e. not (e.0.ledger == ledger))) back ∙ back_stays ∙ sym back in
      all_split from pages
      ∙ sym (filter-append (λ e. not (e.0.ledger == ledger)) (all_pairs (take from pages)) (all_pairs (drop from pages)) ∙ (λ i. front_stays i ++ stays i))
      ∙ ap (filter (λ e. not (e.0.ledger == ledger))) (sym (all_split from pages))

  pub from_first : from < to → all_pairs (drop from pages) ≡ get_or pages from [] ++ all_pairs (drop (from + 1) pages)
  from_first some = ap all_pairs (drop_more pages from [] (omega (arith, holds.bound)))

  -- The remaining pairs: those before the first page, then those of the first page and of the later
  -- pages that are kept.
  kept_from : from < to → filter (λ e. not (e.0.ledger == ledger)) (all_pairs pages)
      ≡ all_pairs (take from pages) ++ (filter (λ e. not (e.0.ledger == ledger)) (get_or pages from []) ++ filter (λ e. not (e.0.ledger == ledger))
      (all_pairs (drop (from + 1) pages)))
  kept_from some =
      ap (filter (λ e. not (e.0.ledger == ledger))) (all_split from pages)
      ∙ filter-append (λ e. not (e.0.ledger == ledger)) (all_pairs (take from pages)) (all_pairs (drop from pages))
      ∙ (λ i. front_stays i ++ (ap (filter (λ e. not (e.0.ledger == ledger))) (from_first some)
      ∙ filter-append (λ e. not (e.0.ledger == ledger)) (get_or pages from []) (all_pairs (drop (from + 1) pages))) i)

  -- one page has keys of the ledger and is replaced by its remaining pairs
  pub kept_one : from + 1 ≡ to → (left : List (List (EntryKey × X))) → take from left ≡ take from pages → all_pairs (drop from left)
      ≡ filter (λ e. not (e.0.ledger == ledger)) (get_or pages from []) ++ all_pairs (drop (from + 1) pages) → all_pairs left
      ≡ filter (λ e. not (e.0.ledger == ledger)) (all_pairs pages)
  kept_one next left before behind =
      let back = ap (λ n. all_pairs (drop n pages)) next in
      let stays = ap (filter (λ e. not (e.0.ledger == ledger))) back ∙ back_stays ∙ sym back in
      all_split from left ∙ (λ i. all_pairs (before i) ++ behind i)
      ∙ sym (kept_from (omega arith) ∙ ap (λ rest. all_pairs (take from pages) ++
      (filter (λ e. not (e.0.ledger == ledger)) (get_or pages from []) ++ rest)) stays)

  module _ (many : from + 1 < to) where
    abbrev pub between : List (List (EntryKey × X))
    between = take (to - 1 - (from + 1)) (drop (from + 1) pages)

    last_next : drop (to - 1 - (from + 1)) (drop (from + 1) pages) ≡ drop (to - 1) pages
    last_next = drop-drop (to - 1 - (from + 1)) (from + 1) pages ∙ ap (λ n. drop n pages) (omega arith)

    from_last : all_pairs (drop (to - 1) pages) ≡ get_or pages (to - 1) [] ++ all_pairs (drop to pages)
    from_last =
        ap all_pairs (drop_more pages (to - 1) [] (omega (arith, holds.bound)))
        ∙ ap (λ n. get_or pages (to - 1) [] ++ all_pairs (drop n pages)) (omega arith)

    pub after_first : all_pairs (drop (from + 1) pages) ≡ all_pairs between ++ (get_or pages (to - 1) [] ++ all_pairs (drop to pages))
    after_first =
        all_split (to - 1 - (from + 1)) (drop (from + 1) pages)
        ∙ ap (λ rest. all_pairs between ++ rest) (ap all_pairs last_next ∙ from_last)

    -- the pages strictly between have no keys of other ledgers
    pub between_low : AllByRecursion (λ e. ledger ≤ e.0.ledger) (all_pairs between)
    between_low = each_front (λ e. ledger ≤ e.0.ledger) (all_pairs between) (get_or pages (to - 1) [] ++ all_pairs (drop to pages))
        (rw (← after_first) holds.not_after_first)

    pub between_high : AllByRecursion (λ e. e.0.ledger ≤ ledger) (all_pairs between)
    between_high =
        let long : to - 1 ≡ from + 1 + (to - 1 - (from + 1)) = omega arith in
        let cut = ap (λ n. drop (from + 1) (take n pages)) long ∙ drop-take (from + 1) (to - 1 - (from + 1)) pages in
        let before = all_pairs (take (from + 1) (take (to - 1) pages)) in
        let upto = all_split (from + 1) (take (to - 1) pages) ∙ ap (λ ps. before ++ all_pairs ps) cut in
        each_back (λ e. e.0.ledger ≤ ledger) before (all_pairs between) (rw (← upto) holds.not_before_last)

    -- no pairs of the pages strictly between are kept
    behind_first : filter (λ e. not (e.0.ledger == ledger)) (all_pairs (drop (from + 1) pages))
        ≡ filter (λ e. not (e.0.ledger == ledger)) (get_or pages (to - 1) []) ++ all_pairs (drop to pages)
    behind_first =
        let last = get_or pages (to - 1) [] ++ all_pairs (drop to pages) in
        ap (filter (λ e. not (e.0.ledger == ledger))) after_first
        ∙ filter-append (λ e. not (e.0.ledger == ledger)) (all_pairs between) last
        ∙ ap (λ gone. gone ++ filter (λ e. not (e.0.ledger == ledger)) last) (same_go ledger (all_pairs between) between_low between_high)
        ∙ filter-append (λ e. not (e.0.ledger == ledger)) (get_or pages (to - 1) []) (all_pairs (drop to pages))
        ∙ ap (λ back. filter (λ e. not (e.0.ledger == ledger)) (get_or pages (to - 1) []) ++ back) back_stays

    -- the last page is thinned, then the pages between are removed, then the first page is thinned
    pub kept_many : (last cut left : List (List (EntryKey × X))) → take (to - 1) last ≡ take (to - 1) pages → all_pairs (drop (to - 1) last)
        ≡ filter (λ e. not (e.0.ledger == ledger)) (get_or pages (to - 1) []) ++ all_pairs (drop (to - 1 + 1) pages) → cut
        ≡ take (from + 1) last ++ drop (to - 1) last → take from left ≡ take from cut → all_pairs (drop from left)
        ≡ filter (λ e. not (e.0.ledger == ledger)) (get_or cut from []) ++ all_pairs (drop (from + 1) cut) → all_pairs left
        ≡ filter (λ e. not (e.0.ledger == ledger)) (all_pairs pages)
    kept_many last cut left last_before last_behind cut_is before behind =
        let long : to - 1 ≤ length last = omega (arith, ap length last_before, length-take (to - 1) last, length-take (to - 1) pages, holds.bound) in
        let short : length (take (from + 1) last) ≡ from + 1 = omega (arith, length-take (from + 1) last) in
        let same : (n : ℕ) → n ≤ to - 1 → take n last ≡ take n pages =
        λ n le. sym (take-take n (to - 1) last le) ∙ ap (take n) last_before ∙ take-take n (to - 1) pages le in
        let cut_front : take (from + 1) cut ≡ take (from + 1) pages = ap (take (from + 1)) cut_is
        ∙ take_at (take (from + 1) last) (drop (to - 1) last) (from + 1) short ∙ same (from + 1) (omega arith) in
        let cut_before : take from cut ≡ take from pages =
        sym (take-take from (from + 1) cut (omega arith)) ∙ ap (take from) cut_front ∙ take-take from (from + 1) pages (omega arith) in
        let cut_page : get_or cut from [] ≡ get_or pages from [] =
        sym (get_or-take (from + 1) cut from [] (omega arith)) ∙ ap (λ ps. get_or ps from []) cut_front ∙ get_or-take (from + 1) pages from [] (omega arith) in
        let cut_behind : drop (from + 1) cut ≡ drop (to - 1) last = ap (drop (from + 1)) cut_is
        ∙ drop_at (take (from + 1) last) (drop (to - 1) last) (from + 1) short in
        let end : to - 1 + 1 ≡ to = omega arith in
        let rest = ap all_pairs cut_behind ∙ last_behind ∙ ap
        (λ n. filter (λ e. not (e.0.ledger == ledger)) (get_or pages (to - 1) []) ++ all_pairs (drop n pages)) end ∙ sym behind_first in
        all_split from left
        ∙ (λ i. all_pairs ((before ∙ cut_before) i) ++ (behind ∙ (λ j. filter (λ e. not (e.0.ledger == ledger)) (cut_page j) ++ rest j)) i)
        ∙ sym (kept_from (omega arith))
