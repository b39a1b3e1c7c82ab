-- Fences and pages after a page is overwritten, added or removed.
use Rattle.std.proofs.Common.{◌≡◌, ℕ, zero, suc, ◌+◌, ◌-◌, ◌*◌, ◌<◌, ◌≤◌, ◌^◌, Bool, cond, List, [], ◌∷◌, ◌++◌, length, get_or, set, take, drop, map, refl, sym}
use Rattle.std.proofs.Common.{ap, ◌∙◌, arith, take-append-drop, length-append, length-take, length-drop, length-set}
use Rattle.std.specs.List.{All, insert, remove, filter, count_by, sum_by}
use Rattle.std.proofs.lemmas.List.{length-map, map-set, get_or-map, set-get_or, take-map, drop-map, drop-drop, take-set, drop-set-lt}
use Rattle.std.proofs.lemmas.List.Concat.{flat_map-append}
use Rattle.std.proofs.lemmas.List.Sums.{sum_by-append, sum_by-cons, length-filter, count_by-le-length}
use Rattle.std.proofs.lemmas.List.Elements.{All-append, All-set, All-take, All-drop, All-cons}
use Rattle.std.proofs.lemmas.List.Edits.{length-insert}
use Rattle.bk_record.specs.Key.{EntryKey}
use Rattle.bk_index.specs.Pages.{first_key, all_pairs, AreFenced}

module _ {X : Type 0} where
  abbrev pub IsSized : List (EntryKey × X) → Type 0
  IsSized page = (1 ≤ length page) × (length page ≤ 256)

  map-append : (xs ys : List (List (EntryKey × X))) → map first_key (xs ++ ys) ≡ map first_key xs ++ map first_key ys
  map-append [] ys = refl
  map-append (x ∷ xs) ys = ap (λ rest. first_key x ∷ rest) (map-append xs ys)

module _ {X : Type 0} where
  -- pages have at most 256 pairs each
  all_le : (pages : List (List (EntryKey × X))) → All IsSized pages → length (all_pairs pages) ≤ 256 * length pages
  all_le [] sizes = omega arith
  all_le (page ∷ pages) sizes =
      let first = sizes 0 [] (omega arith) in
      let rest = all_le pages (λ i d within. sizes (suc i) d (omega arith)) in
      omega (arith, first.1, rest, length-append page (all_pairs pages))

  pub length_set : (pages : List (List (EntryKey × X))) (at : ℕ) (page : List (EntryKey × X)) → at < length pages
      → length (all_pairs (set pages at page)) + length (get_or pages at []) ≡ length (all_pairs pages) + length page
  length_set [] at page within = absurd (omega arith)
  length_set (first ∷ pages) zero page within = omega (arith, length-append page (all_pairs pages), length-append first (all_pairs pages))
  length_set (first ∷ pages) (suc at) page within =
      omega (arith, length_set pages at page (omega arith), length-append first (all_pairs pages), length-append first (all_pairs (set pages at page)))

  length_out : (pages : List (List (EntryKey × X))) (at : ℕ) → at < length pages → length (all_pairs (remove pages at)) + length (get_or pages at [])
      ≡ length (all_pairs pages)
  length_out [] at within = absurd (omega arith)
  length_out (first ∷ pages) zero within = omega (arith, length-append first (all_pairs pages))
  length_out (first ∷ pages) (suc at) within =
      omega (arith, length_out pages at (omega arith), length-append first (all_pairs pages), length-append first (all_pairs (remove pages at)))

  remove-set : (pages : List (List (EntryKey × X))) (at : ℕ) (page : List (EntryKey × X)) → remove (set pages at page) at ≡ remove pages at
  remove-set pages at page =
      ap (λ front. front ++ drop (suc at) (set pages at page)) (take-set pages at page)
      ∙ ap (λ back. take at pages ++ back) (drop-set-lt (suc at) pages at page (omega arith))

  pub length_remove : (pages : List (List (EntryKey × X))) (at : ℕ) (page : List (EntryKey × X)) → at < length pages
      → length (all_pairs (remove (set pages at page) at)) + length (get_or pages at []) ≡ length (all_pairs pages)
  length_remove pages at page within = rw remove-set (length_out pages at within)

  pub all_split : (n : ℕ) (pages : List (List (EntryKey × X))) → all_pairs pages ≡ all_pairs (take n pages) ++ all_pairs (drop n pages)
  all_split n pages = ap all_pairs (sym (take-append-drop n pages)) ∙ flat_map-append (λ page. page) (take n pages) (drop n pages)

  -- removing pages removes their pairs
  pub length_cut : (pages : List (List (EntryKey × X))) (from to : ℕ) → from ≤ to
      → length (all_pairs (take from pages ++ drop to pages)) + length (all_pairs (take (to - from) (drop from pages))) ≡ length (all_pairs pages)
  length_cut pages from to order =
      let rest : drop (to - from) (drop from pages) ≡ drop to pages = drop-drop (to - from) from pages ∙ ap (λ n. drop n pages) (omega arith) in
      omega (
        arith,
        ap length (flat_map-append (λ page. page) (take from pages) (drop to pages)),
        length-append (all_pairs (take from pages)) (all_pairs (drop to pages)),
        ap length (all_split from pages),
        length-append (all_pairs (take from pages)) (all_pairs (drop from pages)),
        ap length (all_split (to - from) (drop from pages)),
        length-append (all_pairs (take (to - from) (drop from pages))) (all_pairs (drop (to - from) (drop from pages))),
        ap (λ ps. length (all_pairs ps)) rest,
      )

  pub count_all : (p : EntryKey × X → Bool) (pages : List (List (EntryKey × X))) → count_by p (all_pairs pages) ≡ sum_by (λ page. count_by p page) pages
  count_all p [] = refl
  count_all p (page ∷ pages) =
      sum_by-append (λ pair. cond (p pair) 1 0) page (all_pairs pages) ∙ ap (λ n. count_by p page + n) (count_all p pages)
      ∙ sym (sum_by-cons (λ page. count_by p page) page pages)

module _ {X : Type 0} (fences : List EntryKey) (pages : List (List (EntryKey × X))) (are : AreFenced fences pages) where
  pub few_fences : length fences ≡ length pages
  few_fences = ap length are.fenced ∙ length-map pages first_key

  -- overwriting a page and its fence
  pub fenced_set : (at : ℕ) (page : List (EntryKey × X)) → IsSized page → AreFenced (set fences at (first_key page)) (set pages at page)
  fenced_set at page sized = record {
    fenced = ap (λ fs. set fs at (first_key page)) are.fenced ∙ sym (map-set first_key pages at page);
    sizes = All-set IsSized pages at page sized are.sizes;
    few = rw length-set are.few;
  }

  -- overwriting a page whose first key is unchanged
  pub fenced_over : (at : ℕ) (page : List (EntryKey × X)) → at < length pages → first_key page ≡ first_key (get_or pages at []) → IsSized page
      → AreFenced fences (set pages at page)
  fenced_over at page within same sized =
      let fence : EntryKey = record { ledger = 0; entry = 0 } in
      let stays = ap (set (map first_key pages) at) (same ∙ sym (get_or-map first_key pages at [] fence within)) ∙ set-get_or (map first_key pages) at fence in
      record {
        fenced = are.fenced ∙ sym (map-set first_key pages at page ∙ stays);
        sizes = All-set IsSized pages at page sized are.sizes;
        few = rw length-set are.few;
      }

  -- inserting a page
  pub fenced_insert : (at : ℕ) (page : List (EntryKey × X)) → at ≤ length pages → length pages < 2 ^ 55 → IsSized page
      → AreFenced (insert fences at (first_key page)) (insert pages at page)
  fenced_insert at page within room sized = record {
    fenced =
        ap (λ fs. insert fs at (first_key page)) are.fenced
        ∙ ap (λ front. front ++ first_key page ∷ drop at (map first_key pages)) (take-map first_key at pages)
        ∙ ap (λ back. map first_key (take at pages) ++ first_key page ∷ back) (drop-map first_key at pages)
        ∙ sym (map-append (take at pages) (page ∷ drop at pages));
    sizes = All-append IsSized (take at pages) (page ∷ drop at pages) (All-take IsSized at pages are.sizes)
        (All-cons IsSized page (drop at pages) sized (All-drop IsSized at pages are.sizes));
    few = omega (arith, length-insert pages at page within);
  }

  -- adding a page behind all others
  pub fenced_push : (key : EntryKey) (page : List (EntryKey × X)) → key ≡ first_key page → length pages < 2 ^ 55 → IsSized page
      → AreFenced (fences ++ key ∷ []) (pages ++ page ∷ [])
  fenced_push key page first room sized = record {
    fenced = ap (λ fs. fs ++ key ∷ []) are.fenced ∙ ap (λ k. map first_key pages ++ k ∷ []) first ∙ sym (map-append pages (page ∷ []));
    sizes = All-append IsSized pages (page ∷ []) are.sizes (All-cons IsSized page [] sized (λ i d within. absurd (omega arith)));
    few = omega (arith, length-append pages (page ∷ []));
  }

  -- removing a range of pages
  pub fenced_cut : (from to : ℕ) → from ≤ to → AreFenced (take from fences ++ drop to fences) (take from pages ++ drop to pages)
  fenced_cut from to order = record {
    fenced =
        ap (λ fs. take from fs ++ drop to fs) are.fenced
        ∙ ap (λ front. front ++ drop to (map first_key pages)) (take-map first_key from pages)
        ∙ ap (λ back. map first_key (take from pages) ++ back) (drop-map first_key to pages)
        ∙ sym (map-append (take from pages) (drop to pages));
    sizes = All-append IsSized (take from pages) (drop to pages) (All-take IsSized from pages are.sizes) (All-drop IsSized to pages are.sizes);
    few = omega (arith, length-append (take from pages) (drop to pages), length-take from pages, length-drop to pages, are.few);
  }

  -- removing a page, whatever it was overwritten with
  pub fenced_remove : (at : ℕ) (page : List (EntryKey × X)) → AreFenced (remove fences at) (remove (set pages at page) at)
  fenced_remove at page = rw remove-set (fenced_cut at (suc at) (omega arith))

  -- the number of pairs fits in 64 bits
  pub countable : length (all_pairs pages) < 2 ^ 64
  countable = omega (arith, all_le pages are.sizes, are.few)

  -- so does the number of pairs that pass a test
  pub few_of : (p : EntryKey × X → Bool) → length (filter p (all_pairs pages)) ≤ 2 ^ 63
  few_of p = omega (arith, length-filter p (all_pairs pages), count_by-le-length p (all_pairs pages), all_le pages are.sizes, are.few)

  pub countable_part : (from n : ℕ) → length (all_pairs (take n (drop from pages))) < 2 ^ 64
  countable_part from n =
      omega (
        arith,
        all_le (take n (drop from pages)) (All-take IsSized n (drop from pages) (All-drop IsSized from pages are.sizes)),
        are.few,
        length-take n
            (drop from pages),
        length-drop from pages,
      )

  pub countable_log : (p : EntryKey × X → Bool) → sum_by (λ page. count_by p page) pages < 2 ^ 64
  countable_log p = omega (arith, countable, count_all p pages, count_by-le-length p (all_pairs pages))
