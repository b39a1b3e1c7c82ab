-- The order of keys and that of their pages: the keys of a lower page are all smaller.
use Rattle.std.proofs.Common.{◌≡◌, ◌⊎◌, inl, inr, ◌<◌, ◌/◌, List, [], ◌∷◌, ◌++◌, refl, sym, ap, ◌∙◌, arith}
use Rattle.std.specs.Bool.{IsTrue}
use Rattle.std.specs.declared.cmp.Ordering.TheVariants.{Less, Equal, Greater}
use Rattle.std.specs.Ordering.{nat_cmp, is_lt, ordering_then, ordering_reverse}
use Rattle.std.specs.List.{AllByRecursion}
use Rattle.std.specs.FinMap.Entries.{below_all}
use Rattle.std.proofs.lemmas.Bool.{lt-ltb, le-ltb, eq-eqb, and_parts}
use Rattle.std.proofs.lemmas.Cmp.{ranked}
use Rattle.std.specs.Cmp.Derive.{both_true}
use Rattle.bk_record.specs.Key.{EntryKey, key_cmp}
use Rattle.bk_record.proofs.Keys.{key_cmp_total}
use Rattle.bk_record.proofs.SortedPairs.{less_from_test}
use Rattle.bk_cache.specs.Rows.{page_of, all_pairs, IsPage}

abbrev pub IsBelow : EntryKey → EntryKey → Type 0
IsBelow a b = (a.ledger < b.ledger) ⊎ ((a.ledger ≡ b.ledger) × (a.entry < b.entry))

pub less_below : (a b : EntryKey) → key_cmp a b ≡ Less → IsBelow a b
less_below a b =
    elim (nat_cmp a.ledger b.ledger) as (λ r. r ≡ nat_cmp a.ledger b.ledger → ordering_then r (nat_cmp a.entry b.entry) ≡ Less → IsBelow a b) [
      | Less ↦ λ is _. let below : a.ledger < b.ledger = ranked a.ledger b.ledger Less is in inl below
      | Equal ↦ λ is rest.
          let same : a.ledger ≡ b.ledger = ranked a.ledger b.ledger Equal is in
          let under : a.entry < b.entry = ranked a.entry b.entry Less (sym rest) in
          inr (same, under)
      | Greater ↦ λ _ none. cc
    ] refl

pub below_less : (a b : EntryKey) → IsBelow a b → key_cmp a b ≡ Less
below_less a b (inl below) = rw (lt-ltb a.ledger b.ledger below) refl
below_less a b (inr same) =
    rw (le-ltb a.ledger b.ledger (omega (arith, same.0)), eq-eqb a.ledger b.ledger same.0) (rw (lt-ltb a.entry b.entry same.1) refl)

pub page_less : (a b : EntryKey) → key_cmp (page_of a) (page_of b) ≡ Less → key_cmp a b ≡ Less
page_less a b is = below_less a b (turn (less_below (page_of a) (page_of b) is))
  where
    turn : IsBelow (page_of a) (page_of b) → IsBelow a b
    turn (inl below) = inl below
    turn (inr same) = let under : a.entry / 256 < b.entry / 256 = same.1 in let below : a.entry < b.entry = omega (arith, under) in inr (same.0, below)

pub page_greater : (a b : EntryKey) → key_cmp (page_of a) (page_of b) ≡ Greater → key_cmp a b ≡ Greater
page_greater a b is =
    let turned : key_cmp (page_of b) (page_of a) ≡ Less = key_cmp_total.antisymm (page_of b) (page_of a) ∙ ap ordering_reverse is in
    key_cmp_total.antisymm a b ∙ ap ordering_reverse (page_less b a turned)

module _ {A : Type 0} where
  pub each_weaker : (P Q : A → Type 0) → ((x : A) → P x → Q x) → (xs : List A) → AllByRecursion P xs → AllByRecursion Q xs
  each_weaker P Q turn [] each = tt
  each_weaker P Q turn (x ∷ xs) each = (turn x each.0, each_weaker P Q turn xs each.1)

  pub each_both : (P : A → Type 0) → (xs ys : List A) → AllByRecursion P xs → AllByRecursion P ys → AllByRecursion P (xs ++ ys)
  each_both P [] ys one two = two
  each_both P (x ∷ xs) ys one two = (one.0, each_both P xs ys one.1 two)

module _ {X : Type 0} (key : EntryKey) where
  -- the keys of a higher page are greater, those of a lower one smaller
  pub each_above : (page : EntryKey × List (EntryKey × X)) → IsPage page → key_cmp (page_of key) page.0 ≡ Less
      → AllByRecursion (λ e. key_cmp key e.0 ≡ Less) page.1
  each_above page is less =
      each_weaker (λ e. page_of e.0 ≡ page.0) (λ e. key_cmp key e.0 ≡ Less) (λ e own. page_less key e.0 (ap (key_cmp (page_of key)) own ∙ less)) page.1 is.home

  pub each_below : (page : EntryKey × List (EntryKey × X)) → IsPage page → key_cmp (page_of key) page.0 ≡ Greater
      → AllByRecursion (λ e. key_cmp key e.0 ≡ Greater) page.1
  each_below page is greater =
      each_weaker (λ e. page_of e.0 ≡ page.0) (λ e. key_cmp key e.0 ≡ Greater) (λ e own. page_greater key e.0 (ap (key_cmp (page_of key)) own ∙ greater))
      page.1 is.home

  -- all keys of higher pages are greater
  pub all_above : (pages : List (EntryKey × List (EntryKey × X))) → AllByRecursion (λ page. IsPage page) pages
      → IsTrue (below_all key_cmp (page_of key) pages) → AllByRecursion (λ e. key_cmp key e.0 ≡ Less) (all_pairs pages)
  all_above [] each below = tt
  all_above (page ∷ pages) each below =
      let parts = and_parts _ _ below in
      each_both (λ e. key_cmp key e.0 ≡ Less) page.1 (all_pairs pages) (each_above page each.0 (less_from_test _ parts.0)) (all_above pages each.1 parts.1)

-- a key below the first of rising keys is below all
pub below_more : {X : Type 0} (a b : EntryKey) (es : List (EntryKey × X)) → key_cmp a b ≡ Less → IsTrue (below_all key_cmp b es)
    → IsTrue (below_all key_cmp a es)
below_more a b [] less below = refl
below_more a b (e ∷ es) less below =
    let parts = and_parts _ _ below in
    let here : IsTrue (is_lt (key_cmp a e.0)) = ap is_lt (key_cmp_total.trans a b e.0 less (less_from_test _ parts.0)) in
    both_true here (below_more a b es less parts.1)
