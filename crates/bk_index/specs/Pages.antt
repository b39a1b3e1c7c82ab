-- Pages: pairs sorted by key, in short lists, with the first key of each. Read `AreFenced` and
-- `AreCounted` first: the type invariants of `Pages` and `Index`.
use Rattle.std.specs.Prelude.{◌≡◌, ℕ, zero, suc, ◌+◌, ◌-◌, ◌^◌, ◌<◌, ◌≤◌, List, [], ◌∷◌, length, take, drop, map, sum, All}
use Rattle.std.specs.List.{AllByRecursion, flat_map}
use Rattle.std.specs.Bool.{IsTrue}
use Rattle.std.specs.FinMap.{is_sorted}
use Rattle.std.specs.declared.cmp.Ordering.TheVariants.{Less}
use Rattle.bk_record.specs.Key.{EntryKey, key_cmp}

-- first key of a page that is not empty
abbrev pub first_key : {X : Type 0} → List (EntryKey × X) → EntryKey
first_key [] = record { ledger = 0; entry = 0 }
first_key (pair ∷ pairs) = pair.0

-- pairs of all pages, in order
abbrev pub all_pairs : {X : Type 0} → List (List (EntryKey × X)) → List (EntryKey × X)
all_pairs pages = flat_map (λ page. page) pages

-- one fence for each page, its first key; each page has 1 to 256 pairs, and the number of pages is
-- bounded
pub record AreFenced {X : Type 0} (fences : List EntryKey) (pages : List (List (EntryKey × X))) : Type 0 where
  pub fenced : fences ≡ map first_key pages
  pub sizes : All (λ page. (1 ≤ length page) × (length page ≤ 256)) pages
  pub few : length pages ≤ 2 ^ 55

-- page `number` is the one for the key: smaller keys are before it, greater keys after it
abbrev pub IsHome : {X : Type 0} → EntryKey → List (List (EntryKey × X)) → ℕ → Type 0
IsHome key [] number = Unit {0}
IsHome key (page ∷ pages) zero = AllByRecursion (λ pair. key_cmp key pair.0 ≡ Less) (all_pairs pages)
IsHome key (page ∷ pages) (suc number) = AllByRecursion (λ pair. key_cmp pair.0 key ≡ Less) page × IsHome key pages number

-- keys of the ledger are only in the pages from `from` up to `to`, and the pages strictly between
-- the first and the last have no others
pub record HoldsLedger {X : Type 0} (pages : List (List (EntryKey × X))) (ledger from to : ℕ) : Type 0 where
  pub order : from ≤ to
  pub bound : to ≤ length pages
  pub before : AllByRecursion (λ pair. pair.0.ledger < ledger) (all_pairs (take from pages))
  pub not_after_first : AllByRecursion (λ pair. ledger ≤ pair.0.ledger) (all_pairs (drop (from + 1) pages))
  pub not_before_last : AllByRecursion (λ pair. pair.0.ledger ≤ ledger) (all_pairs (take (to - 1) pages))
  pub behind : AllByRecursion (λ pair. ledger < pair.0.ledger) (all_pairs (drop to pages))

-- possible page lengths of a map of this many keys: each from 1 to 256, with this sum
pub record ArePageLens (lens : List ℕ) (keys : ℕ) : Type 0 where
  pub sizes : All (λ len. (1 ≤ len) × (len ≤ 256)) lens
  pub all_keys : sum lens ≡ keys

-- the pairs of all pages are sorted, and `len` is their number
pub record AreCounted {X : Type 0} (pages : List (List (EntryKey × X))) (len : ℕ) : Type 0 where
  pub sorted : IsTrue (is_sorted key_cmp (all_pairs pages))
  pub counted : len ≡ length (all_pairs pages)
