-- A page of the numbers with a property grows by the least one behind it.
use Rattle.std.proofs.Common.{◌≡◌, ◌⊎◌, inl, inr, ℕ, ◌+◌, ◌<◌, ◌≤◌, true, List, [], ◌∷◌, ◌++◌, length, subst, arith}
use Rattle.std.specs.List.{All, Contains}
use Rattle.std.specs.List.Sorted.{IsStrictlyIncreasing}
use Rattle.std.proofs.lemmas.Grind.{common_steps}
use Rattle.std.proofs.lemmas.List.Elements.{All-push, All-weaker, Contains-push, Contains-append_left}
use Rattle.bk_store.specs.State.{State}
use Rattle.bk_store.specs.Transitions.{is_dead}
use Rattle.bk_store.specs.LedgerReads.{HasLiveEntry, IsPage}

-- the page has the numbers with the property from `from` up to, not including, `at`
pub record IsPageUpTo (P : ℕ → Type 0) (from at : ℕ) (page : List ℕ) : Type 0 where
  pub start : from ≤ at
  pub rising : IsStrictlyIncreasing page
  pub each : All (λ n. (from ≤ n) × P n) page
  pub below : All (λ n. n < at) page
  pub covered : (n : ℕ) → from ≤ n → n < at → P n → Contains page n

rising_push : (page : List ℕ) (n : ℕ) → IsStrictlyIncreasing page → All (λ m. m < n) page → IsStrictlyIncreasing (page ++ n ∷ [])
rising_push page n rising below k within = grind (arith, common_steps, rising k, below k 0)

leads : (a b : ℕ) → (a < b) ⊎ (b ≤ a)
leads a b = grind arith

module _ (P : ℕ → Type 0) (from : ℕ) where
  pub page_empty : IsPageUpTo P from from []
  page_empty = record {
    start = omega arith;
    rising = λ k within. absurd (omega arith);
    each = λ k d within. absurd (omega arith);
    below = λ k d within. absurd (omega arith);
    covered = λ n low high has. absurd (omega arith);
  }

  module _ (at : ℕ) (page : List ℕ) (upto : IsPageUpTo P from at page) where
    pub page_more : (n : ℕ) → at ≤ n → P n → ((m : ℕ) → at ≤ m → P m → n ≤ m) → IsPageUpTo P from (n + 1) (page ++ n ∷ [])
    page_more n above has least = record {
      start = omega (arith, upto.start);
      rising = rising_push page n upto.rising (All-weaker (λ m. m < at) (λ m. m < n) (λ m under. omega arith) page upto.below);
      each = All-push (λ m. (from ≤ m) × P m) page n upto.each (omega (arith, upto.start), has);
      below = All-push (λ m. m < n + 1) page n (All-weaker (λ m. m < at) (λ m. m < n + 1) (λ m under. omega arith) page upto.below) (omega arith);
      covered = λ m low high own. elim (leads m at) [
        | inl before ↦ Contains-append_left page (n ∷ []) m (upto.covered m low before own)
        | inr behind ↦
            let order = least m behind own in
            let same : n ≡ m = omega arith in
            subst (λ k. Contains (page ++ n ∷ []) k) same (Contains-push page n)
      ];
    }

    -- no number with the property is behind the page
    pub page_last : (most : ℕ) → length page ≤ most → ((m : ℕ) → at ≤ m → ¬ (P m)) → IsPage P from most page
    page_last most within none = record {
      within = within;
      rising = upto.rising;
      each = upto.each;
      complete = λ m low own. elim (leads m at) [ inl before ↦ inl (upto.covered m low before own) | inr behind ↦ absurd (none m behind own) ];
    }

    -- the page is full
    pub page_full : IsPage P from (length page) page
    page_full = record {
      within = omega arith;
      rising = upto.rising;
      each = upto.each;
      complete = λ m low own. elim (leads m at) [
        | inl before ↦ inl (upto.covered m low before own)
        | inr behind ↦ inr (λ i. length page, All-weaker (λ k. k < at) (λ k. k < m) (λ k under. omega arith) page upto.below)
      ];
    }

-- a deleted ledger has no entry
pub page_of_dead : (s : State) (ledger from most : ℕ) → is_dead s ledger ≡ true → IsPage (HasLiveEntry s ledger) from most []
page_of_dead s ledger from most dead = page_last (HasLiveEntry s ledger) from from [] (page_empty (HasLiveEntry s ledger) from) most (omega arith)
    (λ m above own. let lives = own.0 in cc)

-- ---- numbers without the property that are passed over, where `Q` is a stronger property

module _ (P Q : ℕ → Type 0) (from at : ℕ) (passed : (n : ℕ) → from ≤ n → n < at → ¬ (Q n)) (weaker : (n : ℕ) → Q n → P n) where
  pub passed_none : ((n : ℕ) → at ≤ n → ¬ (P n)) → (n : ℕ) → from ≤ n → ¬ (Q n)
  passed_none none n low own = elim (leads n at) [ inl before ↦ passed n low before own | inr behind ↦ none n behind (weaker n own) ]

  module _ (found : ℕ) (least : (n : ℕ) → at ≤ n → P n → found ≤ n) where
    pub passed_some : (n : ℕ) → from ≤ n → Q n → found ≤ n
    passed_some n low own = elim (leads n at) [ inl before ↦ absurd (passed n low before own) | inr behind ↦ least n behind (weaker n own) ]

    pub passed_over : ¬ (Q found) → (n : ℕ) → from ≤ n → n < found + 1 → ¬ (Q n)
    passed_over lacks n low under own =
        let order = passed_some n low own in
        let same : n ≡ found = omega arith in
        lacks (subst Q same own)
