-- The first and the last of sorted pairs that pass a test, and what they say of a write cache: the
-- first and the last entry of a ledger, and the next ledger.
use Rattle.std.proofs.Common.{◌≡◌, ◌⊎◌, inl, inr, ℕ, zero, suc, ◌-◌, ◌<◌, ◌≤◌, ◌^◌, ◌/◌, nat_lt, Bool, true, false, cond, not, List, [], ◌∷◌, length, Option, Some, None, IsSome, is_some}
use Rattle.std.proofs.Common.{option_map, slice_get, is_gt, refl, sym, ap, subst, ◌∙◌, arith}
use mathlib.Core.Bool.{false≢true}
use Rattle.std.specs.declared.cmp.Ordering.TheVariants.{Less, Equal, Greater}
use Rattle.std.specs.Ordering.{nat_cmp, ordering_then, ordering_reverse, eq_by_cmp, is_le, is_lt}
use Rattle.std.specs.Bool.{IsTrue}
use Rattle.std.specs.Cmp.{Equal-is, tied_itself}
use Rattle.std.specs.List.{filter}
use Rattle.std.specs.FinMap.{get, find, is_sorted, from_sorted}
use Rattle.std.specs.FinMap.Entries.{find-where_key}
use Rattle.std.proofs.lemmas.Bool.{lt-ltb, le-ltb, eq-eqb, ltb-true, ltb-false, and_parts}
use Rattle.std.specs.Cmp.Derive.{both_true}
use Rattle.std.proofs.lemmas.Bool.Decides.{nat_tests}
use Rattle.std.proofs.lemmas.Option.{slice_get_within}
use Rattle.std.proofs.lemmas.Cmp.{ranked}
use Rattle.std.proofs.lemmas.Map.Keys.{le_from_not_gt}
use Rattle.bk_record.specs.Key.{EntryKey, key_cmp}
use Rattle.bk_record.specs.Scan.{Payloads}
use Rattle.bk_record.proofs.Keys.{key_cmp_total, key_cmp_antisymmetric}
use Rattle.bk_record.proofs.SortedPairs.{Some-same, find_at}
use Rattle.bk_record.proofs.SortedMaps.{is_sorted-filter}
use Rattle.bk_cache.specs.Invariant.{KeepsPairs}
use Rattle.bk_cache.specs.Recents.{Entry}
use Rattle.bk_cache.specs.Rows.{page_of, is_of_ledger}
use Rattle.bk_cache.proofs.KeptPairs.{get_is}
use Rattle.bk_cache.proofs.KeyPlaces.{rises}
use Rattle.bk_cache.proofs.KeyBounds.{HasValidIds, added_ids}

-- a key of a smaller ledger, or an entry of the ledger up to another one
abbrev pub IsUpTo : EntryKey → EntryKey → Type 0
IsUpTo a b = (a.ledger < b.ledger) ⊎ ((a.ledger ≡ b.ledger) × (a.entry ≤ b.entry))

not_gt : (a b : ℕ) → a ≤ b → is_gt (nat_cmp a b) ≡ false
not_gt a b under = grind (arith, nat_tests)

not_after : (a b : EntryKey) → IsUpTo a b → is_gt (key_cmp a b) ≡ false
not_after a b (inl below) = rw (lt-ltb a.ledger b.ledger below) refl
not_after a b (inr same) =
    rw (le-ltb a.ledger b.ledger (omega (arith, same.0)), eq-eqb a.ledger b.ledger same.0) (not_gt a.entry b.entry same.1)

order_of : (a b : EntryKey) → is_gt (key_cmp a b) ≡ false → IsUpTo a b
order_of a b =
    elim (nat_cmp a.ledger b.ledger) as (λ r. r ≡ nat_cmp a.ledger b.ledger → is_gt (ordering_then r (nat_cmp a.entry b.entry)) ≡ false → IsUpTo a b) [
      | Less ↦ λ is _. let below : a.ledger < b.ledger = ranked a.ledger b.ledger Less is in inl below
      | Equal ↦ λ is rest. let same : a.ledger ≡ b.ledger = ranked a.ledger b.ledger Equal is in inr (same, le_from_not_gt a.entry b.entry rest)
      | Greater ↦ λ _ no. absurd (false≢true (sym no))
    ] refl

upto_entry : (a b : EntryKey) → a.ledger ≡ b.ledger → IsUpTo a b → a.entry ≤ b.entry
upto_entry a b same (inl below) = absurd (omega arith)
upto_entry a b same (inr rest) = rest.1

upto_ledger : (a b : EntryKey) → IsUpTo a b → a.ledger ≤ b.ledger
upto_ledger a b (inl below) = omega arith
upto_ledger a b (inr rest) = omega (arith, rest.0)

-- a test of the order, in two forms
le_not_gt : (a b : EntryKey) → is_le (key_cmp a b) ≡ true → is_gt (key_cmp a b) ≡ false
le_not_gt a b = elim (key_cmp a b) as (λ r. is_le r ≡ true → is_gt r ≡ false) [ Less ↦ λ _. refl | Equal ↦ λ _. refl | Greater ↦ λ no. absurd (false≢true no) ]

not_gt_le : (a b : EntryKey) → is_gt (key_cmp a b) ≡ false → is_le (key_cmp a b) ≡ true
not_gt_le a b = elim (key_cmp a b) as (λ r. is_gt r ≡ false → is_le r ≡ true) [ Less ↦ λ _. refl | Equal ↦ λ _. refl | Greater ↦ λ no. absurd (false≢true (sym no)) ]

module _ {X : Type 0} where
  -- a key that is found has a place
  place_found : (q : EntryKey) (v : X) (es : List (EntryKey × X)) → find key_cmp q es ≡ Some v → (i : ℕ) × (slice_get es i ≡ Some (q, v))
  place_found q v [] found = cc
  place_found q v (e ∷ es) found =
      elim (eq_by_cmp key_cmp q e.0) as (λ b. eq_by_cmp key_cmp q e.0 ≡ b → cond b (Some e.1) (find key_cmp q es) ≡ Some v
      → (i : ℕ) × (slice_get (e ∷ es) i ≡ Some (q, v))) [
        | true ↦ λ tied is. (zero, ap Some (λ i. (sym (key_cmp_antisymmetric q e.0 ((Equal-is (key_cmp q e.0)).0 tied)) i, Some-same is i)))
        | false ↦ λ _ is. let there = place_found q v es is in (suc there.0, there.1)
      ] refl found

  module _ (es : List (EntryKey × X)) (sorted : IsTrue (is_sorted key_cmp es)) (p : EntryKey → Bool) where
    abbrev passing : List (EntryKey × X)
    passing = filter (λ e. p e.0) es

    sorted_too : IsTrue (is_sorted key_cmp passing)
    sorted_too = is_sorted-filter key_cmp es sorted p

    find_passing : (q : EntryKey) → find key_cmp q passing ≡ cond (p q) (find key_cmp q es) None
    find_passing q = find-where_key key_cmp p q (λ x tied. ap p (sym (key_cmp_antisymmetric q x tied))) es

    -- a pair that passes is one of the pairs
    pub passing_held : (i : ℕ) (x : EntryKey × X) → slice_get passing i ≡ Some x → (p x.0 ≡ true) × (find key_cmp x.0 es ≡ Some x.1)
    passing_held i x is = both (p x.0) (sym (find_passing x.0) ∙ find_at key_cmp_total passing i x.0 x.1 sorted_too is)
      where
        both : (b : Bool) → cond b (find key_cmp x.0 es) None ≡ Some x.1 → (b ≡ true) × (find key_cmp x.0 es ≡ Some x.1)
        both true found = (refl, found)
        both false found = cc

    place_of : (q : EntryKey) (v : X) → find key_cmp q es ≡ Some v → p q ≡ true → (i : ℕ) × (slice_get passing i ≡ Some (q, v))
    place_of q v found passes = place_found q v passing (find_passing q ∙ ap (λ b. cond b (find key_cmp q es) None) passes ∙ found)

    pub none_passing : slice_get passing 0 ≡ None → (q : EntryKey) (v : X) → find key_cmp q es ≡ Some v → p q ≡ true → ⊥
    none_passing none q v found passes = let there = place_of q v found passes in empty passing none there.0 (q, v) there.1
      where
        empty : (xs : List (EntryKey × X)) → slice_get xs 0 ≡ None → (i : ℕ) (x : EntryKey × X) → slice_get xs i ≡ Some x → ⊥
        empty [] none i x is = cc
        empty (y ∷ xs) none i x is = cc

    -- the first has the least key, the last the greatest
    pub first_least : (x : EntryKey × X) → slice_get passing 0 ≡ Some x → (q : EntryKey) (v : X) → find key_cmp q es ≡ Some v → p q ≡ true
        → is_gt (key_cmp x.0 q) ≡ false
    first_least x is q v found passes = let there = place_of q v found passes in least there.0 there.1
      where
        least : (i : ℕ) → slice_get passing i ≡ Some (q, v) → is_gt (key_cmp x.0 q) ≡ false
        least zero at = ap (λ (e : EntryKey × X). is_gt (key_cmp x.0 e.0)) (Some-same (sym at ∙ is)) ∙ ap is_gt (tied_itself key_cmp_total x.0)
        least (suc i) at = ap is_gt (rises passing sorted_too 0 (suc i) x (q, v) (omega arith) is at)

    pub last_greatest : (x : EntryKey × X) → slice_get passing (length passing - 1) ≡ Some x → (q : EntryKey) (v : X) → find key_cmp q es ≡ Some v
        → p q ≡ true → is_gt (key_cmp q x.0) ≡ false
    last_greatest x is q v found passes =
        let there = place_of q v found passes in
        let within : there.0 < length passing = slice_get_within passing there.0 (q, v) there.1 in
        elim (nat_lt there.0 (length passing - 1)) as (λ b. nat_lt there.0 (length passing - 1) ≡ b → is_gt (key_cmp q x.0) ≡ false) [
          | true ↦ λ before. ap is_gt (rises passing sorted_too there.0 (length passing - 1) (q, v) x (ltb-true there.0 _ before) there.1 is)
          | false ↦ λ after.
              let here : there.0 ≡ length passing - 1 = omega (arith, ltb-false there.0 (length passing - 1) after) in
              let same : x ≡ (q, v) = Some-same (sym is ∙ ap (slice_get passing) (sym here) ∙ there.1) in
              ap (λ (e : EntryKey × X). is_gt (key_cmp q e.0)) same ∙ ap is_gt (tied_itself key_cmp_total q)
        ] refl

none_last : {A : Type 0} (xs : List A) → slice_get xs (length xs - 1) ≡ None → slice_get xs 0 ≡ None
none_last {A = A} [] none = refl
none_last {A = A} (x ∷ xs) none = absurd (some (length xs) x xs refl none)
  where
    some : (n : ℕ) (x : A) (xs : List A) → length xs ≡ n → slice_get (x ∷ xs) (length (x ∷ xs) - 1) ≡ None → ⊥
    some zero x [] is none = cc
    some zero (x) (y ∷ ys) is none = absurd (omega arith)
    some (suc n) x [] is none = cc
    some (suc n) x (y ∷ ys) is none =
        let next : length (x ∷ y ∷ ys) - 1 ≡ suc (length (y ∷ ys) - 1) = omega arith in
        some n y ys (omega arith) (ap (slice_get (x ∷ y ∷ ys)) (sym next) ∙ none)

is_there : {A : Type 0} (o : Option A) → IsSome o → (x : A) × (o ≡ Some x)
is_there (Some x) there = (x, refl)
is_there None there = absurd (false≢true there)

-- the keys from a ledger on
pub from_start : (from : ℕ) (key : EntryKey) → from ≤ key.ledger → IsUpTo (record { ledger = from; entry = 0 }) key
from_start from key above = elim (leads from key.ledger above) [ inl below ↦ inl below | inr same ↦ inr (same, omega arith) ]
  where
    leads : (n l : ℕ) → n ≤ l → (n < l) ⊎ (n ≡ l)
    leads n l above = grind arith

pub ledger_from : (from : ℕ) (key : EntryKey) → IsUpTo (record { ledger = from; entry = 0 }) key → from ≤ key.ledger
ledger_from from key up = upto_ledger (record { ledger = from; entry = 0 }) key up

pub ledger_upto : (a b : EntryKey) → IsUpTo a b → a.ledger ≤ b.ledger
ledger_upto a b up = upto_ledger a b up

module _ (pairs : List Entry) (len used : ℕ) (kept : KeepsPairs pairs len used) (m : Payloads) (view : from_sorted pairs ≡ m) where
  in_pairs : (q : EntryKey) → IsSome (get m q) → (v : List ℕ) × (find key_cmp q pairs ≡ Some v)
  in_pairs q there = let v = is_there (get m q) there in (v.0, sym (get_is pairs len used kept m view q) ∙ v.1)

  in_map : (q : EntryKey) (v : List ℕ) → find key_cmp q pairs ≡ Some v → IsSome (get m q)
  in_map q v found = ap is_some (get_is pairs len used kept m view q ∙ found)

  -- the ids of a key in the cache are in range
  pub held_ids : (q : EntryKey) → IsSome (get m q) → HasValidIds q
  held_ids q there = let v = in_pairs q there in added_ids v.0 q (kept.keyed q v.0 v.1)

  -- the first pair from a key on
  module _ (ledger from : ℕ) (a : EntryKey) (a_is : a ≡ record { ledger = ledger; entry = from }) where
    abbrev first : Option Entry
    first = slice_get (filter (λ e. is_le (key_cmp a e.0)) pairs) 0

    starts : (q : EntryKey) → IsUpTo (record { ledger = ledger; entry = from }) q → is_le (key_cmp a q) ≡ true
    starts q up = not_gt_le a q (ap (λ (k : EntryKey). is_gt (key_cmp k q)) a_is ∙ not_after (record { ledger = ledger; entry = from }) q up)

    pub no_first : None ≡ first → (q : EntryKey) → IsSome (get m q) → IsUpTo (record { ledger = ledger; entry = from }) q → ⊥
    no_first none q there up =
        let v = in_pairs q there in none_passing pairs kept.sorted (λ k. is_le (key_cmp a k)) (sym none) q v.0 v.1 (starts q up)

    module _ (x : Entry) (is : Some x ≡ first) where
      pub first_held : IsSome (get m x.0)
      first_held = in_map x.0 x.1 (passing_held pairs kept.sorted (λ k. is_le (key_cmp a k)) 0 x (sym is)).1

      pub first_from : IsUpTo (record { ledger = ledger; entry = from }) x.0
      first_from =
          let passes = (passing_held pairs kept.sorted (λ k. is_le (key_cmp a k)) 0 x (sym is)).0 in
          order_of (record { ledger = ledger; entry = from }) x.0 (ap (λ (k : EntryKey). is_gt (key_cmp k x.0)) (sym a_is) ∙ le_not_gt a x.0 passes)

      pub first_upto : (q : EntryKey) → IsSome (get m q) → IsUpTo (record { ledger = ledger; entry = from }) q → IsUpTo x.0 q
      first_upto q there up =
          let v = in_pairs q there in
          order_of x.0 q (first_least pairs kept.sorted (λ k. is_le (key_cmp a k)) x (sym is) q v.0 v.1 (starts q up))

      -- it is the ledger's first from the entry on, or one of a greater ledger
      pub entry_from : x.0.ledger ≡ ledger → from ≤ x.0.entry
      entry_from own = upto_entry (record { ledger = ledger; entry = from }) x.0 (sym own) first_from

      pub entry_held : x.0.ledger ≡ ledger → IsSome (get m (record { ledger = ledger; entry = x.0.entry }))
      entry_held own = subst (λ (k : EntryKey). IsSome (get m k)) (λ i. record { ledger = own i; entry = x.0.entry }) first_held

      pub entry_least : x.0.ledger ≡ ledger → (entry : ℕ) → from ≤ entry → IsSome (get m (record { ledger = ledger; entry = entry })) → x.0.entry ≤ entry
      entry_least own entry above there =
          upto_entry x.0 (record { ledger = ledger; entry = entry }) own (first_upto (record { ledger = ledger; entry = entry }) there (inr (refl, above)))

      pub entry_none : (x.0.ledger ≡ ledger → ⊥) → (entry : ℕ) → from ≤ entry → IsSome (get m (record { ledger = ledger; entry = entry })) → ⊥
      entry_none apart entry above there =
          let low = upto_ledger (record { ledger = ledger; entry = from }) x.0 first_from in
          let high = upto_ledger x.0 (record { ledger = ledger; entry = entry }) (first_upto (record { ledger = ledger; entry = entry }) there (inr (refl, above))) in
          let same : x.0.ledger ≡ ledger = omega (arith, low, high) in
          apart same

  -- the last pair of a ledger
  module _ (ledger : ℕ) where
    abbrev own : List Entry
    own = filter (λ e. is_of_ledger ledger (page_of e.0)) pairs

    abbrev last : Option Entry
    last = slice_get own (length own - 1)

    own_there : (q : EntryKey) → q.ledger ≡ ledger → q.entry < 2 ^ 63 → is_of_ledger ledger (page_of q) ≡ true
    own_there q same small =
        let page = page_of q in
        let low = not_gt_le (record { ledger = ledger; entry = 0 }) page (not_after (record { ledger = ledger; entry = 0 }) page (inr (sym same, omega arith))) in
        let under : q.entry / 256 ≤ 9223372036854775807 = omega arith in
        let high = not_after page (record { ledger = ledger; entry = 9223372036854775807 }) (inr (same, under)) in
        both_true low (not_past (record { ledger = ledger; entry = 9223372036854775807 }) page high)
      where
        not_past : (a b : EntryKey) → is_gt (key_cmp b a) ≡ false → not (is_lt (key_cmp a b)) ≡ true
        not_past a b upto = ap (λ r. not (is_lt r)) (key_cmp_total.antisymm a b)
            ∙ elim (key_cmp b a) as (λ r. is_gt r ≡ false → not (is_lt (ordering_reverse r)) ≡ true) [
              | Less ↦ λ _. refl
              | Equal ↦ λ _. refl
              | Greater ↦ λ no. absurd (false≢true (sym no))
            ] upto

    own_ledger : (q : EntryKey) → is_of_ledger ledger (page_of q) ≡ true → q.ledger ≡ ledger
    own_ledger q is =
        let page = page_of q in
        let parts = and_parts _ _ is in
        let low = upto_ledger (record { ledger = ledger; entry = 0 }) page (order_of (record { ledger = ledger; entry = 0 }) page (le_not_gt (record { ledger = ledger; entry = 0 }) page parts.0)) in
        let high = upto_ledger page (record { ledger = ledger; entry = 9223372036854775807 })
        (order_of page (record { ledger = ledger; entry = 9223372036854775807 }) (past (record { ledger = ledger; entry = 9223372036854775807 }) page parts.1)) in
        omega (arith, low, high)
      where
        past : (a b : EntryKey) → not (is_lt (key_cmp a b)) ≡ true → is_gt (key_cmp b a) ≡ false
        past a b upto = ap is_gt (key_cmp_total.antisymm b a)
            ∙ elim (key_cmp a b) as (λ r. not (is_lt r) ≡ true → is_gt (ordering_reverse r) ≡ false) [
              | Less ↦ λ no. absurd (false≢true no)
              | Equal ↦ λ _. refl
              | Greater ↦ λ _. refl
            ] upto

    pub no_last : last ≡ None → (entry : ℕ) → IsSome (get m (record { ledger = ledger; entry = entry })) → ⊥
    no_last none entry there =
        let q : EntryKey = record { ledger = ledger; entry = entry } in
        let v = in_pairs q there in
        none_passing pairs kept.sorted (λ k. is_of_ledger ledger (page_of k)) (none_last own none) q v.0 v.1 (own_there q refl (held_ids q there).1)

    module _ (x : Entry) (is : last ≡ Some x) where
      pub last_held : IsSome (get m (record { ledger = ledger; entry = x.0.entry }))
      last_held =
          let held = passing_held pairs kept.sorted (λ k. is_of_ledger ledger (page_of k)) (length own - 1) x is in
          let same = own_ledger x.0 held.0 in
          subst (λ (k : EntryKey). IsSome (get m k)) (λ i. record { ledger = same i; entry = x.0.entry }) (in_map x.0 x.1 held.1)

      pub last_entry : (entry : ℕ) → IsSome (get m (record { ledger = ledger; entry = entry })) → entry ≤ x.0.entry
      last_entry entry there =
          let q : EntryKey = record { ledger = ledger; entry = entry } in
          let v = in_pairs q there in
          let held = passing_held pairs kept.sorted (λ k. is_of_ledger ledger (page_of k)) (length own - 1) x is in
          let upto = last_greatest pairs kept.sorted (λ k. is_of_ledger ledger (page_of k)) x is q v.0 v.1 (own_there q refl (held_ids q there).1) in
          upto_entry q x.0 (sym (own_ledger x.0 held.0)) (order_of q x.0 upto)

pub named : {X : Type 0} (k : EntryKey) (o : Option (EntryKey × X)) → Some k ≡ option_map (λ e. e.0) o → (x : EntryKey × X) × (o ≡ Some x) × (k ≡ x.0)
named k None is = cc
named k (Some x) is = (x, refl, Some-same is)

pub unnamed : {X : Type 0} (o : Option (EntryKey × X)) → None ≡ option_map (λ e. e.0) o → o ≡ None
unnamed None is = refl
unnamed (Some x) is = cc

pub no_value : {A X : Type 0} (f : A → X) (o : Option A) (q : Option X) → o ≡ None → option_map f o ≡ q → None ≡ q
no_value f None q none is = is
no_value f (Some x) q none is = cc
