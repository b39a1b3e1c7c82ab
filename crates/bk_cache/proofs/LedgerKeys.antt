-- The keys of one ledger in a write cache are adjacent, from the least key of the ledger on.
use Rattle.std.proofs.Common.{◌≡◌, ℕ, ◌<◌, ◌≤◌, ◌^◌, Bool, true, false, cond, eqb, eqb-true, ◌&&◌, ◌⊎◌, inl, inr, List, [], ◌∷◌}
use Rattle.std.proofs.Common.{drop, Option, Some, None, slice_get, IsTrue, refl, sym, ap, ◌∙◌}
use Rattle.std.proofs.Common.{arith}
use mathlib.Core.Bool.{false≢true}
use Rattle.std.specs.declared.cmp.Ordering.TheVariants.{Less, Equal, Greater}
use Rattle.std.specs.declared.ops.Bound.TheVariants.{Included, Unbounded}
use Rattle.std.specs.Ordering.{nat_cmp, ordering_then, eq_by_cmp, is_lt, is_le}
use Rattle.std.specs.BTreeMap.Range.{range_contains}
use Rattle.std.specs.List.{filter}
use Rattle.std.specs.Cmp.{Equal-is}
use Rattle.std.specs.FinMap.{get, find, is_sorted, from_sorted, same_map}
use Rattle.std.specs.FinMap.Entries.{find-where_key}
use Rattle.std.proofs.lemmas.Cmp.{ranked}
use Rattle.bk_record.specs.Key.{EntryKey, key_cmp}
use Rattle.bk_record.specs.Scan.{Payloads}
use Rattle.bk_record.specs.Keyed.{without_ledger}
use Rattle.bk_record.proofs.Keys.{key_cmp_total, key_cmp_antisymmetric}
use Rattle.bk_record.proofs.KeyedLaws.{get-without_ledger}
use Rattle.bk_record.proofs.SortedPairs.{Some-same, find_at, filter-behind}
use Rattle.bk_record.proofs.SortedMaps.{is_sorted-filter, get-sorted}
use Rattle.bk_cache.specs.Invariant.{KeepsPairs}
use Rattle.bk_cache.proofs.KeyBounds.{added_ids}
use Rattle.bk_cache.specs.Recents.{Entry}

-- a map without a key of the ledger is unchanged
pub without_ledger-none : (m : Payloads) (ledger : ℕ) → ((q : EntryKey) (payload : List ℕ) → get m q ≡ Some payload → q.ledger ≡ ledger → ⊥)
    → without_ledger m ledger ≡ m
without_ledger-none m ledger none = same_map key_cmp_total key_cmp_antisymmetric _ _ (λ q. get-without_ledger m ledger q
    ∙ elim (eqb q.ledger ledger) as (λ b. eqb q.ledger ledger ≡ b → cond b None (get m q) ≡ get m q) [
      | true ↦ λ same. lacks q (get m q) refl (eqb-true q.ledger ledger same)
      | false ↦ λ _. refl
    ] refl)
  where
    lacks : (q : EntryKey) (o : Option (List ℕ)) → get m q ≡ o → q.ledger ≡ ledger → None ≡ o
    lacks q None is same = refl
    lacks q (Some payload) is same = absurd (none q payload is same)

-- whether a key is at or after the least key of the ledger
abbrev pub is_from : ℕ → EntryKey → Bool
is_from ledger q = range_contains key_cmp (Included (record { ledger = ledger; entry = 0 })) Unbounded q

-- the pairs from the least key of the ledger on
abbrev pub from_ledger : {X : Type 0} → ℕ → List (EntryKey × X) → List (EntryKey × X)
from_ledger ledger pairs = filter (λ e. is_from ledger e.0) pairs

-- a smaller key has no greater ledger
ledger-le : (h q : EntryKey) → is_lt (key_cmp h q) ≡ true → h.ledger ≤ q.ledger
ledger-le h q =
    elim (nat_cmp h.ledger q.ledger) as (λ r. r ≡ nat_cmp h.ledger q.ledger → is_lt (ordering_then r (nat_cmp h.entry q.entry)) ≡ true → h.ledger ≤ q.ledger) [
      | Less ↦ λ is _. let below : h.ledger < q.ledger = ranked h.ledger q.ledger Less is in omega arith
      | Equal ↦ λ is _. let same : h.ledger ≡ q.ledger = ranked h.ledger q.ledger Equal is in omega arith
      | Greater ↦ λ _ lower. absurd (false≢true lower)
    ] refl

from-le : (ledger : ℕ) (q : EntryKey) → is_from ledger q ≡ true → ledger ≤ q.ledger
from-le ledger q =
    elim (nat_cmp ledger q.ledger) as (λ r. r ≡ nat_cmp ledger q.ledger → (is_le (ordering_then r (nat_cmp 0 q.entry)) && true) ≡ true → ledger ≤ q.ledger) [
      | Less ↦ λ is _. let below : ledger < q.ledger = ranked ledger q.ledger Less is in omega arith
      | Equal ↦ λ is _. let same : ledger ≡ q.ledger = ranked ledger q.ledger Equal is in omega arith
      | Greater ↦ λ _ lower. absurd (false≢true lower)
    ] refl

own_from : (ledger : ℕ) (q : EntryKey) → q.ledger ≡ ledger → is_from ledger q ≡ true
own_from ledger q own =
    elim (nat_cmp ledger q.ledger) as (λ r. r ≡ nat_cmp ledger q.ledger → (is_le (ordering_then r (nat_cmp 0 q.entry)) && true) ≡ true) [
      | Less ↦ λ is. refl
      | Equal ↦ λ is. elim (nat_cmp 0 q.entry) as (λ r. r ≡ nat_cmp 0 q.entry → (is_le r && true) ≡ true) [
        | Less ↦ λ _. refl
        | Equal ↦ λ _. refl
        | Greater ↦ λ past. let below : q.entry < 0 = ranked 0 q.entry Greater past in absurd (omega arith)
      ] refl
      | Greater ↦ λ is. let above : q.ledger < ledger = ranked ledger q.ledger Greater is in absurd (omega arith)
    ] refl

module _ {X : Type 0} (pairs : List (EntryKey × X)) (sorted : IsTrue (is_sorted key_cmp pairs)) where
  -- a key among the pairs is the first one or greater
  in_front : (h : EntryKey × X) (q : EntryKey) (v : X) → slice_get pairs 0 ≡ Some h → find key_cmp q pairs ≡ Some v → (q ≡ h.0) ⊎ (is_lt (key_cmp h.0 q) ≡ true)
  in_front h q v at found =
      elim (eq_by_cmp key_cmp q h.0) as (λ b. eq_by_cmp key_cmp q h.0 ≡ b → (q ≡ h.0) ⊎ (is_lt (key_cmp h.0 q) ≡ true)) [
        | true ↦ λ tied. inl (key_cmp_antisymmetric q h.0 ((Equal-is (key_cmp q h.0)).0 tied))
        | false ↦ λ apart. inr (behind apart)
      ] refl
    where
      passes : (b : Bool) (o : Option X) → cond b o None ≡ Some v → b ≡ true
      passes true o is = refl
      passes false o is = cc

      rest : (es : List (EntryKey × X)) → slice_get es 0 ≡ Some h → eq_by_cmp key_cmp q h.0 ≡ false → find key_cmp q es ≡ find key_cmp q (drop 1 es)
      rest [] none apart = cc
      rest (e ∷ es) is apart =
          ap (λ b. cond b (Some e.1) (find key_cmp q es)) (ap (λ (x : EntryKey × X). eq_by_cmp key_cmp q x.0) (Some-same is) ∙ apart)

      behind : eq_by_cmp key_cmp q h.0 ≡ false → is_lt (key_cmp h.0 q) ≡ true
      behind apart =
          let later : EntryKey → Bool = λ k. is_lt (key_cmp h.0 k) in
          let left = sym (filter-behind key_cmp_total h.0 h.1 pairs 0 sorted at) in
          let one = sym (find-where_key key_cmp later q (λ x tied. ap later (sym (key_cmp_antisymmetric q x tied))) pairs)
          ∙ ap (find key_cmp q) (sym left) ∙ sym (rest pairs at apart) ∙ found in
          passes (later q) (find key_cmp q pairs) one

module _ {X : Type 0} (pairs : List (EntryKey × X)) (sorted : IsTrue (is_sorted key_cmp pairs)) (ledger : ℕ) where
  from_sorted_too : IsTrue (is_sorted key_cmp (from_ledger ledger pairs))
  from_sorted_too = is_sorted-filter key_cmp pairs sorted (λ k. is_from ledger k)

  find-from : (q : EntryKey) → find key_cmp q (from_ledger ledger pairs) ≡ cond (is_from ledger q) (find key_cmp q pairs) None
  find-from q = find-where_key key_cmp (λ k. is_from ledger k) q (λ x tied. ap (is_from ledger) (sym (key_cmp_antisymmetric q x tied))) pairs

  -- the first pair from the ledger's least key on is one of the pairs
  pub first_found : (h : EntryKey × X) → slice_get (from_ledger ledger pairs) 0 ≡ Some h → (is_from ledger h.0 ≡ true) × (find key_cmp h.0 pairs ≡ Some h.1)
  first_found h at = both (is_from ledger h.0) (sym (find-from h.0) ∙ find_at key_cmp_total (from_ledger ledger pairs) 0 h.0 h.1 from_sorted_too at)
    where
      both : (b : Bool) → cond b (find key_cmp h.0 pairs) None ≡ Some h.1 → (b ≡ true) × (find key_cmp h.0 pairs ≡ Some h.1)
      both true is = (refl, is)
      both false is = cc

  -- the ledger has no pair if there is none from its least key on, or the first is of another
  -- ledger
  pub none_found : (q : EntryKey) (v : X) → find key_cmp q pairs ≡ Some v → q.ledger ≡ ledger → slice_get (from_ledger ledger pairs) 0 ≡ None → ⊥
  none_found q v found own none =
      empty (from_ledger ledger pairs) none (find-from q ∙ ap (λ b. cond b (find key_cmp q pairs) None) (own_from ledger q own) ∙ found)
    where
      empty : (es : List (EntryKey × X)) → slice_get es 0 ≡ None → find key_cmp q es ≡ Some v → ⊥
      empty [] none is = cc
      empty (e ∷ es) none is = cc

  pub other_found : (h : EntryKey × X) (q : EntryKey) (v : X) → slice_get (from_ledger ledger pairs) 0 ≡ Some h → find key_cmp q pairs ≡ Some v
      → q.ledger ≡ ledger → h.0.ledger ≡ ledger
  other_found h q v at found own =
      let here = find-from q ∙ ap (λ b. cond b (find key_cmp q pairs) None) (own_from ledger q own) ∙ found in
      let low = from-le ledger h.0 (first_found h at).0 in
      elim (in_front (from_ledger ledger pairs) from_sorted_too h q v at here) [
        | inl same ↦ ap (λ (k : EntryKey). k.ledger) (sym same) ∙ own
        | inr lower ↦ omega (arith, ledger-le h.0 q lower)
      ]

-- no key has a ledger above 2 ^ 63 - 1
pub left-past : (pairs : List Entry) (len used : ℕ) → KeepsPairs pairs len used → (m : Payloads) → from_sorted pairs ≡ m → (ledger : ℕ)
    → (ledger < 2 ^ 63 → ⊥) → without_ledger m ledger ≡ m
left-past pairs len used kept m view ledger past = without_ledger-none m ledger (λ q payload is own.
    let found : find key_cmp q pairs ≡ Some payload = sym (get-sorted key_cmp pairs kept.sorted q) ∙ ap (λ n. get n q) view ∙ is in
    let below : q.ledger < 2 ^ 63 = (added_ids payload q (kept.keyed q payload found)).0 in
    past (omega arith))
