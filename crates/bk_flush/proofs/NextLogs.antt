-- The logs that have a place of the flush rise along the list of its places.
use Rattle.std.proofs.Common.{◌≡◌, ℕ, zero, suc, ◌+◌, ◌<◌, ◌≤◌, Bool, true, false, cond, IsTrue, Less, List, [], ◌∷◌}
use Rattle.std.proofs.Common.{length, Option, Some, None, slice_get, refl, sym, ap, subst, ◌∙◌, arith}
use Rattle.std.proofs.Math.Decide.{dec_le}
use Rattle.std.proofs.lemmas.Map.Keys.{sorted_head, sorted_tail}
use Rattle.std.specs.declared.cmp.Ordering.{Ordering}
use Rattle.std.specs.Ordering.{eq_by_cmp}
use Rattle.std.specs.List.{AllByRecursion}
use Rattle.std.specs.List.Sorted.{IsStrictlySortedBy}
use Rattle.std.specs.Map.{keys_of}
use Rattle.std.specs.FinMap as finite
use Rattle.std.specs.FinMap.{find, is_sorted}
use Rattle.bk_record.specs.Key.{EntryKey, key_cmp}
use Rattle.bk_record.specs.Location.{Place}
use Rattle.bk_record.proofs.Keys.{key_cmp_total}
use Rattle.bk_record.proofs.SortedPairs.{is_true, keys_rise, Some-same, find_at}
use Rattle.bk_store.specs.State.{State}
use Rattle.bk_store.specs.Abstract.{SatisfiesInvariant}
use Rattle.bk_flush.specs.Flushing.{HasPlace}

-- the least id, from this one on, of a log that has a place; none if there is no such log
abbrev pub IsNextLog : State → ℕ → Option ℕ → Type 0
IsNextLog s from None = (id : ℕ) → HasPlace s id → id < from
IsNextLog s from (Some id) = HasPlace s id × (from ≤ id) × ((other : ℕ) → HasPlace s other → from ≤ other → id ≤ other)

-- the logs of the first n places are below this id
abbrev pub ArePast : List (EntryKey × Place) → ℕ → ℕ → Type 0
ArePast es n from = (i : ℕ) (e : EntryKey × Place) → i < n → slice_get es i ≡ Some e → e.1.log < from

-- one more place is passed, whose log is below the id by now
pub one_past : (es : List (EntryKey × Place)) (n from now : ℕ) (e : EntryKey × Place) → ArePast es n from → slice_get es n ≡ Some e → e.1.log < now → from ≤ now
    → ArePast es (n + 1) now
one_past es n from now e past at below later i other within here = elim (dec_le n i) [
  | no less ↦ let before = past i other (omega (arith, less)) here in omega (arith, before, later)
  | yes above ↦
      let same : n ≡ i = omega (arith, above, within) in
      subst (λ (x : EntryKey × Place). x.1.log < now) (Some-same (sym at ∙ ap (slice_get es) same ∙ here)) below
]

-- ---- rising keys

each_key : {K X : Type 0} (P : K → Type 0) (es : List (K × X)) (i : ℕ) (e : K × X) → AllByRecursion P (keys_of es) → slice_get es i ≡ Some e → P e.0
each_key P [] i e all at = cc
each_key P (x ∷ es) zero e all at = subst (λ p. P p.0) (Some-same at) all.0
each_key P (x ∷ es) (suc i) e all at = each_key P es i e all.1 at

later_key : {K X : Type 0} (R : K → K → Ordering) (es : List (K × X)) (i j : ℕ) (e other : K × X) → IsStrictlySortedBy R (keys_of es) → i < j
    → slice_get es i ≡ Some e → slice_get es j ≡ Some other → R e.0 other.0 ≡ Less
later_key R [] i j e other rises less at there = cc
later_key R (x ∷ es) i zero e other rises less at there = absurd (omega (arith, less))
later_key R (x ∷ es) zero (suc j) e other rises less at there =
    subst (λ p. R p.0 other.0 ≡ Less) (Some-same at) (each_key (λ y. R x.0 y ≡ Less) es j other (sorted_head R x.0 (keys_of es) rises) there)
later_key R (x ∷ es) (suc i) (suc j) e other rises less at there =
    later_key R es i j e other (sorted_tail R x.0 (keys_of es) rises) (omega (arith, less)) at there

-- ---- the places of a flush

pub past_end : {X : Type 0} (es : List X) (n : ℕ) → slice_get es n ≡ None → length es ≤ n
past_end [] n none = omega arith
past_end (e ∷ es) zero none = cc
past_end (e ∷ es) (suc n) none = let later = past_end es n none in omega (arith, later)

pub within_list : {X : Type 0} (es : List X) (n : ℕ) (e : X) → slice_get es n ≡ Some e → n < length es
within_list [] n e is = cc
within_list (x ∷ es) zero e is = omega arith
within_list (x ∷ es) (suc n) e is = let later = within_list es n e is in omega (arith, later)

-- a pair that is found has a position in the list
found_at : (q : EntryKey) (es : List (EntryKey × Place)) (place : Place) → find key_cmp q es ≡ Some place
    → (i : ℕ) × (key : EntryKey) × (slice_get es i ≡ Some (key, place))
found_at q [] place is = cc
found_at q (e ∷ es) place is = by_test (eq_by_cmp key_cmp q e.0) is (found_at q es place)
  where
    by_test : (b : Bool) → cond b (Some e.1) (find key_cmp q es) ≡ Some place
        → (find key_cmp q es ≡ Some place → (i : ℕ) × (key : EntryKey) × (slice_get es i ≡ Some (key, place)))
        → (i : ℕ) × (key : EntryKey) × (slice_get (e ∷ es) i ≡ Some (key, place))
    by_test true here later = (0, e.0, ap (λ x. Some (e.0, x)) (Some-same here))
    by_test false there later = let at = later there in (suc at.0, at.1, at.2)

module _ (s : State) where
  pub places_sorted : IsTrue (is_sorted key_cmp (finite.entries s.places))
  places_sorted = is_true _ (finite.entries_sorted s.places)

  -- a pair of the list is a place of the flush
  pub place_at : (n : ℕ) (key : EntryKey) (place : Place) → slice_get (finite.entries s.places) n ≡ Some (key, place) → finite.get s.places key ≡ Some place
  place_at n key place at = finite.get-entries s.places key ∙ find_at key_cmp_total (finite.entries s.places) n key place places_sorted at

  -- a place is in the list
  among : (id : ℕ) → HasPlace s id
      → (i : ℕ) × (e : EntryKey × Place) × (i < finite.len s.places) × (slice_get (finite.entries s.places) i ≡ Some e) × (e.1.log ≡ id)
  among id has =
      let there = found_at has.0 (finite.entries s.places) has.1.0 (sym (finite.get-entries s.places has.0) ∙ has.1.1) in
      let within = within_list (finite.entries s.places) there.0 (there.1, has.1.0) there.2 in
      let long = finite.len-entries s.places in
      (there.0, (there.1, has.1.0), omega (arith, within, long), there.2, has.1.2)

  -- of two places, the log of the later one is not below that of the earlier one
  rising : SatisfiesInvariant s → (i j : ℕ) (e other : EntryKey × Place) → i < j → slice_get (finite.entries s.places) i ≡ Some e
      → slice_get (finite.entries s.places) j ≡ Some other → e.1.log ≤ other.1.log
  rising kept i j e other less at there =
      kept.keeps.fits.placed.rising e.0 other.0 e.1 other.1 (ap (λ (x : State). finite.get x.places e.0) kept.seen ∙ place_at i e.0 e.1 at)
      (ap (λ (x : State). finite.get x.places other.0) kept.seen ∙ place_at j other.0 other.1 there)
      (later_key key_cmp (finite.entries s.places) i j e other (keys_rise key_cmp (finite.entries s.places) places_sorted) less at there)

  -- the log of the first place whose log is not below an id is the next log from that id on
  pub next_placed : SatisfiesInvariant s → (n from : ℕ) (e : EntryKey × Place) → ArePast (finite.entries s.places) n from
      → slice_get (finite.entries s.places) n ≡ Some e → from ≤ e.1.log → IsNextLog s from (Some e.1.log)
  next_placed kept n from e past at above = (
    (e.0, (e.1, place_at n e.0 e.1 at, refl)),
    above,
    (λ other has high.
        let there = among other has in
        let log = there.4 in
        elim (dec_le n there.0) [
          | no less ↦ let low = past there.0 there.1 (omega (arith, less)) there.3 in absurd (omega (arith, low, log, high))
          | yes later ↦ elim (dec_le there.0 n) [
            | no behind ↦ let least = rising kept n there.0 e there.1 (omega (arith, behind)) at there.3 in omega (arith, least, log)
            | yes before ↦
                let same : n ≡ there.0 = omega (arith, later, before) in
                let one = Some-same (sym at ∙ ap (slice_get (finite.entries s.places)) same ∙ there.3) in
                let here : e.1.log ≡ there.1.1.log = ap (λ (x : EntryKey × Place). x.1.log) one in
                omega (arith, here, log)
          ]
        ]),
  )

  -- after the last place, no log is left
  pub none_left : (n from : ℕ) → finite.len s.places ≤ n → ArePast (finite.entries s.places) n from → IsNextLog s from None
  none_left n from all past id has =
      let there = among id has in
      let within = there.2 in
      let log = there.4 in
      let below = past there.0 there.1 (omega (arith, within, all)) there.3 in
      omega (arith, below, log)
