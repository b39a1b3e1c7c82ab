-- The fronts over the changes of a store, and what they mean.
use Rattle.std.proofs.Common.{◌≡◌, inl, inr, ℕ, suc, ◌<◌, ◌≤◌, cond, eqb, arith, Bool, true, false, List, [], ◌∷◌, ◌++◌, length, Option, Some, None, refl, sym, ap, subst, ◌∙◌}
use Rattle.std.specs.Prelude.{IsTrue, option_map}
use Rattle.std.specs.FinMap as finite
use Rattle.bk_record.specs.Key.{EntryKey, key_cmp}
use Rattle.bk_record.specs.Keyed.{without_ledger}
use Rattle.bk_record.specs.Scan.{Payloads}
use Rattle.bk_cache.specs.Caches.{entries_of_flush}
use Rattle.sha2.specs.Sha256.{sha256}
use Rattle.bk_record.proofs.KeyedLaws.{get-without_ledger}
use Rattle.bk_store.specs.declared.fronts.Fronts.{Fronts}
use Rattle.bk_store.specs.declared.mark.Mark.{Mark}
use Rattle.bk_store.specs.declared.mark.Mark.TheVariants.{Add, Delete, Fence}
use Rattle.bk_store.specs.Fronts.{FrontsInvariant, NoneCachedBelow, fronts_at, fronts_after_flush}
use Rattle.bk_store.specs.Trail.{HasAddMark}
use Rattle.bk_store.proofs.KeyMaps.{get-insert_other}
use Rattle.bk_store.proofs.TrailMoves.{number_cases}

-- ---- trails

-- a mark below the end of a trail was there before the last one came
came_below : (trail : List Mark) (mark : Mark) (end n : ℕ) (key : EntryKey) (digest : List ℕ) → end ≤ length trail → n < end
    → HasAddMark (trail ++ mark ∷ []) n key digest → HasAddMark trail n key digest
came_below trail mark end n key digest within below at =
    elim (number_cases trail mark n (Add key digest) at) [ inl old ↦ old | inr last ↦ absurd (let same = last.0 in omega arith) ]

length_more : (trail : List Mark) (mark : Mark) (end : ℕ) → end ≤ length trail → end ≤ length (trail ++ mark ∷ [])
length_more trail mark end within = subst (λ n. end ≤ n) (sym (length_pushed trail mark)) (omega arith)
  where
    length_pushed : (xs : List Mark) (y : Mark) → length (xs ++ y ∷ []) ≡ suc (length xs)
    length_pushed [] y = refl
    length_pushed (x ∷ xs) y = ap suc (length_pushed xs y)

-- a key that a map has not, it has not without a ledger
none_left : (m : Payloads) (ledger : ℕ) (key : EntryKey) → finite.get m key ≡ None → finite.get (without_ledger m ledger) key ≡ None
none_left m ledger key none = get-without_ledger m ledger key ∙ either (eqb key.ledger ledger) (finite.get m key) none
  where
    either : (b : Bool) (o : Option (List ℕ)) → o ≡ None → cond b None o ≡ None
    either true o is = refl
    either false o is = is

-- ---- an opening

none_below : (trail : List Mark) (end : ℕ) → NoneCachedBelow trail end finite.empty
none_below trail end number key digest below at = finite.get-empty key_cmp key

pub fronts_opened : {honest : Bool} → FrontsInvariant honest (fronts_at 0) [] finite.empty None
fronts_opened = record {
  order = omega arith;
  within = omega arith;
  taken = λ _. none_below [] 0;
  flushed = λ _. none_below [] 0;
}

-- ---- swaps, and the end of a flush

module _ {honest : Bool} {fronts : Fronts} {trail : List Mark} {active : Payloads} {flush : Option Payloads}
    (keeps : FrontsInvariant honest fronts trail active flush) where
  pub fronts_swapped : FrontsInvariant honest (record fronts { swapped = length trail }) trail finite.empty (Some active)
  fronts_swapped =
      let order = keeps.order in
      let within = keeps.within in
      record {
        order = omega arith;
        within = omega arith;
        taken = λ _. none_below trail (length trail);
        flushed = λ is number key digest below at. keeps.taken is number key digest (omega arith) at;
      }

  pub fronts_rested : flush ≡ None → finite.len active ≡ 0 → FrontsInvariant honest (fronts_at (length trail)) trail active flush
  fronts_rested idle none = record {
    order = omega arith;
    within = omega arith;
    taken = λ _. subst (NoneCachedBelow trail (length trail)) (sym (finite.empty_of_len active none)) (none_below trail (length trail));
    flushed = λ _. subst (λ f. NoneCachedBelow trail (length trail) (entries_of_flush f)) (sym idle) (none_below trail (length trail));
  }

  pub fronts_flushed : FrontsInvariant honest (fronts_after_flush fronts) trail active None
  fronts_flushed = record {
    order = omega arith;
    within = keeps.within;
    taken = keeps.taken;
    flushed = λ _. none_below trail fronts.swapped;
  }

  -- ---- one more mark

  -- no key below the fronts comes into a cache
  marked : (mark : Mark) (active' : Payloads) (flush' : Option Payloads)
      → (IsTrue honest → (n : ℕ) (key : EntryKey) (digest : List ℕ) → HasAddMark trail n key digest → finite.get active key ≡ None → finite.get active' key ≡ None)
      → ((key : EntryKey) → finite.get (entries_of_flush flush) key ≡ None → finite.get (entries_of_flush flush') key ≡ None)
      → FrontsInvariant honest fronts (trail ++ mark ∷ []) active' flush'
  marked mark active' flush' still still_flushing =
      let order = keeps.order in
      let within = keeps.within in
      record {
        order = order;
        within = length_more trail mark fronts.swapped within;
        taken = λ is number key digest below at.
            let old = came_below trail mark fronts.swapped number key digest within below at in
            still is number key digest old (keeps.taken is number key digest below old);
        flushed = λ is number key digest below at.
            let old = came_below trail mark fronts.durable number key digest (omega arith) below at in
            still_flushing key (keeps.flushed is number key digest below old);
      }

  pub fronts_fenced : (ledger : ℕ) → FrontsInvariant honest fronts (trail ++ Fence ledger ∷ []) active flush
  fronts_fenced ledger = marked (Fence ledger) active flush (λ _ n key digest at none. none) (λ key none. none)

  pub fronts_added : (given key : EntryKey) (payload : List ℕ) → given ≡ key
      → (IsTrue honest → (n : ℕ) (digest : List ℕ) → HasAddMark trail n key digest → ⊥)
      → FrontsInvariant honest fronts (trail ++ Add key (sha256 payload) ∷ []) (finite.insert active given payload) flush
  fronts_added given key payload same never =
      marked (Add key (sha256 payload)) (finite.insert active given payload) flush
      (λ is n k digest at none. get-insert_other active given payload k
      (λ here. never is n digest (subst (λ x. HasAddMark trail n x digest) (here ∙ same) at)) ∙ none) (λ key none. none)

  pub fronts_deleted : (ledger : ℕ)
      → FrontsInvariant honest fronts (trail ++ Delete ledger ∷ []) (without_ledger active ledger) (option_map (λ m. without_ledger m ledger) flush)
  fronts_deleted ledger =
      marked (Delete ledger) (without_ledger active ledger) (option_map (λ m. without_ledger m ledger) flush)
      (λ _ n key digest at none. none_left active ledger key none)
      (λ key none. elim flush as (λ f. finite.get (entries_of_flush f) key ≡ None → finite.get (entries_of_flush (option_map (λ m. without_ledger m ledger) f)) key ≡ None) [
        | None ↦ λ is. is
        | Some m ↦ λ is. none_left m ledger key is
      ] none)
