-- The entry of a flush with a number is indexed.
use Rattle.std.proofs.Common.{◌≡◌, ℕ, Option, Some, None, IfSome, slice_get, Result, Ok, Err, refl, sym, ap, subst, ◌∙◌}
use Rattle.std.specs.FinMap as finite
use Rattle.std.proofs.lemmas.Option.{same_Some}
use Rattle.bk_record.specs.Key.{EntryKey}
use Rattle.bk_record.specs.Location.{Place}
use Rattle.bk_record.proofs.Keys.{key_cmp_total}
use Rattle.bk_record.proofs.SortedPairs.{find_at, is_true}
use Rattle.bk_store.specs.Logs.{IsFlushLog}
use Rattle.bk_store.specs.State.{State, StoreParts}
use Rattle.bk_store.specs.Invariant.{StoreInvariant}
use Rattle.bk_store.specs.Contents.{SameContents}
use Rattle.bk_store.specs.Primitives.{ShowsAll, CanIndexEntry, CanIndexPlaced, IndexEntryTransition}
use Rattle.bk_store.proofs.SameContents.{means_same}

-- the pair with this number is of a key with its place
pub place_numbered : (s : State) (number : ℕ) (key : EntryKey) (place : Place) → slice_get (finite.entries s.places) number ≡ Some (key, place)
    → finite.get s.places key ≡ Some place
place_numbered s number key place at =
    finite.get-entries s.places key
    ∙ find_at key_cmp_total (finite.entries s.places) number key place (is_true _ (finite.entries_sorted s.places)) at

-- the key of the pair with this number can be indexed
pub can_index : (s : State) (number : ℕ) → CanIndexPlaced s number → (key : EntryKey) (place : Place)
    → slice_get (finite.entries s.places) number ≡ Some (key, place) → CanIndexEntry s key place
can_index s number may key place at =
    let same : may.place ≡ place = ap (λ (e : EntryKey × Place). e.1) (same_Some (may.key, may.place) (key, place) (sym may.at ∙ at)) in
    record {
      placed = place_numbered s number key place at;
      shown = subst (λ (x : Place). ShowsAll s x.log) same may.shown;
    }

-- an index entry changes no payload
pub index_means : {E : Type 0} (s t : State) (key : EntryKey) (place : Place) (result : Result (Unit {0}) E) → IndexEntryTransition s key place result t
    → SameContents s t
index_means s t key place (Ok _) turn = subst (SameContents s) (sym turn.3) (λ key. refl)
index_means s t key place (Err _) turn = means_same s t turn

-- the place with this number is in a log of the flush
pub place_flushed : (p : StoreParts) → StoreInvariant p → (number : ℕ) (o : Option (EntryKey × Place)) → o ≡ slice_get (finite.entries p.state.places) number
    → IfSome o (λ e. IsFlushLog p.state.logs e.1.log)
place_flushed p keeps number None at = tt
place_flushed p keeps number (Some e) at = keeps.fits.placed.logs e.0 e.1 (place_numbered p.state number e.0 e.1 (sym at))
