-- What the durable front means: the entries below it are indexed in published parts of logs.
use Rattle.std.proofs.Common.{◌≡◌, ◌⊎◌, inl, inr, ℕ, ◌<◌, true, false, List, Some, None, IsTrue, refl, sym, ap, ◌∙◌, arith}
use Rattle.std.specs.Option.{option_or}
use Rattle.std.specs.FinMap as finite
use Rattle.std.specs.FinSet as set
use Rattle.bk_record.specs.Key.{EntryKey}
use Rattle.bk_cache.specs.Caches as caches
use Rattle.sha2.specs.Sha256.{sha256}
use Rattle.bk_store.specs.Contents.{written_at}
use Rattle.bk_store.specs.Fronts.{AreDurable, IsDurableEntry}
use Rattle.bk_store.specs.Invariant.{StoreInvariant}
use Rattle.bk_store.specs.State.{StoreParts}
use Rattle.bk_store.specs.Trail.{HasAddMark, HasDigest}
use Rattle.bk_store.proofs.Cases.{some_value}
use Rattle.bk_store.proofs.OneEntry.{one_payload}

module _ (p : StoreParts) (keeps : StoreInvariant p) (honest : IsTrue p.state.honest) where
  -- no write cache has a key that was added below the durable front
  unwritten : (number : ℕ) (key : EntryKey) (digest : List ℕ) → number < p.state.fronts.durable → HasAddMark p.state.ledgers.trail number key digest
      → written_at p.state key ≡ None
  unwritten number key digest below at =
      let order = keeps.fronts.order in
      ap (λ o. option_or o (finite.get (caches.flush_of p.state.caches) key)) (keeps.fronts.taken honest number key digest (omega arith) at)
      ∙ keeps.fronts.flushed honest number key digest below at

  -- the entry of a mark of a live ledger is in the map
  pub marked_entry : (number : ℕ) (key : EntryKey) (digest : List ℕ) → HasAddMark p.state.ledgers.trail number key digest
      → set.contains p.state.ledgers.dead key.ledger ≡ false → HasDigest (keeps.promises honest).map.carried key digest
  marked_entry number key digest at alive =
      (keeps.promises honest).map.replays.has number key digest at
      (λ out. let wrong : true ≡ false = sym (keeps.fits.ledgers.gone key.ledger out) ∙ alive in cc)

  pub durable_entry : (number : ℕ) (key : EntryKey) (digest : List ℕ) → number < p.state.fronts.durable → HasAddMark p.state.ledgers.trail number key digest
      → set.contains p.state.ledgers.dead key.ledger ≡ false → IsDurableEntry p.state.index p.state.logs key digest
  durable_entry number key digest below at alive =
      let promises = keeps.promises honest in
      let carries = promises.map.carries in
      let had = marked_entry number key digest at alive in
      let place = some_value (finite.get p.state.index key) (carries.covered key had.0 had.1 (unwritten number key digest below at)) in
      let entry = carries.indexed key place.0 place.1 in
      let shown = promises.shows.shown key place.0 place.1 in
      let same : shown.0 ≡ entry.payload = one_payload (promises.shows.stands place.0 key shown.0 shown.1) entry.stands in
      let both : Some had.0 ≡ Some entry.payload = sym had.1 ∙ entry.mapped in
      let one : had.0 ≡ entry.payload = cc in
      record {
        place = place.0;
        payload = shown.0;
        sent = place.1;
        shown = shown.1;
        digest_is = had.2 ∙ ap sha256 (one ∙ sym same);
      }

  pub durable_means : AreDurable p.state.fronts.durable p.state.index p.state.logs p.state.ledgers
  durable_means number key digest below at =
      elim (set.contains p.state.ledgers.dead key.ledger) as (λ b. set.contains p.state.ledgers.dead key.ledger ≡ b
      → (b ≡ true) ⊎ IsDurableEntry p.state.index p.state.logs key digest) [
        | true ↦ λ _. inl refl
        | false ↦ λ alive. inr (durable_entry number key digest below at alive)
      ] refl
