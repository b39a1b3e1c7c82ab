-- A key that is relocated to a later log preserves the store invariant.
use Rattle.std.proofs.Common.{◌≡◌, inl, inr, ◌+◌, ◌≤◌, ◌<◌, Bool, true, false, IsTrue}
use Rattle.std.proofs.Common.{Some, unwrap_or, refl, sym, ap, subst, ◌∙◌, arith}
use Rattle.std.specs.FinMap as finite
use Rattle.std.specs.FinSet as set
use Rattle.std.proofs.lemmas.Option.{none-some, same_Some}
use Rattle.bk_record.specs.Key.{EntryKey}
use Rattle.bk_record.specs.Location.{Place}
use Rattle.bk_record.specs.Files.{file_of, header_length}
use Rattle.bk_store.specs.Representation.{IsIndexed}
use Rattle.bk_store.specs.Logs.{HasOpenView}
use Rattle.bk_store.specs.State.{StoreParts}
use Rattle.bk_store.specs.Invariant.{StoreInvariant, StructuralInvariant, ContentInvariant, acknowledged_entries}
use Rattle.bk_store.specs.CompactionPrimitives.{CanRelocate, RelocateTransition}
use Rattle.bk_store.specs.Internals.{RelocateInternals, parts_after_index}
use Rattle.bk_store.proofs.KeyMaps.{inserted_cases}
use Rattle.bk_store.proofs.IndexMoves.{IsForward, carries_sent}
use Rattle.bk_store.proofs.RemovedFiles.{harmless_sent}
use Rattle.bk_store.proofs.PublishedMoves.{shows_sent}
use Rattle.bk_store.proofs.InvariantIndexEntry.{total_renamed, names_move, sums_move}

module _ (p : StoreParts) (keeps : StoreInvariant p) (key : EntryKey) (from_place to_place : Place) (may : CanRelocate p.state key from_place to_place)
    (there : finite.get p.state.index key ≡ Some from_place) where
  sent_fits : StructuralInvariant (parts_after_index p key to_place)
  sent_fits =
      let fits = keeps.fits in
      record {
        limits = fits.limits;
        logs = fits.logs;
        sent = λ k pl is. elim (inserted_cases p.state.index key to_place k pl is) [
          | inl here ↦ subst (λ (x : Place). HasOpenView p.state.logs x.log) here.1 may.seen
          | inr old ↦ fits.sent k pl old.1
        ];
        placed = fits.placed;
        ledgers = fits.ledgers;
        accounts = record {
          named = names_move p.state.index key to_place p.accounts (finite.get p.state.logs) fits.accounts.named (finite.get p.state.index key) refl;
          total = λ id log is. subst (λ n. n + header_length ≤ log.acknowledged)
              (sym (ap (λ o. unwrap_or o 0) (total_renamed p.accounts (finite.get p.state.index key) to_place id))) (fits.accounts.total id log is);
        };
      }

  -- the entry at the new place has what the map has, since the index named an older one
  arrives : IsTrue p.state.honest → (reveal_invariant : ContentInvariant p) → IsIndexed (file_of p.state.files) reveal_invariant.map.carried key to_place
  arrives honest reveal_invariant =
      let shown = may.stands honest in
      let stands = reveal_invariant.shows.stands to_place key shown.0 shown.1 in
      let old = reveal_invariant.map.carries.indexed key from_place there in
      let alive = reveal_invariant.map.carries.lives key old.payload old.mapped in
      elim (reveal_invariant.map.carries.recorded to_place key shown.0 stands alive) [
        | inl mapped ↦ record { payload = shown.0; stands = stands; mapped = mapped }
        | inr stale ↦ absurd (
            let same : stale.behind ≡ from_place = same_Some stale.behind from_place (sym stale.sent ∙ there) in
            let logs = ap (λ (x : Place). x.log) same in
            let later = may.later in
            elim stale.later [
              | inl before ↦ omega (arith, before, logs, later)
              | inr tied ↦ let here = tied.0 in omega (arith, here, logs, later)
            ])
      ]

  -- the key goes forward
  goes_forward : (was : Place) → finite.get p.state.index key ≡ Some was → IsForward was to_place
  goes_forward was is =
      let same : was ≡ from_place = same_Some was from_place (sym is ∙ there) in
      inr (inl (subst (λ (x : Place). x.log < to_place.log) (sym same) may.later))

  sent_promises : IsTrue p.state.honest → ContentInvariant p → ContentInvariant (parts_after_index p key to_place)
  sent_promises honest reveal_invariant = record {
    map = record {
      carried = reveal_invariant.map.carried;
      carries = carries_sent reveal_invariant.map.carries key to_place (arrives honest reveal_invariant) (λ was _ is. goes_forward was is);
      harmless = harmless_sent reveal_invariant.map.harmless key to_place (λ was _ is. goes_forward was is);
      recent = reveal_invariant.map.recent;
      replays = reveal_invariant.map.replays;
    };
    shows = shows_sent reveal_invariant.shows key to_place (may.stands honest);
    counted = sums_move p.state.index key to_place p.accounts (set.contains p.state.ledgers.dead) (acknowledged_entries p.state.files p.state.logs) reveal_invariant.counted
        (finite.get p.state.index key) refl;
    logs = reveal_invariant.logs;
    placed = reveal_invariant.placed;
  }

  sent_kept : StoreInvariant (parts_after_index p key to_place)
  sent_kept = record {
    fits = sent_fits;
    job = λ job is. absurd (none-some job (sym may.no_job ∙ is));
    fronts = keeps.fronts;
    promises = λ honest. sent_promises honest (keeps.promises honest);
  }

pub keeps_rename : (p q : StoreParts) (key : EntryKey) (from_place to_place : Place) (result : Bool) → StoreInvariant p → CanRelocate p.state key from_place to_place
    → RelocateTransition p.state key from_place to_place result q.state → RelocateInternals p key to_place result q → StoreInvariant q
keeps_rename p q key from_place to_place true keeps may turn beside = subst StoreInvariant (sym beside) (sent_kept p keeps key from_place to_place may turn.0)
keeps_rename p q key from_place to_place false keeps may turn beside = subst StoreInvariant (sym beside) keeps
