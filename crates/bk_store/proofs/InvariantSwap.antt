-- A swap preserves the store invariant.
use Rattle.std.proofs.Common.{◌≡◌, inl, ℕ, List, length, Option, Some, None, refl, sym, ap, subst, ◌∙◌}
use Rattle.std.specs.Option.{option_or}
use Rattle.std.specs.FinMap as finite
use Rattle.bk_record.specs.Key.{EntryKey, key_cmp}
use Rattle.bk_cache.specs.Caches as caches
use Rattle.bk_store.specs.State.{StoreParts}
use Rattle.bk_store.specs.Contents.{written_at}
use Rattle.bk_store.specs.Transitions.{SwapTransition}
use Rattle.bk_store.specs.Invariant.{StoreInvariant, ContentInvariant}
use Rattle.bk_cache.specs.declared.swap.Swap.{Swap}
use Rattle.bk_cache.specs.declared.swap.Swap.TheVariants.{Running, Nothing, Swapped}
use Rattle.bk_store.proofs.CachedMoves.{carries_same_cached}
use Rattle.bk_store.proofs.RemovedFiles.{harmless_let_go}
use Rattle.bk_store.proofs.InvariantParts.{with_state, keeps_same, none_placed, all_unplaced}
use Rattle.bk_store.proofs.FrontMoves.{fronts_swapped, fronts_rested}

module _ (p : StoreParts) (keeps : StoreInvariant p) (idle : p.state.caches.flush ≡ None) where
  abbrev swapped : StoreParts
  swapped = with_state p (record p.state {
    caches = record p.state.caches { active = finite.empty; flush = Some p.state.caches.active };
    fronts = record p.state.fronts { swapped = length p.state.ledgers.trail };
  })

  no_places : p.state.places ≡ finite.empty
  no_places = keeps.fits.placed.idle idle

  -- a cached key was in the active cache, and is in the flushing one
  pub same_cached : (key : EntryKey) → written_at swapped.state key ≡ written_at p.state key
  same_cached key =
      ap (λ o. option_or o (finite.get p.state.caches.active key)) (finite.get-empty key_cmp key)
      ∙ either (finite.get p.state.caches.active key)
      ∙ ap (option_or (finite.get p.state.caches.active key)) (sym (ap (λ f. finite.get (caches.flush_of (record p.state.caches { flush = f })) key) idle
      ∙ finite.get-empty key_cmp key))
    where
      either : (o : Option (List ℕ)) → o ≡ option_or o None
      either None = refl
      either (Some b) = refl

  promised : ContentInvariant p → ContentInvariant swapped
  promised reveal_invariant = record {
    map = record {
      carried = reveal_invariant.map.carried;
      carries = carries_same_cached reveal_invariant.map.carries (written_at swapped.state) same_cached;
      harmless = harmless_let_go reveal_invariant.map.harmless (written_at swapped.state) (λ key. inl (same_cached key));
      recent = reveal_invariant.map.recent;
      replays = reveal_invariant.map.replays;
    };
    shows = reveal_invariant.shows;
    counted = reveal_invariant.counted;
    logs = reveal_invariant.logs;
    placed = λ key place is. absurd (none_placed p.state.places key place no_places is);
  }

  swapped_kept : StoreInvariant swapped
  swapped_kept =
      let fits = keeps.fits in
      record {
        fits = record {
          limits = fits.limits;
          logs = fits.logs;
          sent = fits.sent;
          placed = all_unplaced (Some p.state.caches.active) p.state.places p.state.logs no_places;
          ledgers = fits.ledgers;
          accounts = fits.accounts;
        };
        job = keeps.job;
        fronts = fronts_swapped keeps.fronts;
        promises = λ honest. promised (keeps.promises honest);
      }

pub keeps_swap : (p q : StoreParts) (answer : Swap) → StoreInvariant p → SwapTransition p.state answer q.state → q ≡ with_state p q.state → StoreInvariant q
keeps_swap p q Running keeps turn beside = keeps_same p q keeps beside turn.1
keeps_swap p q Nothing keeps turn beside = subst StoreInvariant (sym (beside ∙ ap (with_state p) turn.2)) (record {
  fits = keeps.fits;
  job = keeps.job;
  fronts = fronts_rested keeps.fronts turn.0 turn.1;
  promises = keeps.promises;
})
keeps_swap p q (Swapped n) keeps turn beside = subst StoreInvariant (sym (beside ∙ ap (with_state p) turn.3)) (swapped_kept p keeps turn.0)
