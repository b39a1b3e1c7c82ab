-- An add preserves the store invariant.
use Rattle.std.proofs.Common.{◌≡◌, ◌≢◌, ℕ, List, Option, Some, None, false, Result, Ok, Err, is_some, ◌||◌, refl, sym, ap, subst, ◌∙◌}
use Rattle.std.specs.Option.{option_or}
use Rattle.std.specs.Result.{result_unwrap_or}
use Rattle.std.specs.FinMap as finite
use Rattle.std.specs.FinSet as set
use Rattle.bk_record.specs.Key.{EntryKey}
use Rattle.bk_record.specs.Record.{read_added}
use Rattle.bk_record.specs.Files.{file_of}
use Rattle.bk_record.specs.Scan.{Payloads}
use Rattle.bk_cache.specs.Caches as caches
use Rattle.bk_store.specs.Representation.{Represents}
use Rattle.bk_store.specs.Ledgers.{with_add}
use Rattle.bk_store.specs.State.{State, StoreParts}
use Rattle.bk_store.specs.Contents.{written_at, holds}
use Rattle.bk_store.specs.Transitions.{AddTransition}
use Rattle.bk_store.specs.Invariant.{StoreInvariant, ContentInvariant}
use Rattle.bk_store.specs.declared.adding.AddKind.{AddKind}
use Rattle.bk_store.specs.declared.answer.Added.{Added}
use Rattle.bk_store.specs.declared.answer.Added.TheVariants.{Accepted, Held}
use Rattle.bk_store.specs.declared.answer.AddFault.{AddFault}
use Rattle.bk_store.specs.declared.answer.AddFault.TheVariants as add_faults
use Rattle.bk_store.proofs.KeyMaps.{get-insert_other, inserted_here}
use Rattle.bk_store.proofs.RepresentedContents.{unheld_unmapped}
use Rattle.bk_store.proofs.CachedMoves.{carries_added}
use Rattle.bk_store.proofs.RemovedFiles.{harmless_added}
use Rattle.bk_store.proofs.TrailMoves.{never_came, replays_added, follows_added}
use Rattle.bk_store.proofs.InvariantParts.{with_state, keeps_same}
use Rattle.bk_store.proofs.FrontMoves.{fronts_added}

not_held : (s : State) (key : EntryKey) → holds s key ≡ false → (written_at s key ≡ None) × (finite.get s.index key ≡ None)
not_held s key is =
    elim (written_at s key) as (λ o. (is_some o || is_some (finite.get s.index key)) ≡ false → (o ≡ None) × (finite.get s.index key ≡ None)) [
      | Some b ↦ λ wrong. cc
      | None ↦ elim (finite.get s.index key) as (λ o. is_some o ≡ false → (◌≡◌ {A = Option (List ℕ)} None None) × (o ≡ None)) [
        | Some b ↦ λ wrong. cc
        | None ↦ λ _. (refl, refl)
      ]
    ] is

module _ (p : StoreParts) (payload : List ℕ) (key : EntryKey) (reads : read_added payload ≡ Ok key) (keeps : StoreInvariant p)
    (alive : set.contains p.state.ledgers.dead key.ledger ≡ false) (unheld : holds p.state key ≡ false) where
  abbrev added : StoreParts
  added = with_state p (record p.state { caches = caches.with_added p.state.caches payload; ledgers = with_add p.state.ledgers key payload })

  pub is_key : caches.added_key payload ≡ key
  is_key = ap (λ r. result_unwrap_or r (record { ledger = 0; entry = 0 })) reads

  cached_here : written_at added.state key ≡ Some payload
  cached_here =
      ap (λ o. option_or o (finite.get (caches.flush_of p.state.caches) key))
      (inserted_here p.state.caches.active (caches.added_key payload) payload key (sym is_key))

  cached_else : (other : EntryKey) → other ≢ key → written_at added.state other ≡ written_at p.state other
  cached_else other apart =
      ap (λ o. option_or o (finite.get (caches.flush_of p.state.caches) other))
      (get-insert_other p.state.caches.active (caches.added_key payload) payload other (λ same. apart (same ∙ is_key)))

  pub carries_accepted : {map : Payloads} → Represents (file_of p.state.files) p.state.index (written_at p.state) p.state.ledgers.dead map
      → Represents (file_of p.state.files) p.state.index (written_at added.state) p.state.ledgers.dead (finite.insert map key payload)
  carries_accepted carries =
      let none = not_held p.state key unheld in
      carries_added carries (written_at added.state) key payload alive none.0 none.1 cached_here cached_else

  promised : ContentInvariant p → ContentInvariant added
  promised reveal_invariant =
      let none = not_held p.state key unheld in
      record {
        map = record {
          carried = finite.insert reveal_invariant.map.carried key payload;
          carries = carries_accepted reveal_invariant.map.carries;
          harmless = harmless_added reveal_invariant.map.harmless (written_at added.state) key payload reveal_invariant.map.carries none.0 none.1 cached_else;
          recent = λ k b is.
              let old = reveal_invariant.map.recent k b is in
              let missing = unheld_unmapped reveal_invariant.map.carries key none.0 none.1 in
              get-insert_other reveal_invariant.map.carried key payload k
              (λ same. let wrong : ◌≡◌ {A = Option (List ℕ)} (Some b) None = sym old ∙ ap (finite.get reveal_invariant.map.carried) same ∙ missing in cc) ∙ old;
          replays = replays_added reveal_invariant.map.replays keeps.fits.ledgers key payload alive
              (unheld_unmapped reveal_invariant.map.carries key none.0 none.1);
        };
        shows = reveal_invariant.shows;
        counted = reveal_invariant.counted;
        logs = reveal_invariant.logs;
        placed = reveal_invariant.placed;
      }

  added_kept : StoreInvariant added
  added_kept =
      let fits = keeps.fits in
      record {
        fits = record {
          limits = fits.limits;
          logs = fits.logs;
          sent = fits.sent;
          placed = fits.placed;
          ledgers = follows_added fits.ledgers key payload;
          accounts = fits.accounts;
        };
        job = keeps.job;
        fronts = fronts_added keeps.fronts (caches.added_key payload) key payload is_key (λ honest n digest.
            let map = (keeps.promises honest).map in
            let none = not_held p.state key unheld in
            never_came map.replays fits.ledgers key payload alive (unheld_unmapped map.carries key none.0 none.1) n digest);
        promises = λ honest. promised (keeps.promises honest);
      }

pub keeps_add : (p q : StoreParts) (kind : AddKind) (payload : List ℕ) (result : Result Added AddFault) → StoreInvariant p
    → AddTransition p.state kind payload result q.state → q ≡ with_state p q.state → StoreInvariant q
keeps_add p q kind payload (Err (add_faults.Bad fault)) keeps turn beside = keeps_same p q keeps beside turn.1
keeps_add p q kind payload (Err add_faults.Deleted) keeps turn beside = keeps_same p q keeps beside turn.3
keeps_add p q kind payload (Err add_faults.Fenced) keeps turn beside = keeps_same p q keeps beside turn.4
keeps_add p q kind payload (Ok Held) keeps turn beside = keeps_same p q keeps beside turn.1
keeps_add p q kind payload (Err (add_faults.Full used limit)) keeps turn beside = keeps_same p q keeps beside turn.4
keeps_add p q kind payload (Err add_faults.Memory) keeps turn beside = keeps_same p q keeps beside turn.2
keeps_add p q kind payload (Ok (Accepted receipt)) keeps turn beside =
    subst StoreInvariant (sym (beside ∙ ap (with_state p) turn.3)) (added_kept p payload turn.0.key turn.0.reads keeps turn.0.lives turn.0.held)
