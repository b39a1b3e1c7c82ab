-- Room is made in an account, and a place is noted: a store keeps what it keeps.
use Rattle.std.proofs.Common.{◌≡◌, inl, inr, ℕ, ◌+◌, ◌≤◌, true, false, IsTrue, List}
use Rattle.std.proofs.Common.{Option, Some, None, IsSome, is_some, unwrap_or, Less, sym, ap, subst, ◌∙◌, arith}
use Rattle.std.specs.Option.{option_or}
use Rattle.std.specs.FinMap as finite
use Rattle.std.proofs.lemmas.Option.{same_Some}
use Rattle.bk_record.specs.Key.{EntryKey, key_cmp}
use Rattle.bk_record.specs.Location.{Place}
use Rattle.bk_record.specs.Record.{key_of}
use Rattle.bk_record.specs.Files.{file_of, header_length, In}
use Rattle.bk_record.specs.Scan.{Payloads}
use Rattle.bk_log.specs.Writing as writers
use Rattle.bk_log.specs.Growing.{put_record}
use Rattle.bk_cache.specs.Caches as caches
use Rattle.bk_accounts.specs.Book.{Book, total_at, after_ready}
use Rattle.bk_accounts.proofs.BookLaws.{total_in-after_ready, named_in-after_ready}
use Rattle.bk_accounts.proofs.CallerLaws.{sums_ready}
use Rattle.bk_store.specs.Entries.{HasEntry}
use Rattle.bk_store.specs.Logs.{IsFlushLog}
use Rattle.bk_store.specs.State.{State, StoreParts}
use Rattle.bk_store.specs.Contents.{written_at}
use Rattle.bk_store.specs.Invariant.{StoreInvariant, entry_measure}
use Rattle.bk_store.specs.Primitives.{IsIn, state_with_place}
use Rattle.bk_store.specs.declared.log.LogState.TheVariants.{Writing}
use Rattle.bk_store.proofs.Cases.{some_or_none}
use Rattle.bk_store.proofs.KeyMaps.{get-insert_other, inserted_cases, inserted_here, same_key}
use Rattle.bk_store.proofs.InvariantParts.{with_state}

-- a key of the flush has there what the write caches have of it
pub flush_held : (held : caches.CacheState) (key : EntryKey) (payload : List ℕ) → caches.AreApart held → finite.get (caches.flush_of held) key ≡ Some payload
    → caches.write_cached_payload held key ≡ Some payload
flush_held held key payload apart there = elim (some_or_none (finite.get held.active key)) [
  | inl none ↦ ap (λ o. option_or o (finite.get (caches.flush_of held) key)) none ∙ there
  | inr active ↦ absurd (let none = apart key (ap is_some active.1) in cc)
]

pub flush_written : (s : State) (key : EntryKey) (payload : List ℕ) → caches.AreApart s.caches → finite.get (caches.flush_of s.caches) key ≡ Some payload
    → written_at s key ≡ Some payload
flush_written s key payload = flush_held s.caches key payload

-- the record that is put has what the map has
pub put_mapped : (map : Payloads) (w : writers.Writing) (key : EntryKey) (payload : List ℕ) → key_of payload ≡ Some key → finite.get map key ≡ Some payload
    → (at : ℕ) (b : List ℕ) (k : EntryKey) → In (at, b) (put_record w payload) → key_of b ≡ Some k → finite.get map k ≡ Some b
put_mapped map w key payload keyed mapped at b k there is_key = elim there [
  | inr never ↦ absurd never
  | inl here ↦
      let same : payload ≡ b = ap (λ (r : ℕ × List ℕ). r.1) here in
      let one : key ≡ k = same_Some key k (sym keyed ∙ ap key_of same ∙ is_key) in
      ap (λ x. finite.get map x) (sym one) ∙ mapped ∙ ap (λ (x : List ℕ). Some x) same
]

-- ---- room is made in an account

pub total_readied : (book : Book) (log ledger q : ℕ) → total_at (after_ready book log ledger) q ≡ total_at book q
total_readied book log ledger q = ap (λ o. unwrap_or o 0) (total_in-after_ready book log ledger q)

pub keeps_ready : (p : StoreParts) (log ledger : ℕ) → StoreInvariant p → StoreInvariant (record p { accounts = after_ready p.accounts log ledger })
keeps_ready p log ledger keeps =
    let fits = keeps.fits in
    record {
      fits = record {
        limits = fits.limits;
        logs = fits.logs;
        sent = fits.sent;
        placed = fits.placed;
        ledgers = fits.ledgers;
        accounts = record {
          named = λ q. named_in-after_ready p.accounts log ledger q ∙ fits.accounts.named q;
          total = λ q l is. subst (λ n. n + header_length ≤ l.acknowledged) (sym (total_readied p.accounts log ledger q)) (fits.accounts.total q l is);
        };
      };
      job = keeps.job;
      fronts = keeps.fronts;
      promises = λ honest.
          let reveal_invariant = keeps.promises honest in
          record {
            map = reveal_invariant.map;
            shows = reveal_invariant.shows;
            counted = sums_ready entry_measure reveal_invariant.counted log ledger;
            logs = reveal_invariant.logs;
            placed = reveal_invariant.placed;
          };
    }

-- ---- a place is noted

pub keeps_noted : (p : StoreParts) (key : EntryKey) (payload : List ℕ) (place : Place) → StoreInvariant p → finite.get (caches.flush_of p.state.caches) key ≡ Some payload
    → IsIn p.state place.log Writing → finite.get p.state.places key ≡ None
    → ((earlier : EntryKey) → key_cmp earlier key ≡ Less → IsSome (finite.get (caches.flush_of p.state.caches) earlier)
    → IsSome (finite.get p.state.places earlier))
    → (IsTrue p.state.honest → HasEntry (file_of p.state.files) place key payload)
    → StoreInvariant (with_state p (state_with_place p.state key place))
keeps_noted p key payload place keeps flushing in_log unplaced first stands =
    let fits = keeps.fits in
    let still : (q : EntryKey) → IsSome (finite.get p.state.places q) → IsSome (finite.get (finite.insert p.state.places key place) q) =
    λ q there. elim (same_key q key) [
      | inl here ↦ ap is_some (inserted_here p.state.places key place q here)
      | inr apart ↦ ap is_some (get-insert_other p.state.places key place q apart) ∙ there
    ] in
    let not_above : (k : EntryKey) (pl : Place) → finite.get (finite.insert p.state.places key place) k ≡ Some pl → pl.log ≤ place.log =
    λ k pl is. elim (inserted_cases p.state.places key place k pl is) [
      | inl here ↦ subst (λ (x : Place). x.log ≤ place.log) here.1 (omega arith)
      | inr old ↦ fits.placed.newest place.log in_log.log in_log.held in_log.state_is k pl old.1
    ] in
    record {
      fits = record {
        limits = fits.limits;
        logs = fits.logs;
        sent = fits.sent;
        placed = record {
          idle = λ none.
              let gone = ap (λ f. finite.get (caches.flush_of (record p.state.caches { flush = f })) key) none ∙ finite.get-empty key_cmp key in
              let wrong : ◌≡◌ {A = Option (List ℕ)} (Some payload) None = sym flushing ∙ gone in
              cc;
          flushing = λ k pl is. elim (inserted_cases p.state.places key place k pl is) [
            | inl here ↦ ap (λ (x : EntryKey). is_some (finite.get (caches.flush_of p.state.caches) x)) here.0 ∙ ap is_some flushing
            | inr old ↦ fits.placed.flushing k pl old.1
          ];
          logs = λ k pl is. elim (inserted_cases p.state.places key place k pl is) [
            | inl here ↦ subst (λ (x : Place). IsFlushLog p.state.logs x.log) here.1
                (record { log = in_log.log; held = in_log.held; flushed = inl in_log.state_is })
            | inr old ↦ fits.placed.logs k pl old.1
          ];
          front = λ k earlier pl is less there. elim (inserted_cases p.state.places key place k pl is) [
            | inl here ↦ still earlier (first earlier (ap (λ (x : EntryKey). key_cmp earlier x) (sym here.0) ∙ less) there)
            | inr old ↦ still earlier (fits.placed.front k earlier pl old.1 less there)
          ];
          rising = λ k later pl other is there less. elim (inserted_cases p.state.places key place later other there) [
            | inl last ↦ subst (λ (x : Place). pl.log ≤ x.log) last.1 (not_above k pl is)
            | inr was ↦ elim (inserted_cases p.state.places key place k pl is) [
              | inr old ↦ fits.placed.rising k later pl other old.1 was.1 less
              | inl here ↦
                  let had = fits.placed.front later key other was.1 (ap (λ (x : EntryKey). key_cmp x later) (sym here.0) ∙ less) (ap is_some flushing) in
                  absurd (let both : true ≡ false = sym had ∙ ap is_some unplaced in cc)
            ]
          ];
          newest = λ id log held now k pl is.
              let one : Some id ≡ Some place.log = sym ((fits.logs.writing id).1 (log, held, now))
              ∙ (fits.logs.writing place.log).1 (in_log.log, in_log.held, in_log.state_is) in
              subst (λ n. pl.log ≤ n) (sym (same_Some id place.log one)) (not_above k pl is);
        };
        ledgers = fits.ledgers;
        accounts = fits.accounts;
      };
      job = keeps.job;
      fronts = keeps.fronts;
      promises = λ honest.
          let reveal_invariant = keeps.promises honest in
          record {
            map = reveal_invariant.map;
            shows = reveal_invariant.shows;
            counted = reveal_invariant.counted;
            logs = reveal_invariant.logs;
            placed = λ k pl is. elim (inserted_cases p.state.places key place k pl is) [
              | inl here ↦ record {
                payload = payload;
                flushing = ap (λ (x : EntryKey). finite.get (caches.flush_of p.state.caches) x) here.0 ∙ flushing;
                stands = subst (λ x. HasEntry (file_of p.state.files) x k payload) here.1
                    (subst (λ x. HasEntry (file_of p.state.files) place x payload) (sym here.0) (stands honest));
              }
              | inr old ↦
                  let was = reveal_invariant.placed k pl old.1 in
                  record { payload = was.payload; flushing = was.flushing; stands = was.stands }
            ];
          };
    }
