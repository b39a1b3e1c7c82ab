-- A key of the flush that is indexed preserves the store invariant.
use Rattle.std.proofs.Common.{◌≡◌, inl, inr, ℕ, ◌+◌, ◌-◌, ◌≤◌, Bool, true, false, cond, eqb, IsTrue, List, [], Option, Some, None}
use Rattle.std.proofs.Common.{option_map, unwrap_or, Result, Ok, Err, refl, sym, ap, subst, ◌∙◌, arith}
use Rattle.std.specs.Option.{option_map_or}
use Rattle.std.specs.FinMap as finite
use Rattle.std.specs.FinSet as set
use Rattle.std.proofs.lemmas.Bool.{eqb-true, eq-eqb}
use Rattle.bk_record.specs.Key.{EntryKey}
use Rattle.bk_record.specs.Location.{Place}
use Rattle.bk_record.specs.Files.{file_of, header_length}
use Rattle.bk_record.specs.Keyed.{Places, log_count, counted_in}
use Rattle.bk_record.proofs.KeyedCounts.{log_count-insert, log_count-new, log_count-remove}
use Rattle.bk_cache.specs.Caches as caches
use Rattle.bk_cache.specs.Invariant.{IsSound}
use Rattle.bk_cache.specs.Recents.{Recents, recent_of}
use Rattle.bk_cache.proofs.CallerLaws.{recent_of-remembered}
use Rattle.bk_accounts.specs.Book.{Book, named_in, total_in, after_unname}
use Rattle.bk_accounts.specs.Sums.{AreSums}
use Rattle.bk_accounts.proofs.BookLaws.{named_in-after_name, named_in-after_unname, total_in-after_name, total_in-after_unname}
use Rattle.bk_accounts.proofs.CallerLaws.{sums_name, sums_unname}
use Rattle.bk_store.specs.Entries.{HasEntry}
use Rattle.bk_store.specs.Logs.{View, Log, HasOpenView, is_open, open_parts, published_part}
use Rattle.bk_store.specs.State.{State, StoreParts}
use Rattle.bk_store.specs.Invariant.{StoreInvariant, StructuralInvariant, ContentInvariant, entry_measure, acknowledged_entries}
use Rattle.bk_store.specs.Primitives.{CanIndexEntry, IndexEntryTransition, IsRecentAfter}
use Rattle.bk_store.specs.Internals.{IndexEntryInternals, parts_after_relocate}
use Rattle.bk_store.proofs.KeyMaps.{inserted_cases}
use Rattle.bk_store.proofs.Growing.{entry_same}
use Rattle.bk_store.proofs.IndexMoves.{carries_sent}
use Rattle.bk_store.proofs.PublishedMoves.{shows_sent}
use Rattle.bk_store.proofs.RemovedFiles.{harmless_sent}
use Rattle.bk_store.proofs.InvariantNotePlace.{flush_written}
use Rattle.bk_store.proofs.JobStays.{job_stays, job_unflushed}

-- ---- the accounts

pub total_renamed : (book : Book) (was : Option Place) (place : Place) (q : ℕ) → total_in (parts_after_relocate book was place) q ≡ total_in book q
total_renamed book None place q = total_in-after_name book place.log q
total_renamed book (Some old) place q = total_in-after_name (after_unname book old.log) place.log q ∙ total_in-after_unname book old.log q

eqb_back : (a b : ℕ) → eqb a b ≡ eqb b a
eqb_back a b = elim (eqb a b) as (λ t. eqb a b ≡ t → t ≡ eqb b a) [
  | true ↦ λ tied. sym (eq-eqb b a (sym (eqb-true a b tied)))
  | false ↦ λ other. elim (eqb b a) as (λ t. eqb b a ≡ t → false ≡ t) [
    | true ↦ λ tied. absurd (let back = eq-eqb a b (sym (eqb-true b a tied)) in let both : true ≡ false = sym back ∙ other in cc)
    | false ↦ λ _. refl
  ] refl
] refl

-- one more index entry of a log, as it is counted
one_name : (place : Place) (q n m : ℕ) → n ≡ m + counted_in (Some place) q → n ≡ cond (eqb q place.log) (m + 1) m
one_name place q n m is = elim (eqb q place.log) as (λ b. eqb q place.log ≡ b → n ≡ cond b (m + 1) m) [
  | true ↦ λ tied. is ∙ ap (λ b. m + cond b 1 0) (eqb_back place.log q ∙ tied)
  | false ↦ λ other.
      let zero : counted_in (Some place) q ≡ 0 = ap (λ b. cond b 1 0) (eqb_back place.log q ∙ other) in
      omega (arith, is, zero)
] refl

module _ (index : Places) (key : EntryKey) (place : Place) where
  abbrev later : ℕ → ℕ
  later q = log_count (finite.insert index key place) q

  -- the index entries of each log without this key's
  abbrev others : ℕ → ℕ
  others q = log_count (finite.remove index key) q

  later_is : (q : ℕ) → later q ≡ cond (eqb q place.log) (others q + 1) (others q)
  later_is q = one_name place q (later q) (others q)
      (let in_all = log_count-insert index key place q in let out = log_count-remove index key q in omega (arith, in_all, out))

  was_is : (old : Place) → finite.get index key ≡ Some old → (q : ℕ) → log_count index q ≡ cond (eqb q old.log) (others q + 1) (others q)
  was_is old there q = one_name old q (log_count index q) (others q)
      (let out = log_count-remove index key q in let counted = ap (λ o. counted_in o q) there in omega (arith, out, counted))

  new_is : finite.get index key ≡ None → (q : ℕ) → later q ≡ cond (eqb q place.log) (log_count index q + 1) (log_count index q)
  new_is none q = one_name place q (later q) (log_count index q) (log_count-new index key place q none)

  -- the counts of the accounts move with the index
  named_plus : (o : Option Log) (b : Bool) (n m : ℕ) → m ≡ cond b (n + 1) n → option_map (λ k. cond b (k + 1) k) (option_map (λ _. n) o) ≡ option_map (λ _. m) o
  named_plus None b n m is = refl
  named_plus (Some l) b n m is = ap (λ k. Some k) (sym is)

  named_minus : (o : Option Log) (b : Bool) (n m : ℕ) → n ≡ cond b (m + 1) m
      → option_map (λ k. cond b (k - 1) k) (option_map (λ _. n) o) ≡ option_map (λ _. m) o
  named_minus None b n m is = refl
  named_minus (Some l) true n m is = ap (λ k. Some k) (omega (arith, is))
  named_minus (Some l) false n m is = ap (λ k. Some k) is

  pub names_move : (book : Book) (logs : ℕ → Option Log) → ((q : ℕ) → named_in book q ≡ option_map (λ _. log_count index q) (logs q))
      → (was : Option Place) → finite.get index key ≡ was → (q : ℕ) → named_in (parts_after_relocate book was place) q ≡ option_map (λ _. later q) (logs q)
  names_move book logs named None none q =
      named_in-after_name book place.log q ∙ ap (option_map (λ k. cond (eqb q place.log) (k + 1) k)) (named q)
      ∙ named_plus (logs q) (eqb q place.log) (log_count index q) (later q) (new_is none q)
  names_move book logs named (Some old) there q =
      named_in-after_name (after_unname book old.log) place.log q
      ∙ ap (option_map (λ k. cond (eqb q place.log) (k + 1) k))
      (named_in-after_unname book old.log q ∙ ap (option_map (λ k. cond (eqb q old.log) (k - 1) k)) (named q)
      ∙ named_minus (logs q) (eqb q old.log) (log_count index q) (others q) (was_is old there q))
      ∙ named_plus (logs q) (eqb q place.log) (others q) (later q) (later_is q)

  pub sums_move : (book : Book) (is_dead : ℕ → Bool) (entries : ℕ → Option (List (ℕ × List ℕ)))
      → AreSums entry_measure is_dead entries (log_count index) book → (was : Option Place) → finite.get index key ≡ was
      → AreSums entry_measure is_dead entries (log_count (finite.insert index key place)) (parts_after_relocate book was place)
  sums_move book is_dead entries sums None none = sums_name entry_measure sums place.log later (new_is none)
  sums_move book is_dead entries sums (Some old) there =
      sums_name entry_measure (sums_unname entry_measure sums old.log others (was_is old there)) place.log later later_is

-- ---- the transition

module _ (p : StoreParts) (keeps : StoreInvariant p) (key : EntryKey) (place : Place) (may : CanIndexEntry p.state key place) (sound : IsSound p.state.caches)
    (payload : List ℕ) (flushing : finite.get (caches.flush_of p.state.caches) key ≡ Some payload) (recents : Recents)
    (after : IsRecentAfter p.state.caches.recent key payload recents) where
  abbrev named : StoreParts
  named = record p {
    state = record p.state { index = finite.insert p.state.index key place; caches = record p.state.caches { recent = recents } };
    accounts = parts_after_relocate p.accounts (finite.get p.state.index key) place;
  }

  named_fits : StructuralInvariant named
  named_fits =
      let fits = keeps.fits in
      let shown = may.shown in
      record {
        limits = fits.limits;
        logs = fits.logs;
        sent = λ k pl is. elim (inserted_cases p.state.index key place k pl is) [
          | inl here ↦ subst (λ (x : Place). HasOpenView p.state.logs x.log) here.1
              (record { log = shown.log; view = shown.view; held = shown.held; opened = shown.opened; view_is = shown.view_is })
          | inr old ↦ fits.sent k pl old.1
        ];
        placed = fits.placed;
        ledgers = fits.ledgers;
        accounts = record {
          named = names_move p.state.index key place p.accounts (finite.get p.state.logs) fits.accounts.named (finite.get p.state.index key) refl;
          total = λ id log is. subst (λ n. n + header_length ≤ log.acknowledged)
              (sym (ap (λ o. unwrap_or o 0) (total_renamed p.accounts (finite.get p.state.index key) place id))) (fits.accounts.total id log is);
        };
      }

  -- the log's published part is its file
  part_is : (honest : IsTrue p.state.honest) → file_of p.state.files place.log ≡ open_parts p.state.logs place.log
  part_is honest =
      let shown = may.shown in
      ap (λ (o : Option (List ℕ)). unwrap_or o []) (shown.whole honest)
      ∙ sym (ap (λ o. option_map_or (λ (l : Log). cond (is_open l.state) (published_part l) []) o []) shown.held
      ∙ (λ i. cond (shown.opened i) (option_map_or (λ (v : View). v.bytes) (shown.view_is i) []) []))

  named_promises : IsTrue p.state.honest → ContentInvariant p → ContentInvariant named
  named_promises honest reveal_invariant =
      let written = flush_written p.state key payload sound.apart flushing in
      let mapped = reveal_invariant.map.carries.cached_is key payload written in
      let was = reveal_invariant.placed key place may.placed in
      let both : Some was.payload ≡ Some payload = sym was.flushing ∙ flushing in
      let same : was.payload ≡ payload = cc in
      let stands = subst (λ b. HasEntry (file_of p.state.files) place key b) same was.stands in
      record {
        map = record {
          carried = reveal_invariant.map.carried;
          carries = carries_sent reveal_invariant.map.carries key place (record { payload = payload; stands = stands; mapped = mapped })
              (λ old none _. absurd (let wrong : None ≡ Some payload = sym none ∙ written in cc));
          harmless = harmless_sent reveal_invariant.map.harmless key place
              (λ old none _. absurd (let wrong : None ≡ Some payload = sym none ∙ written in cc));
          recent = λ k b is. elim after [
            | inl kept ↦ reveal_invariant.map.recent k b (ap (λ r. recent_of r k) (sym kept) ∙ is)
            | inr new ↦ elim (recent_of-remembered p.state.caches.recent key payload k b (ap (λ r. recent_of r k) (sym new) ∙ is)) [
              | inl old ↦ reveal_invariant.map.recent k b old
              | inr here ↦ ap (finite.get reveal_invariant.map.carried) here.0 ∙ mapped ∙ ap (λ (x : List ℕ). Some x) (sym here.1)
            ]
          ];
          replays = reveal_invariant.map.replays;
        };
        shows = shows_sent reveal_invariant.shows key place (payload, entry_same place key payload (part_is honest) stands);
        counted = sums_move p.state.index key place p.accounts (set.contains p.state.ledgers.dead) (acknowledged_entries p.state.files p.state.logs) reveal_invariant.counted
            (finite.get p.state.index key) refl;
        logs = reveal_invariant.logs;
        placed = reveal_invariant.placed;
      }

  pub named_kept : StoreInvariant named
  named_kept = record {
    fits = named_fits;
    job = λ job is.
        let of = keeps.fits.placed.logs key place may.placed in
        let apart = job_unflushed p.state job (keeps.job job is) place.log of.log of.held of.flushed in
        job_stays p.state named.state job (record {
          honest = refl;
          source = refl;
          copy = refl;
          named = λ _ k pl now own. elim (inserted_cases p.state.index key place k pl now) [
            | inl here ↦ absurd (apart.0 (sym own ∙ ap (λ (x : Place). x.log) (sym here.1)))
            | inr old ↦ old.1
          ];
          stands = λ _ pl k b own entry. entry;
        }) (keeps.job job is);
    fronts = keeps.fronts;
    promises = λ honest. named_promises honest (keeps.promises honest);
  }

pub keeps_name : {E : Type 0} (p q : StoreParts) (key : EntryKey) (place : Place) (result : Result (Unit {0}) E) → StoreInvariant p → CanIndexEntry p.state key place
    → IndexEntryTransition p.state key place result q.state → IndexEntryInternals p key place result q → StoreInvariant q
keeps_name p q key place (Ok _) keeps may turn beside =
    subst StoreInvariant (sym (beside.1 ∙ ap (λ (s : State). record p { state = s; accounts = parts_after_relocate p.accounts (finite.get p.state.index key) place }) turn.3))
    (named_kept p keeps key place may beside.0 turn.0 turn.1 q.state.caches.recent turn.2)
keeps_name p q key place (Err _) keeps may turn beside = subst StoreInvariant (sym beside) keeps
