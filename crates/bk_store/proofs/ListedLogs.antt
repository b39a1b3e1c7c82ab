-- The next log is listed, and the store invariant is preserved.
use Rattle.std.proofs.Common.{◌≡◌, ◌≢◌, ◌⊎◌, inl, inr, ℕ, ◌+◌, ◌≤◌, ◌<◌, ◌^◌, ◌↔◌, true, false, cond, eqb, IsTrue, List}
use Rattle.std.proofs.Common.{[], length, take, Option, Some, None, is_some, option_map, unwrap_or}
use Rattle.std.proofs.Common.{refl, sym, ap, subst, ◌∙◌, arith, length-take}
use Rattle.std.specs.Option.{option_map_or}
use Rattle.std.specs.FinMap as finite
use Rattle.std.proofs.lemmas.Bool.{eqb-true, eq-eqb}
use Rattle.bk_record.specs.Key.{EntryKey}
use Rattle.bk_record.specs.Location.{Place}
use Rattle.bk_record.specs.Files.{Files, file_of, header_length, In}
use Rattle.bk_record.specs.Scan.{entries_of}
use Rattle.bk_record.specs.Keyed.{log_count}
use Rattle.bk_record.proofs.KeyedCounts.{log_count-none}
use Rattle.bk_record.proofs.EntryLists.{entries_of-short}
use Rattle.bk_log.specs.Writing as writers
use Rattle.bk_log.specs.Growing.{Gains, HasNoBadLength}
use Rattle.bk_accounts.specs.Book.{named_in, total_at, total_in, after_open}
use Rattle.bk_accounts.proofs.BookLaws.{named_in-after_open, total_in-after_open}
use Rattle.bk_accounts.proofs.CallerLaws.{sums_open}
use Rattle.bk_store.specs.Published.{IndexIsPublished}
use Rattle.bk_store.specs.Logs.{Log, is_open, open_parts, published_part}
use Rattle.bk_store.specs.State.{State, StoreParts}
use Rattle.bk_store.specs.Invariant.{StoreInvariant, StructuralInvariant, ContentInvariant, HeldLogInvariant, LogMatchesFile, entry_measure, acknowledged_entries}
use Rattle.bk_lease.specs.declared.slot.Slot.TheVariants as slots
use Rattle.bk_lease.specs.Slots.{IsFree}
use Rattle.bk_store.specs.SlotAssignment.{slot_state}
use Rattle.bk_store.specs.Primitives.{CanCreateLog, with_next, with_seat}
use Rattle.bk_store.specs.Internals.{AllStay}
use Rattle.bk_store.specs.declared.log.LogState.TheVariants.{Writing, Filled}
use Rattle.bk_store.proofs.Cases.{some_or_none, same_or_apart}
use Rattle.bk_store.proofs.Seats.{seated_new}
use Rattle.bk_store.proofs.Growing.{Grows, grows_behind, carries_grown}
use Rattle.bk_store.proofs.PublishedMoves.{shows_grown}
use Rattle.bk_store.proofs.LogMaps.{log-inserted, log-insert_else, log-insert_cases}
use Rattle.bk_store.proofs.JobStays.{job_stays, stays_same, stays_else}

-- a writer goes by its file alone
writes_same : {files files' : Files} (w : writers.Writing) → finite.get files' w.log ≡ finite.get files w.log → writers.Writes files w → writers.Writes files' w
writes_same w same writes = record {
  file = writes.file;
  records = writes.records;
  stands = same ∙ writes.stands;
  long = writes.long;
  text = writes.text;
  counted = writes.counted;
  sized = writes.sized;
  keyed = writes.keyed;
}

module _ (p : StoreParts) (keeps : StoreInvariant p) where
  abbrev next : ℕ
  next = p.state.next

  -- no log has the next id
  pub unheld : finite.get p.state.logs next ≡ None
  unheld = elim (some_or_none (finite.get p.state.logs next)) [
    | inl none ↦ none
    | inr there ↦ absurd (let below = (keeps.fits.logs.each next there.0 there.1).below in omega (arith, below))
  ]

  pub apart : (id : ℕ) (log : Log) → finite.get p.state.logs id ≡ Some log → id ≢ next
  apart id log held same = let below = (keeps.fits.logs.each id log held).below in omega (arith, below, same)

  unnamed : log_count p.state.index next ≡ 0
  unnamed = log_count-none p.state.index next (λ key place is. let seen = keeps.fits.sent key place is in apart place.log seen.log seen.held)

  -- ---- the id is used up

  held_later : (id : ℕ) (log : Log) → HeldLogInvariant next id log → HeldLogInvariant (next + 1) id log
  held_later id log was = record { below = let below = was.below in omega (arith, below); written = was.written; by = was.by }

  -- the list may go on
  pub keeps_listed : (filled : List ℕ) → AllStay p.filled filled → StoreInvariant (record p { filled = filled })
  keeps_listed filled goes =
      let fits = keeps.fits in
      record {
        fits = record {
          limits = fits.limits;
          logs = record {
            seated = fits.logs.seated;
            each = fits.logs.each;
            writing = fits.logs.writing;
            filled = λ id log is flushed. goes id (fits.logs.filled id log is flushed);
          };
          sent = fits.sent;
          placed = fits.placed;
          ledgers = fits.ledgers;
          accounts = fits.accounts;
        };
        job = keeps.job;
        fronts = keeps.fronts;
        promises = keeps.promises;
      }

  pub keeps_used : (files : Files) (failures : ℕ) (filled : List ℕ) → AllStay p.filled filled → next < 2 ^ 31 → (IsTrue p.state.honest → files ≡ p.state.files)
      → StoreInvariant (record p { state = with_next p.state files failures p.state.logs p.state.keeper; filled = filled })
  keeps_used files failures filled goes room same =
      let fits = keeps.fits in
      record {
        fits = record {
          limits = record { allowed = fits.limits.allowed; limit = fits.limits.limit; ids = omega (arith, room) };
          logs = record {
            seated = fits.logs.seated;
            each = λ id log is. held_later id log (fits.logs.each id log is);
            writing = fits.logs.writing;
            filled = λ id log is flushed. goes id (fits.logs.filled id log is flushed);
          };
          sent = fits.sent;
          placed = fits.placed;
          ledgers = fits.ledgers;
          accounts = fits.accounts;
        };
        job = λ job is.
            let used = with_next p.state files failures p.state.logs p.state.keeper in
            job_stays p.state used job (stays_same p.state used job refl refl refl same) (keeps.job job is);
        fronts = keeps.fronts;
        promises = λ honest.
            let reveal_invariant = keeps.promises honest in
            subst (λ f. ContentInvariant (record p { state = with_next p.state f failures p.state.logs p.state.keeper; filled = filled })) (sym (same honest)) (record {
              map = reveal_invariant.map;
              shows = reveal_invariant.shows;
              counted = reveal_invariant.counted;
              logs = record { each = reveal_invariant.logs.each; fresh = λ id above. reveal_invariant.logs.fresh id (omega (arith, above)) };
              placed = reveal_invariant.placed;
            });
      }

  -- ---- a log is held from now on

  module _ (new : Log) (blank : new.view ≡ None) (short : new.acknowledged ≡ header_length)
      (slot : ℕ) (free : IsFree p.state.keeper.slots slot) (stands : new.slot ≡ slot) (seat : slot_state next new.state ≡ slots.Open next)
      (files : Files) (failures : ℕ) (writing : Option ℕ) (filled : List ℕ) where
    abbrev with_new : StoreParts
    with_new = record p {
      state = with_next p.state files failures (finite.insert p.state.logs next new) (with_seat p.state slot);
      accounts = after_open p.accounts next;
      writing = writing;
      filled = filled;
    }

    each_new : (P : ℕ → Log → Type 0) → P next new → ((id : ℕ) (log : Log) → finite.get p.state.logs id ≡ Some log → P id log)
        → (id : ℕ) (log : Log) → finite.get (finite.insert p.state.logs next new) id ≡ Some log → P id log
    each_new P made others id log is = elim (log-insert_cases p.state.logs next new id log is) [
      | inl here ↦ subst (λ x. P id x) here.1 (subst (λ x. P x new) (sym here.0) made)
      | inr other ↦ others id log other.1
    ]

    still_there : (id : ℕ) (log : Log) → finite.get p.state.logs id ≡ Some log → finite.get (finite.insert p.state.logs next new) id ≡ Some log
    still_there id log held = log-insert_else p.state.logs next new id (apart id log held) ∙ held

    named_now : (id : ℕ) → named_in (after_open p.accounts next) id
        ≡ option_map (λ _. log_count p.state.index id) (finite.get (finite.insert p.state.logs next new) id)
    named_now id = named_in-after_open p.accounts next id
        ∙ elim (eqb id next) as (λ b. eqb id next ≡ b → cond b (Some 0) (named_in p.accounts id)
        ≡ option_map (λ _. log_count p.state.index id) (finite.get (finite.insert p.state.logs next new) id)) [
          | true ↦ λ tied.
              let here = eqb-true id next tied in
              ap (λ n. Some n) (sym unnamed ∙ ap (log_count p.state.index) (sym here))
              ∙ sym (ap (option_map (λ _. log_count p.state.index id)) (log-inserted p.state.logs next new id here))
          | false ↦ λ other.
              keeps.fits.accounts.named id
              ∙ ap (option_map (λ _. log_count p.state.index id))
              (sym (log-insert_else p.state.logs next new id (λ same. let tied = eq-eqb id next same in cc)))
        ] refl

    total_now : (id : ℕ) → total_at (after_open p.accounts next) id ≡ cond (eqb id next) 0 (total_at p.accounts id)
    total_now id = ap (λ o. unwrap_or o 0) (total_in-after_open p.accounts next id)
        ∙ elim (eqb id next) as (λ b. unwrap_or (cond b (Some 0) (total_in p.accounts id)) 0 ≡ cond b 0 (total_at p.accounts id)) [ true ↦ refl | false ↦ refl ]

    new_fits : CanCreateLog p.state → HeldLogInvariant (next + 1) next new
        → ((id : ℕ) → (writing ≡ Some id) ↔ ((log : Log) × (finite.get (finite.insert p.state.logs next new) id ≡ Some log) × (log.state ≡ Writing)))
        → AllStay p.filled filled → ((new.state ≡ Writing) ⊎ (new.state ≡ Filled) → In next filled) → StructuralInvariant with_new
    new_fits may held writes goes listed =
        let fits = keeps.fits in
        record {
          limits = record { allowed = fits.limits.allowed; limit = fits.limits.limit; ids = let room = may.id in omega (arith, room) };
          logs = record {
            seated = seated_new p.state.settings p.state.keeper p.state.logs fits.logs.seated slot next new free unheld stands seat;
            each = each_new (λ id l. HeldLogInvariant (next + 1) id l) held (λ id l is. held_later id l (fits.logs.each id l is));
            writing = writes;
            filled = each_new (λ id l. (l.state ≡ Writing) ⊎ (l.state ≡ Filled) → In id filled) listed
                (λ id l is flushed. goes id (fits.logs.filled id l is flushed));
          };
          sent = λ key place is.
              let seen = fits.sent key place is in
              record { log = seen.log; view = seen.view; held = still_there place.log seen.log seen.held; opened = seen.opened; view_is = seen.view_is };
          placed = record {
            idle = fits.placed.idle;
            flushing = fits.placed.flushing;
            logs = λ key place is.
                let of = fits.placed.logs key place is in
                record { log = of.log; held = still_there place.log of.log of.held; flushed = of.flushed };
            front = fits.placed.front;
            rising = fits.placed.rising;
            newest = each_new (λ id l. l.state ≡ Writing → (key : EntryKey) (place : Place) → finite.get p.state.places key ≡ Some place → place.log ≤ id)
                (λ _ key place is.
                let of = fits.placed.logs key place is in
                let below = (fits.logs.each place.log of.log of.held).below in
                omega (arith, below))
                fits.placed.newest;
          };
          ledgers = fits.ledgers;
          accounts = record {
            named = named_now;
            total = each_new (λ id l. total_at (after_open p.accounts next) id + header_length ≤ l.acknowledged)
                (let zero : total_at (after_open p.accounts next) next ≡ 0 =
                total_now next ∙ ap (λ b. cond b 0 (total_at p.accounts next)) (eq-eqb next next refl) in
                omega (arith, zero, short))
                (λ id l is.
                let old = fits.accounts.total id l is in
                let same : total_at (after_open p.accounts next) id ≡ total_at p.accounts id =
                total_now id ∙ elim (eqb id next) as (λ b. eqb id next ≡ b → cond b 0 (total_at p.accounts id) ≡ total_at p.accounts id) [
                  | true ↦ λ tied. absurd (apart id l is (eqb-true id next tied))
                  | false ↦ λ _. refl
                ] refl in
                omega (arith, old, same));
          };
        }

    parts_now : (id : ℕ) → open_parts (finite.insert p.state.logs next new) id ≡ open_parts p.state.logs id
    parts_now id =
        let part : Option Log → List ℕ = λ o. option_map_or (λ (l : Log). cond (is_open l.state) (published_part l) []) o [] in
        elim (same_or_apart id next) [
          | inr other ↦ ap part (log-insert_else p.state.logs next new id other)
          | inl here ↦
              ap part (log-inserted p.state.logs next new id here)
              ∙ ap (λ v. cond (is_open new.state) (option_map_or (λ x. x.bytes) v []) []) blank
              ∙ elim (is_open new.state) as (λ b. cond {A = List ℕ} b [] [] ≡ []) [ true ↦ refl | false ↦ refl ]
              ∙ sym (ap part (ap (finite.get p.state.logs) here ∙ unheld))
        ]

    later : length (file_of files next) ≤ header_length → ((id : ℕ) → id ≢ next → finite.get files id ≡ finite.get p.state.files id)
        → (id : ℕ) → acknowledged_entries files (finite.insert p.state.logs next new) id
        ≡ cond (eqb id next) (Some []) (acknowledged_entries p.state.files p.state.logs id)
    later empty only id = elim (eqb id next) as (λ b. eqb id next ≡ b → acknowledged_entries files (finite.insert p.state.logs next new) id
        ≡ cond b (Some []) (acknowledged_entries p.state.files p.state.logs id)) [
          | true ↦ λ tied.
              let here = eqb-true id next tied in
              ap (option_map (λ (l : Log). entries_of (take l.acknowledged (file_of files id)))) (log-inserted p.state.logs next new id here)
              ∙ ap (λ n. Some (entries_of (take new.acknowledged (file_of files n)))) here
              ∙ ap (λ (es : List (ℕ × List ℕ)). Some es) (entries_of-short (take new.acknowledged (file_of files next))
              (let cut = length-take new.acknowledged (file_of files next) in omega (arith, cut, empty)))
          | false ↦ λ other.
              let there : id ≢ next = λ same. let tied = eq-eqb id next same in cc in
              ap (option_map (λ (l : Log). entries_of (take l.acknowledged (file_of files id)))) (log-insert_else p.state.logs next new id there)
              ∙ ap (λ (o : Option (List ℕ)). option_map (λ (l : Log). entries_of (take l.acknowledged (unwrap_or o []))) (finite.get p.state.logs id))
              (only id there)
        ] refl

    new_promises : (reveal_invariant : ContentInvariant p) → Gains p.state.files next [] files → length (file_of files next) ≤ header_length → LogMatchesFile files p.synced next new
        → ContentInvariant with_new
    new_promises reveal_invariant gains empty backed =
        let grows : Grows p.state.ledgers.dead reveal_invariant.map.carried (file_of p.state.files) (file_of files) =
        grows_behind p.state.ledgers.dead reveal_invariant.map.carried next (λ id other. ap (λ (o : Option (List ℕ)). unwrap_or o []) (gains.only id other)) [] gains.records
        (λ at payload key never. absurd never) in
        record {
          map = record {
            carried = reveal_invariant.map.carried;
            carries = carries_grown grows reveal_invariant.map.carries;
            harmless = reveal_invariant.map.harmless;
            recent = reveal_invariant.map.recent;
            replays = reveal_invariant.map.replays;
          };
          shows = subst (λ ps. IndexIsPublished (file_of files) ps p.state.index) (λ i id. sym (parts_now id) i) (shows_grown reveal_invariant.shows (file_of files) grows.stood);
          counted = sums_open entry_measure reveal_invariant.counted next (acknowledged_entries files (finite.insert p.state.logs next new)) unnamed
              (later empty gains.only);
          logs = record {
            each = each_new (λ id l. LogMatchesFile files p.synced id l) backed (λ id l is.
                let old = reveal_invariant.logs.each id l is in
                let same = gains.only id (apart id l is) in
                record {
                  stands = ap is_some same ∙ old.stands;
                  writes = λ w writer. writes_same w (ap (finite.get files) ((keeps.fits.logs.each id l is).by w writer).own ∙ same
                      ∙ ap (finite.get p.state.files) (sym ((keeps.fits.logs.each id l is).by w writer).own)) (old.writes w writer);
                  honest = old.honest;
                  spelled = subst HasNoBadLength (sym (ap (λ (o : Option (List ℕ)). unwrap_or o []) same)) old.spelled;
                  shown = old.shown;
                  kept = old.kept;
                });
            fresh = λ id above. gains.only id (λ here. omega (arith, above, here)) ∙ reveal_invariant.logs.fresh id (omega (arith, above));
          };
          placed = λ key place is.
              let old = reveal_invariant.placed key place is in
              record { payload = old.payload; flushing = old.flushing; stands = grows.stood place key old.payload old.stands };
        }

    pub kept_new : CanCreateLog p.state → HeldLogInvariant (next + 1) next new
        → ((id : ℕ) → (writing ≡ Some id) ↔ ((log : Log) × (finite.get (finite.insert p.state.logs next new) id ≡ Some log) × (log.state ≡ Writing)))
        → AllStay p.filled filled → ((new.state ≡ Writing) ⊎ (new.state ≡ Filled) → In next filled)
        → (IsTrue p.state.honest → Gains p.state.files next [] files × (length (file_of files next) ≤ header_length) × LogMatchesFile files p.synced next new)
        → StoreInvariant (record p {
          state = with_next p.state files failures (finite.insert p.state.logs next new) (with_seat p.state slot);
          accounts = after_open p.accounts next;
          writing = writing;
          filled = filled;
        })
    kept_new may held writes goes listed made = record {
      fits = new_fits may held writes goes listed;
      job = λ job is.
          let kept = keeps.job job is in
          let t : State = with_next p.state files failures (finite.insert p.state.logs next new) (with_seat p.state slot) in
          let others : (job.source ≢ next) × (job.copy ≢ next) =
          (apart job.source kept.source.log kept.source.held, apart job.copy kept.copy.log kept.copy.held) in
          job_stays p.state t job (stays_else p.state t job next new others refl refl refl (λ honest. (made honest).0.only)) kept;
      fronts = keeps.fronts;
      promises = λ honest. let m = made honest in new_promises (keeps.promises honest) m.0 m.1 m.2;
    }
