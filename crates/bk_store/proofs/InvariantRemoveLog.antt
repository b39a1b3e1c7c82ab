-- A closed log that is removed leaves what a store keeps.
use Rattle.std.proofs.Common.{◌≡◌, ◌≢◌, inl, inr, ℕ, ◌+◌, ◌≤◌, true, false, ◌==◌, if◌then◌else◌, IsTrue, List, [], take, Option}
use Rattle.std.proofs.Common.{Some, None, is_some, option_map, unwrap_or, Result, Ok, Err, refl, sym, ap, subst, ◌∙◌, arith}
use Rattle.std.specs.Option.{option_map_or}
use Rattle.std.specs.FinMap as finite
use Rattle.std.proofs.lemmas.Bool.{eqb-true, eq-eqb}
use Rattle.bk_record.specs.Files.{Files, file_of, header_length}
use Rattle.bk_record.specs.Scan.{entries_of}
use Rattle.bk_record.specs.Keyed.{log_count}
use Rattle.bk_record.proofs.Longer.{longer_trans}
use Rattle.bk_disk.specs.Durable.{IsDroppedFromDurable}
use Rattle.bk_log.specs.Growing.{HasNoBadLength}
use Rattle.bk_log.specs.declared.fault.LogFault.{LogFault}
use Rattle.bk_log.specs.declared.fault.LogFault.TheVariants as log_faults
use Rattle.bk_accounts.specs.Book.{named_in, total_in, after_drop}
use Rattle.bk_accounts.proofs.BookLaws.{total_in-after_drop, named_in-after_drop}
use Rattle.bk_accounts.proofs.CallerLaws.{sums_drop}
use Rattle.bk_store.specs.Entries.{Bytes}
use Rattle.bk_store.specs.Representation.{Represents}
use Rattle.bk_store.specs.Contents.{written_at}
use Rattle.bk_store.specs.Logs.{Log, HasOpenView, IsFlushLog, is_open, open_parts, published_part}
use Rattle.bk_store.specs.State.{State, StoreParts}
use Rattle.bk_store.specs.Published.{IndexIsPublished}
use Rattle.bk_store.specs.Invariant.{StoreInvariant, StructuralInvariant, ContentInvariant, LogMatchesFile, entry_measure, acknowledged_entries}
use Rattle.bk_store.specs.Primitives.{IsIn}
use Rattle.bk_store.specs.CompactionPrimitives.{RemoveLogTransition, without_log}
use Rattle.bk_store.specs.Internals.{RemoveLogInternals, RemovalDurability, with_durable_of}
use Rattle.bk_store.specs.declared.log.LogState.TheVariants.{Writing, Filled, Closed}
use Rattle.bk_store.proofs.Cases.{same_or_apart}
use Rattle.bk_store.proofs.LogMaps.{log-removed, log-remove_else, log-remove_cases}
use Rattle.bk_store.proofs.Growing.{OnlyIn, carries_removed, entry_same, none_stands}
use Rattle.bk_store.proofs.Seats.{seated_removed}
use Rattle.bk_store.proofs.InvariantSetState.{one_log}
use Rattle.bk_store.proofs.InvariantParts.{with_state}
use Rattle.bk_store.proofs.DurableNeverShrinks.{keeps_on}
use Rattle.bk_store.proofs.RemovedFiles.{harmless_let_go_of}
use Rattle.bk_store.proofs.InvariantOneLog.{keeps_failures}
use Rattle.bk_store.proofs.JobStays.{job_stays, job_apart}

module _ (p : StoreParts) (keeps : StoreInvariant p) (id : ℕ) (log : Log) (held : finite.get p.state.logs id ≡ Some log) (closed : log.state ≡ Closed)
    (files synced gone' : Files) where
  abbrev removed : StoreParts
  removed = record p {
    state = without_log (record p.state { files = files }) id log;
    accounts = after_drop p.accounts id;
    synced = synced;
    gone = gone';
  }

  -- a log that keys may point into, or that the flush wrote, is another one
  not_closed : (q : ℕ) (l : Log) → finite.get p.state.logs q ≡ Some l → l.state ≢ Closed → q ≢ id
  not_closed q l is other same =
      let both : Some l ≡ Some log = sym is ∙ ap (finite.get p.state.logs) same ∙ held in
      let one : l ≡ log = cc in
      other (ap (λ (x : Log). x.state) one ∙ closed)

  view_apart : (q : ℕ) → HasOpenView p.state.logs q → q ≢ id
  view_apart q shown = not_closed q shown.log shown.held
      (λ wrong. let both : true ≡ false = sym shown.opened ∙ ap is_open wrong in cc)

  flush_apart : (q : ℕ) → IsFlushLog p.state.logs q → q ≢ id
  flush_apart q f = not_closed q f.log f.held (λ wrong. elim f.flushed [
    | inl now ↦ let both : Closed ≡ Writing = sym wrong ∙ now in cc
    | inr now ↦ let both : Closed ≡ Filled = sym wrong ∙ now in cc
  ])

  view_stays : (q : ℕ) → HasOpenView p.state.logs q → HasOpenView (finite.remove p.state.logs id) q
  view_stays q shown = record {
    log = shown.log;
    view = shown.view;
    held = log-remove_else p.state.logs id q (view_apart q shown) ∙ shown.held;
    opened = shown.opened;
    view_is = shown.view_is;
  }

  flush_stays : (q : ℕ) → IsFlushLog p.state.logs q → IsFlushLog (finite.remove p.state.logs id) q
  flush_stays q f = record { log = f.log; held = log-remove_else p.state.logs id q (flush_apart q f) ∙ f.held; flushed = f.flushed }

  writing_apart : (q : ℕ) (l : Log) → finite.get p.state.logs q ≡ Some l → l.state ≡ Writing → q ≢ id
  writing_apart q l is now = not_closed q l is (λ wrong. let both : Closed ≡ Writing = sym wrong ∙ now in cc)

  names_left : (q : ℕ) → named_in (after_drop p.accounts id) q ≡ option_map (λ _. log_count p.state.index q) (finite.get (finite.remove p.state.logs id) q)
  names_left q = named_in-after_drop p.accounts id q ∙ elim (q == id) as (λ b. (q == id) ≡ b → (if b then None else named_in p.accounts q)
      ≡ option_map (λ _. log_count p.state.index q) (finite.get (finite.remove p.state.logs id) q)) [
        | true ↦ λ tied. sym (ap (option_map (λ (_ : Log). log_count p.state.index q))
            (ap (finite.get (finite.remove p.state.logs id)) (eqb-true q id tied) ∙ log-removed p.state.logs id))
        | false ↦ λ other. keeps.fits.accounts.named q ∙ sym (ap (option_map (λ (_ : Log). log_count p.state.index q))
            (log-remove_else p.state.logs id q (λ same. let tied = eq-eqb q id same in cc)))
      ] refl

  removed_fits : StructuralInvariant removed
  removed_fits =
      let fits = keeps.fits in
      record {
        limits = fits.limits;
        logs = record {
          seated = seated_removed p.state.settings p.state.keeper p.state.logs fits.logs.seated id log held;
          each = λ q l is. fits.logs.each q l (log-remove_cases p.state.logs id q l is).1;
          writing = λ q. (
            (λ is.
                let now = (fits.logs.writing q).0 is in
                (now.0, log-remove_else p.state.logs id q (writing_apart q now.0 now.1 now.2) ∙ now.1, now.2)),
            (λ now. (fits.logs.writing q).1 (now.0, (log-remove_cases p.state.logs id q now.0 now.1).1, now.2)),
          );
          filled = λ q l is now. fits.logs.filled q l (log-remove_cases p.state.logs id q l is).1 now;
        };
        sent = λ key place is. view_stays place.log (fits.sent key place is);
        placed = record {
          idle = fits.placed.idle;
          flushing = fits.placed.flushing;
          logs = λ key place is. flush_stays place.log (fits.placed.logs key place is);
          front = fits.placed.front;
          rising = fits.placed.rising;
          newest = λ q l is now. fits.placed.newest q l (log-remove_cases p.state.logs id q l is).1 now;
        };
        ledgers = fits.ledgers;
        accounts = record {
          named = names_left;
          total = λ q l is.
              let other = log-remove_cases p.state.logs id q l is in
              let same : total_in (after_drop p.accounts id) q ≡ total_in p.accounts q =
              total_in-after_drop p.accounts id q ∙ elim (q == id) as (λ b. (q == id) ≡ b → (if b then None else total_in p.accounts q) ≡ total_in p.accounts q) [
                | true ↦ λ tied. absurd (other.0 (eqb-true q id tied))
                | false ↦ λ _. refl
              ] refl in
              subst (λ o. unwrap_or o 0 + header_length ≤ l.acknowledged) (sym same) (fits.accounts.total q l other.1);
        };
      }

  module _ (gone : files ≡ finite.remove p.state.files id) where
    file_same : (q : ℕ) → q ≢ id → finite.get files q ≡ finite.get p.state.files q
    file_same q apart = ap (λ (f : Files). finite.get f q) gone ∙ log-remove_else p.state.files id q apart

    only : OnlyIn id (file_of p.state.files) (file_of files)
    only q apart = ap (λ (o : Option (List ℕ)). unwrap_or o []) (file_same q apart)

    none_left : file_of files id ≡ []
    none_left = ap (λ (o : Option (List ℕ)). unwrap_or o []) (ap (λ (f : Files). finite.get f id) gone ∙ log-removed p.state.files id)

    abbrev part_of : Option Log → List ℕ
    part_of o = option_map_or (λ (l : Log). if is_open l.state then published_part l else []) o []

    hidden : open_parts p.state.logs id ≡ []
    hidden = ap part_of held ∙ ap (λ b. if b then published_part log else []) (ap is_open closed)

    parts_left : (q : ℕ) → open_parts (finite.remove p.state.logs id) q ≡ open_parts p.state.logs q
    parts_left q = elim (same_or_apart q id) [
      | inr apart ↦ ap part_of (log-remove_else p.state.logs id q apart)
      | inl here ↦ ap part_of (ap (finite.get (finite.remove p.state.logs id)) here ∙ log-removed p.state.logs id)
          ∙ sym (ap (open_parts p.state.logs) here ∙ hidden)
    ]

    entries_left : (q : ℕ) → acknowledged_entries files (finite.remove p.state.logs id) q
        ≡ (if q == id then None else acknowledged_entries p.state.files p.state.logs q)
    entries_left q = elim (q == id) as (λ b. (q == id) ≡ b → acknowledged_entries files (finite.remove p.state.logs id) q
        ≡ (if b then None else acknowledged_entries p.state.files p.state.logs q)) [
          | true ↦ λ tied. ap (option_map (λ (l : Log). entries_of (take l.acknowledged (file_of files q))))
              (ap (finite.get (finite.remove p.state.logs id)) (eqb-true q id tied) ∙ log-removed p.state.logs id)
          | false ↦ λ other.
              let apart : q ≢ id = λ same. let tied = eq-eqb q id same in cc in
              ap (option_map (λ (l : Log). entries_of (take l.acknowledged (file_of files q)))) (log-remove_else p.state.logs id q apart)
              ∙ ap (λ (b : List ℕ). option_map (λ (l : Log). entries_of (take l.acknowledged b)) (finite.get p.state.logs q)) (only q apart)
        ] refl

    backed_left : IsDroppedFromDurable p.state.files id p.synced p.gone synced gone' → (reveal_invariant : ContentInvariant p) (q : ℕ) (l : Log) → finite.get (finite.remove p.state.logs id) q ≡ Some l → LogMatchesFile files synced q l
    backed_left let_go reveal_invariant q l is =
        let other = log-remove_cases p.state.logs id q l is in
        let old = reveal_invariant.logs.each q l other.1 in
        let same = file_same q other.0 in
        record {
          stands = ap is_some same ∙ old.stands;
          writes = λ w writer.
              let was = old.writes w writer in
              let own = ((keeps.fits.logs.each q l other.1).by w writer).own in
              record {
                file = was.file;
                records = was.records;
                stands = ap (finite.get files) own ∙ same ∙ ap (finite.get p.state.files) (sym own) ∙ was.stands;
                long = was.long;
                text = was.text;
                counted = was.counted;
                sized = was.sized;
                keyed = was.keyed;
              };
          honest = old.honest;
          spelled = subst HasNoBadLength (sym (only q other.0)) old.spelled;
          shown = old.shown;
          kept = λ view seen opened.
              let was = old.kept view seen opened in
              let now = let_go.more q was.0 other.0 was.1 in
              (now.0, now.1, longer_trans view.bytes was.0 now.0 was.2 now.2);
        }

    pub removed_carries : (reveal_invariant : ContentInvariant p) → Represents (file_of files) p.state.index (written_at p.state) p.state.ledgers.dead reveal_invariant.map.carried
    removed_carries reveal_invariant = carries_removed id only none_left (λ key place named. view_apart place.log (keeps.fits.sent key place named)) reveal_invariant.map.carries

    removed_promises : IsDroppedFromDurable p.state.files id p.synced p.gone synced gone' → (reveal_invariant : ContentInvariant p) → ContentInvariant removed
    removed_promises let_go reveal_invariant = record {
      map = record {
        carried = reveal_invariant.map.carried;
        carries = removed_carries reveal_invariant;
        harmless = harmless_let_go_of p.state.files p.gone gone' id let_go.back reveal_invariant.map.carries reveal_invariant.map.harmless;
        recent = reveal_invariant.map.recent;
        replays = reveal_invariant.map.replays;
      };
      shows = subst (λ (ps : Bytes). IndexIsPublished (file_of files) ps p.state.index) (λ i q. sym (parts_left q) i) (record {
        stands = λ place key payload entry. elim (same_or_apart place.log id) [
          | inl here ↦ absurd (none_stands place key payload (ap (open_parts p.state.logs) here ∙ hidden) entry)
          | inr apart ↦ entry_same place key payload (sym (only place.log apart)) (reveal_invariant.shows.stands place key payload entry)
        ];
        shown = reveal_invariant.shows.shown;
      });
      counted = sums_drop entry_measure reveal_invariant.counted id (acknowledged_entries files (finite.remove p.state.logs id)) entries_left;
      logs = record {
        each = backed_left let_go reveal_invariant;
        fresh = λ q above. elim (same_or_apart q id) [
          | inl here ↦ absurd (let below = (keeps.fits.logs.each id log held).below in omega (arith, below, above, here))
          | inr apart ↦ file_same q apart ∙ reveal_invariant.logs.fresh q above
        ];
      };
      placed = λ key place is.
          let old = reveal_invariant.placed key place is in
          let apart = flush_apart place.log (keeps.fits.placed.logs key place is) in
          record { payload = old.payload; flushing = old.flushing; stands = entry_same place key old.payload (sym (only place.log apart)) old.stands };
    }

  removed_kept : (IsTrue p.state.honest → files ≡ finite.remove p.state.files id)
      → (IsTrue p.state.honest → IsDroppedFromDurable p.state.files id p.synced p.gone synced gone') → StoreInvariant removed
  removed_kept gone let_go = record {
    fits = removed_fits;
    job = λ job is.
        let own = keeps.job job is in
        let apart = job_apart p.state job own id log held (λ wrong. let both = sym closed ∙ wrong in cc) (λ wrong. let both = sym closed ∙ wrong in cc) in
        job_stays p.state removed.state job (record {
          honest = refl;
          source = log-remove_else p.state.logs id job.source apart.0;
          copy = log-remove_else p.state.logs id job.copy apart.1;
          named = λ _ key place there _. there;
          stands = λ honest place key payload there entry.
              entry_same place key payload (sym (only (gone honest) place.log (λ same. apart.1 (sym there ∙ same)))) entry;
        }) own;
    fronts = keeps.fronts;
    promises = λ honest. removed_promises (gone honest) (let_go honest) (keeps.promises honest);
  }

-- ---- a removal that failed: the log is closed still, and nothing of it need be durable

module _ (p : StoreParts) (keeps : StoreInvariant p) (id : ℕ) (log : Log) (held : finite.get p.state.logs id ≡ Some log) (closed : log.state ≡ Closed)
    (synced gone' : Files) (let_go : IsDroppedFromDurable p.state.files id p.synced p.gone synced gone') where
  backed_else : (reveal_invariant : ContentInvariant p) (q : ℕ) (l : Log) → finite.get p.state.logs q ≡ Some l → LogMatchesFile p.state.files synced q l
  backed_else reveal_invariant q l is =
      let old = reveal_invariant.logs.each q l is in
      record {
        stands = old.stands;
        writes = old.writes;
        honest = old.honest;
        spelled = old.spelled;
        shown = old.shown;
        kept = λ view seen opened. elim (same_or_apart q id) [
          | inl here ↦
              let both : Some l ≡ Some log = sym is ∙ ap (finite.get p.state.logs) here ∙ held in
              let one : l ≡ log = cc in
              absurd (let wrong : true ≡ false = sym opened ∙ ap (λ (x : Log). is_open x.state) one ∙ ap is_open closed in cc)
          | inr apart ↦
              let was = old.kept view seen opened in
              let now = let_go.more q was.0 apart was.1 in
              (now.0, now.1, longer_trans view.bytes was.0 now.0 was.2 now.2)
        ];
      }

  dropped_promises : ContentInvariant p → ContentInvariant (record p { synced = synced; gone = gone' })
  dropped_promises reveal_invariant = record {
    map = record {
      carried = reveal_invariant.map.carried;
      carries = reveal_invariant.map.carries;
      harmless = harmless_let_go_of p.state.files p.gone gone' id let_go.back reveal_invariant.map.carries reveal_invariant.map.harmless;
      recent = reveal_invariant.map.recent;
      replays = reveal_invariant.map.replays;
    };
    shows = reveal_invariant.shows;
    counted = reveal_invariant.counted;
    logs = record {
      each = backed_else reveal_invariant;
      fresh = reveal_invariant.logs.fresh;
    };
    placed = reveal_invariant.placed;
  }

not_removed : (p q : StoreParts) (id : ℕ) → StoreInvariant p → (log : Log) → finite.get p.state.logs id ≡ Some log → log.state ≡ Closed
    → (IsTrue p.state.honest → IsDroppedFromDurable p.state.files id p.synced p.gone q.synced q.gone) → StoreInvariant (with_durable_of p q)
not_removed p q id keeps log held closed let_go = record {
  fits = keeps.fits;
  job = keeps.job;
  fronts = keeps.fronts;
  promises = λ honest. dropped_promises p keeps id log held closed q.synced q.gone (let_go honest) (keeps.promises honest);
}

pub keeps_remove : (p q : StoreParts) (id : ℕ) (result : Result (Unit {0}) LogFault) → StoreInvariant p → IsIn p.state id Closed → RemoveLogTransition p.state id result q.state
    → RemoveLogInternals (with_durable_of p q) id result q → RemovalDurability p id result q → StoreInvariant q
keeps_remove p q id (Ok _) keeps known turn beside let_go =
    subst StoreInvariant (sym (beside ∙ ap (λ (s : State). record (with_durable_of p q) { state = s; accounts = after_drop p.accounts id }) turn.3))
    (removed_kept p keeps id turn.0 turn.1 (one_log p id turn.0 Closed turn.1 known) q.state.files q.synced q.gone turn.2 let_go)
keeps_remove p q id (Err log_faults.Disk) keeps known turn beside on =
    subst StoreInvariant (sym (beside ∙ ap (with_state (with_durable_of p q)) turn.1))
    (keeps_failures (with_durable_of p q) q.state.files (p.state.failures + 1)
    (not_removed p q id keeps known.log known.held known.state_is on) turn.0)
keeps_remove p q id (Err log_faults.Memory) keeps known turn beside on =
    subst StoreInvariant (sym (beside ∙ ap (with_state (with_durable_of p q)) turn.1))
    (keeps_failures (with_durable_of p q) q.state.files p.state.failures (keeps_on p q keeps on) turn.0)
keeps_remove p q id (Err log_faults.Odd) keeps known turn beside on =
    subst StoreInvariant (sym (beside ∙ ap (with_state (with_durable_of p q)) turn.1))
    (keeps_failures (with_durable_of p q) q.state.files p.state.failures (keeps_on p q keeps on) (λ honest. absurd (let wrong = turn.0 in cc)))
keeps_remove p q id (Err log_faults.Failed) keeps known never beside on = absurd never
