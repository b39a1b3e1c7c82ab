-- A flush that starts again, or ends, preserves the store invariant.
use Rattle.std.proofs.Common.{◌≡◌, ◌⊎◌, inl, inr, ℕ, ◌+◌, ◌≤◌, ◌↔◌, cond, List, [], Option}
use Rattle.std.proofs.Common.{Some, None, IsSome, is_some, option_map, take, refl, sym, ap, subst, ◌∙◌}
use Rattle.std.specs.Option.{option_map_or, option_or}
use Rattle.std.specs.FinMap as finite
use Rattle.std.specs.FinSet as set
use Rattle.bk_record.specs.Key.{EntryKey, key_cmp}
use Rattle.bk_record.specs.Location.{Place}
use Rattle.bk_record.specs.Files.{Files, file_of, header_length, In}
use Rattle.bk_record.specs.Scan.{entries_of}
use Rattle.bk_record.specs.Keyed.{log_count}
use Rattle.bk_cache.specs.Caches as caches
use Rattle.bk_cache.specs.Caches.{CacheState}
use Rattle.bk_cache.specs.Recents.{recent_of}
use Rattle.bk_accounts.specs.Book.{total_at}
use Rattle.bk_accounts.specs.Sums.{AreSums}
use Rattle.bk_store.specs.Published.{IndexIsPublished}
use Rattle.bk_store.specs.Representation.{Represents}
use Rattle.bk_store.specs.Crash.{RemovedFilesAreHarmless}
use Rattle.bk_store.specs.Logs.{Log, Logs, HasOpenView, AllChanged, is_open, state_after_restart, state_after_flush, open_parts, published_part}
use Rattle.bk_store.specs.Jobs.{Job}
use Rattle.bk_store.specs.JobInvariant.{JobInvariant, copy_state}
use Rattle.bk_store.specs.State.{State, StoreParts}
use Rattle.bk_store.specs.Contents.{written_at}
use Rattle.bk_store.specs.Invariant.{StoreInvariant, StructuralInvariant, ContentInvariant, HeldLogInvariant, LogMatchesFile, entry_measure, acknowledged_entries}
use Rattle.bk_store.specs.Primitives.{RestartFlushTransition, EndFlushTransition, AllIndexed, IsIn}
use Rattle.bk_store.specs.Internals.{RestartFlushInternals, EndFlushInternals}
use Rattle.bk_store.specs.declared.log.LogState.{LogState}
use Rattle.bk_store.specs.declared.log.LogState.TheVariants.{Writing, Filled, Copying, Readable, Retired, Closed}
use Rattle.bk_store.specs.declared.job.Phase.{Phase}
use Rattle.bk_store.specs.declared.job.Phase.TheVariants.{Copy, Switch}
use Rattle.bk_store.proofs.Cases.{some_or_none}
use Rattle.bk_store.proofs.InvariantParts.{none_placed, all_unplaced}
use Rattle.bk_store.proofs.CachedMoves.{carries_let_go}
use Rattle.bk_store.proofs.RemovedFiles.{harmless_let_go}
use Rattle.bk_store.proofs.Seats.{seated_ruled}
use Rattle.bk_store.proofs.AllChanged.{IsMild, changed_len, settled_mild, settled_unflushed, unfilled_mild}
use Rattle.bk_store.proofs.JobStays.{job_stays}
use Rattle.bk_store.proofs.FrontMoves.{fronts_flushed}

-- the parts with all logs changed, and no entry placed
abbrev ruled : StoreParts → Logs → CacheState → Option ℕ → List ℕ → StoreParts
ruled p logs held writing filled = record p {
  state = record p.state { logs = logs; places = finite.empty; caches = held };
  writing = writing;
  filled = filled;
}

module _ (rule : LogState → Log → Log) (mild : IsMild rule) (old new : Logs) (changed : AllChanged rule old new) where
  now_is : (id : ℕ) (log : Log) → finite.get old id ≡ Some log → finite.get new id ≡ Some (rule log.state log)
  now_is id log held = changed id ∙ ap (option_map (λ (l : Log). rule l.state l)) held

  was_cases : (id : ℕ) (o : Option Log) (log : Log) → finite.get old id ≡ o → option_map (λ l. rule l.state l) o ≡ Some log
      → (l : Log) × (finite.get old id ≡ Some l) × (rule l.state l ≡ log)
  was_cases id None log held is = cc
  was_cases id (Some l) log held is = (l, held, (let same : rule l.state l ≡ log = cc in same))

  was : (id : ℕ) (log : Log) → finite.get new id ≡ Some log → (l : Log) × (finite.get old id ≡ Some l) × (rule l.state l ≡ log)
  was id log is = was_cases id (finite.get old id) log refl (sym (changed id) ∙ is)

  each_ruled : (P : ℕ → Log → Type 0) → ((id : ℕ) (log : Log) → finite.get old id ≡ Some log → P id (rule log.state log))
      → (id : ℕ) (log : Log) → finite.get new id ≡ Some log → P id log
  each_ruled P all id log is = let w = was id log is in subst (λ l. P id l) w.2 (all id w.0 w.1)

  views_ruled : (id : ℕ) → HasOpenView old id → HasOpenView new id
  views_ruled id there = record {
    log = rule there.log.state there.log;
    view = there.view;
    held = now_is id there.log there.held;
    opened = mild.opened there.log ∙ there.opened;
    view_is = mild.view there.log ∙ there.view_is;
  }

  names_ruled : (n : ℕ → ℕ) (id : ℕ) → option_map (λ _. n id) (finite.get old id) ≡ option_map (λ _. n id) (finite.get new id)
  names_ruled n id = inside (finite.get old id) ∙ sym (ap (option_map (λ _. n id)) (changed id))
    where
      inside : (o : Option Log) → option_map (λ _. n id) o ≡ option_map (λ _. n id) (option_map (λ l. rule l.state l) o)
      inside None = refl
      inside (Some l) = refl

  parts_ruled : (id : ℕ) → open_parts new id ≡ open_parts old id
  parts_ruled id = ap (λ o. option_map_or (λ (l : Log). cond (is_open l.state) (published_part l) []) o []) (changed id) ∙ inside (finite.get old id)
    where
      inside : (o : Option Log) → option_map_or (λ (l : Log). cond (is_open l.state) (published_part l) []) (option_map (λ l. rule l.state l) o) []
          ≡ option_map_or (λ (l : Log). cond (is_open l.state) (published_part l) []) o []
      inside None = refl
      inside (Some l) = (λ i. cond (mild.opened l i) (option_map_or (λ v. v.bytes) (mild.view l i) []) [])

  entries_ruled : (files : Files) (id : ℕ) → acknowledged_entries files new id ≡ acknowledged_entries files old id
  entries_ruled files id = ap (option_map (λ (l : Log). entries_of (take l.acknowledged (file_of files id)))) (changed id) ∙ inside (finite.get old id)
    where
      inside : (o : Option Log) → option_map (λ (l : Log). entries_of (take l.acknowledged (file_of files id))) (option_map (λ l. rule l.state l) o)
          ≡ option_map (λ (l : Log). entries_of (take l.acknowledged (file_of files id))) o
      inside None = refl
      inside (Some l) = ap (λ n. Some (entries_of (take n (file_of files id)))) (mild.acknowledged l)

no_place : (key : EntryKey) (place : Place) → finite.get (finite.empty {R = key_cmp}) key ≡ Some place → ⊥
no_place key place is = none_placed finite.empty key place refl is

module _ (p : StoreParts) (keeps : StoreInvariant p) (rule : LogState → Log → Log) (mild : IsMild rule) (logs : Logs) (changed : AllChanged rule p.state.logs logs)
    (held : CacheState) (writing : Option ℕ) (filled : List ℕ) where
  ruled_fits : held.limit ≡ p.state.settings.cache_limit
      → ((id : ℕ) → (writing ≡ Some id) ↔ ((log : Log) × (finite.get logs id ≡ Some log) × (log.state ≡ Writing)))
      → ((id : ℕ) (log : Log) → finite.get logs id ≡ Some log → (log.state ≡ Writing) ⊎ (log.state ≡ Filled) → In id filled)
      → StructuralInvariant (ruled p logs held writing filled)
  ruled_fits limit writes listed =
      let fits = keeps.fits in
      record {
        limits = record { allowed = fits.limits.allowed; limit = limit; ids = fits.limits.ids };
        logs = record {
          seated = seated_ruled p.state.settings p.state.keeper p.state.logs fits.logs.seated rule logs
              (changed_len (λ (l : Log). rule l.state l) p.state.logs logs changed) (was rule mild p.state.logs logs changed) mild.slot mild.seat;
          each = each_ruled rule mild p.state.logs logs changed (λ id l. HeldLogInvariant p.state.next id l)
              (λ id l is. mild.held p.state.next id l (fits.logs.each id l is));
          writing = writes;
          filled = listed;
        };
        sent = λ key place is. views_ruled rule mild p.state.logs logs changed place.log (fits.sent key place is);
        placed = all_unplaced held.flush finite.empty logs refl;
        ledgers = fits.ledgers;
        accounts = record {
          named = λ id. fits.accounts.named id ∙ names_ruled rule mild p.state.logs logs changed (log_count p.state.index) id;
          total = each_ruled rule mild p.state.logs logs changed (λ id l. total_at p.accounts id + header_length ≤ l.acknowledged)
              (λ id l is. subst (λ n. total_at p.accounts id + header_length ≤ n) (sym (mild.acknowledged l)) (fits.accounts.total id l is));
        };
      }

  ruled_promises : (reveal_invariant : ContentInvariant p)
      → Represents (file_of p.state.files) p.state.index (written_at (record p.state { caches = held })) p.state.ledgers.dead reveal_invariant.map.carried
      → RemovedFilesAreHarmless (file_of p.gone) p.state.index (written_at (record p.state { caches = held })) p.state.ledgers.dead reveal_invariant.map.carried
      → held.recent ≡ p.state.caches.recent → ContentInvariant (ruled p logs held writing filled)
  ruled_promises reveal_invariant carries harmless recent = record {
    map = record {
      carried = reveal_invariant.map.carried;
      carries = carries;
      harmless = harmless;
      recent = λ key payload is. reveal_invariant.map.recent key payload (ap (λ r. recent_of r key) (sym recent) ∙ is);
      replays = reveal_invariant.map.replays;
    };
    shows = subst (λ ps. IndexIsPublished (file_of p.state.files) ps p.state.index) (λ i id. sym (parts_ruled rule mild p.state.logs logs changed id) i) reveal_invariant.shows;
    counted = subst (λ f. AreSums entry_measure (set.contains p.state.ledgers.dead) f (log_count p.state.index) p.accounts)
        (λ i id. sym (entries_ruled rule mild p.state.logs logs changed p.state.files id) i) reveal_invariant.counted;
    logs = record {
      each = each_ruled rule mild p.state.logs logs changed (λ id l. LogMatchesFile p.state.files p.synced id l) (λ id l is.
          let old = reveal_invariant.logs.each id l is in
          record {
            stands = old.stands;
            writes = λ w writer. old.writes w (mild.writer l w writer);
            honest = λ view seen. old.honest view (sym (mild.view l) ∙ seen);
            spelled = old.spelled;
            shown = λ view seen. old.shown view (sym (mild.view l) ∙ seen);
            kept = λ view seen opened. old.kept view (sym (mild.view l) ∙ seen) (sym (mild.opened l) ∙ opened);
          });
      fresh = reveal_invariant.logs.fresh;
    };
    placed = λ key place is. absurd (no_place key place is);
  }

-- a log that is neither the flush's nor retired stays by either rule
abbrev Rests : (LogState → Log → Log) → Type 0
Rests rule = (state : LogState) (log : Log) → (state ≡ Readable) ⊎ (state ≡ Copying) → rule state log ≡ log

settled_rests : Rests state_after_restart
settled_rests Copying log own = refl
settled_rests Readable log own = refl
settled_rests Retired log own = refl
settled_rests Closed log own = refl
settled_rests Writing log (inl wrong) = cc
settled_rests Writing log (inr wrong) = cc
settled_rests Filled log (inl wrong) = cc
settled_rests Filled log (inr wrong) = cc

unfilled_rests : Rests state_after_flush
unfilled_rests Writing log own = refl
unfilled_rests Copying log own = refl
unfilled_rests Readable log own = refl
unfilled_rests Retired log own = refl
unfilled_rests Closed log own = refl
unfilled_rests Filled log (inl wrong) = cc
unfilled_rests Filled log (inr wrong) = cc

-- the logs of a job are such
job_ruled : (p : StoreParts) (keeps : StoreInvariant p) (rule : LogState → Log → Log) → Rests rule → (logs : Logs) → AllChanged rule p.state.logs logs
    → (held : CacheState) (writing : Option ℕ) (filled : List ℕ) (job : Job) → p.state.job ≡ Some job → JobInvariant (ruled p logs held writing filled).state job
job_ruled p keeps rule rests logs changed held writing filled job is =
    let kept = keeps.job job is in
    job_stays p.state (ruled p logs held writing filled).state job (record {
      honest = refl;
      source = still job.source Readable kept.source (inl refl);
      copy = still job.copy (copy_state job.phase) kept.copy (of_copy job.phase);
      named = λ _ key place now own. now;
      stands = λ _ place key payload own entry. entry;
    }) kept
  where
    still : (id : ℕ) (state : LogState) → IsIn p.state id state → (state ≡ Readable) ⊎ (state ≡ Copying) → finite.get logs id ≡ finite.get p.state.logs id
    still id state known own =
        changed id ∙ ap (option_map (λ (l : Log). rule l.state l)) known.held
        ∙ ap (λ (l : Log). Some l) (rests known.log.state known.log (subst (λ x. (x ≡ Readable) ⊎ (x ≡ Copying)) (sym known.state_is) own)) ∙ sym known.held

    of_copy : (phase : Phase) → (copy_state phase ≡ Readable) ⊎ (copy_state phase ≡ Copying)
    of_copy Copy = inr refl
    of_copy Switch = inl refl

pub keeps_restart : (p q : StoreParts) → StoreInvariant p → RestartFlushTransition p.state q.state → RestartFlushInternals p q → StoreInvariant q
keeps_restart p q keeps turn beside =
    let none = λ (id : ℕ) (log : Log) (is : finite.get q.state.logs id ≡ Some log) (flushed : (log.state ≡ Writing) ⊎ (log.state ≡ Filled)).
    let w = was state_after_restart settled_mild p.state.logs q.state.logs turn.logs id log is in
    settled_unflushed w.0.state w.0 refl (subst (λ (l : Log). (l.state ≡ Writing) ⊎ (l.state ≡ Filled)) (sym w.2) flushed) in
    subst StoreInvariant (sym (beside ∙ ap (λ (s : State). record p { state = s; writing = None; filled = [] }) turn.left)) (record {
      fits = ruled_fits p keeps state_after_restart settled_mild q.state.logs turn.logs p.state.caches None [] keeps.fits.limits.limit
          (λ id. ((λ wrong. absurd (cc)), (λ now. absurd (none id now.0 now.1 (inl now.2)))))
          (λ id log is flushed. absurd (none id log is flushed));
      job = job_ruled p keeps state_after_restart settled_rests q.state.logs turn.logs p.state.caches None [];
      fronts = keeps.fronts;
      promises = λ honest.
          let reveal_invariant = keeps.promises honest in
          ruled_promises p keeps state_after_restart settled_mild q.state.logs turn.logs p.state.caches None [] reveal_invariant reveal_invariant.map.carries
          reveal_invariant.map.harmless refl;
    })

-- what is cached without the flush: dropped entries are indexed
pub let_go : (s : State) → AllIndexed s → (key : EntryKey)
    → (written_at (record s { caches = record s.caches { flush = None } }) key ≡ written_at s key)
    ⊎ ((written_at (record s { caches = record s.caches { flush = None } }) key ≡ None) × IsSome (finite.get s.index key))
let_go s named key =
    let nothing = finite.get-empty {X = List ℕ} key_cmp key in
    elim (some_or_none (finite.get s.caches.active key)) [
      | inr active ↦ inl (ap (λ o. option_or o (finite.get (finite.empty {R = key_cmp}) key)) active.1
          ∙ sym (ap (λ o. option_or o (finite.get (caches.flush_of s.caches) key)) active.1))
      | inl none ↦ elim (some_or_none (finite.get (caches.flush_of s.caches) key)) [
        | inr flushing ↦ inr (
          ap (λ o. option_or o (finite.get (finite.empty {R = key_cmp}) key)) none ∙ nothing,
          named key (ap is_some flushing.1),
        )
        | inl idle ↦ inl (ap (λ o. option_or o (finite.get (finite.empty {R = key_cmp}) key)) none ∙ nothing
            ∙ sym (ap (λ o. option_or o (finite.get (caches.flush_of s.caches) key)) none ∙ idle))
      ]
    ]

still_writing : (p q : StoreParts) → AllChanged state_after_flush p.state.logs q.state.logs → (id : ℕ) (log : Log)
    → finite.get q.state.logs id ≡ Some log → log.state ≡ Writing
    → (l : Log) × (finite.get p.state.logs id ≡ Some l) × (l.state ≡ Writing)
still_writing p q changed id log is writing =
    let w = was state_after_flush unfilled_mild p.state.logs q.state.logs changed id log is in
    (w.0, w.1, unfilled_mild.writing w.0 (ap (λ (l : Log). l.state) w.2 ∙ writing))

pub keeps_end : (p q : StoreParts) → StoreInvariant p → AllIndexed p.state → EndFlushTransition p.state q.state → EndFlushInternals p q → StoreInvariant q
keeps_end p q keeps named turn beside =
    let fits = keeps.fits in
    let held : CacheState = record p.state.caches { flush = None } in
    subst StoreInvariant (sym (beside.parts ∙ ap (λ (s : State). record p { state = s; filled = q.filled }) turn.left)) (record {
      fits = ruled_fits p keeps state_after_flush unfilled_mild q.state.logs turn.logs held p.writing q.filled fits.limits.limit
          (λ id. (
            (λ is.
                let old = (fits.logs.writing id).0 is in (
                  state_after_flush old.0.state old.0,
                  now_is state_after_flush unfilled_mild p.state.logs q.state.logs turn.logs id old.0 old.1,
                  ap (λ s. (state_after_flush s old.0).state) old.2 ∙ old.2,
                )),
            (λ now. (fits.logs.writing id).1 (still_writing p q turn.logs id now.0 now.1 now.2)),
          ))
          (λ id log is flushed. elim flushed [
            | inl writing ↦
                let old = still_writing p q turn.logs id log is writing in
                beside.still id (fits.logs.filled id old.0 old.1 (inl old.2)) ((fits.logs.writing id).1 old)
            | inr wrong ↦
                let w = was state_after_flush unfilled_mild p.state.logs q.state.logs turn.logs id log is in
                absurd (unfilled_mild.filled w.0 (ap (λ (l : Log). l.state) w.2 ∙ wrong))
          ]);
      job = job_ruled p keeps state_after_flush unfilled_rests q.state.logs turn.logs held p.writing q.filled;
      fronts = fronts_flushed keeps.fronts;
      promises = λ honest.
          let reveal_invariant = keeps.promises honest in
          ruled_promises p keeps state_after_flush unfilled_mild q.state.logs turn.logs held p.writing q.filled reveal_invariant
          (carries_let_go reveal_invariant.map.carries (written_at (record p.state { caches = held })) (let_go p.state named))
          (harmless_let_go reveal_invariant.map.harmless (written_at (record p.state { caches = held })) (let_go p.state named)) refl;
    })
