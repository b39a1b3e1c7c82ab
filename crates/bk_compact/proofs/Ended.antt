-- While it is out of the store, a job that begins, is sealed and published, and is switched
-- preserves the job invariant.
use Rattle.std.proofs.Common.{◌≡◌, ◌≢◌, ◌⊎◌, inl, inr, ℕ, ◌<◌, Bool, true, false, IsTrue, List, []}
use Rattle.std.proofs.Common.{not, is_some, Option, Some, None, Ok, unwrap_or, refl, sym, ap, subst, ◌∙◌, arith}
use Rattle.std.specs.Option.{option_and_then}
use Rattle.std.proofs.lemmas.Option.{same_Some}
use Rattle.std.specs.FinMap as finite
use Rattle.bk_record.specs.Key.{EntryKey}
use Rattle.bk_record.specs.Location.{Place}
use Rattle.bk_record.specs.Record.{key_of, is_foreign}
use Rattle.bk_record.specs.Files.{file_of, records_of, In}
use Rattle.bk_record.specs.Scan.{entries_of}
use Rattle.bk_record.specs.Keyed.{log_count, Places}
use Rattle.bk_record.proofs.KeyedCounts.{log_count-none}
use Rattle.bk_log.specs.Writing as writers
use Rattle.bk_store.specs.Entries.{HasEntry}
use Rattle.bk_store.specs.Logs.{Log, Logs, HasOpenView, unwritten_log, is_open, open_parts, with_view}
use Rattle.bk_store.specs.State.{State}
use Rattle.bk_store.specs.Jobs.{Job, Waits, waits_from}
use Rattle.bk_store.specs.JobInvariant.{JobInvariant, IsReadTo, entries_from, copied_in, copy_state}
use Rattle.bk_store.specs.Primitives.{SealLogTransition, PublishLogTransition}
use Rattle.bk_store.specs.CompactionPrimitives.{CanRelocate, RelocateTransition}
use Rattle.bk_store.specs.Abstract.{SatisfiesInvariant}
use Rattle.bk_store.specs.declared.job.Move.{Move}
use Rattle.bk_store.specs.declared.job.Phase.{Phase}
use Rattle.bk_store.specs.declared.job.Phase.TheVariants.{Switch}
use Rattle.bk_store.specs.declared.log.LogState.TheVariants.{Readable}
use Rattle.bk_store.proofs.LogMaps.{log-inserted, log-insert_else}
use Rattle.bk_store.proofs.KeyMaps.{inserted_cases}
use Rattle.bk_store.proofs.JobStays.{part_same, view_same, in_same}
use Rattle.bk_record.proofs.Entries.{In-filter, filter-In}
use Rattle.bk_compact.specs.Compacting.{entries_left}
use Rattle.bk_compact.specs.JobSteps.{IsCopying, IsTakenOut}
use Rattle.bk_compact.proofs.Stored.{shown_part, none_ahead}

-- ---- a log's entries

listed : (file : List ℕ) (at : ℕ) (payload : List ℕ) (key : EntryKey) → key_of payload ≡ Some key → In (at, payload) (records_of file)
    → In (at, payload) (entries_of file)
unfolding entries_of
listed file at payload key keyed there =
    In-filter (λ r. not (is_foreign r.1)) (at, payload) (records_of file) there (ap (λ (o : Option EntryKey). not (not (is_some o))) keyed)

unlisted : (file : List ℕ) (at : ℕ) (payload : List ℕ) → In (at, payload) (entries_of file) → In (at, payload) (records_of file)
unfolding entries_of
unlisted file at payload there = filter-In (λ r. not (is_foreign r.1)) (at, payload) (records_of file) there

-- ---- the target log is sealed and published

module _ (s mid t : State) (job : Job) (is : IsCopying s job) (all : IsTrue s.honest → entries_left s job ≡ [])
    (seals : SealLogTransition s job.copy Readable (Ok tt) mid) (shows : PublishLogTransition mid job.copy (Ok tt) t) where
  abbrev shown_log : Log
  shown_log = with_view shows.2.0 shows.0

  apart : job.source ≢ job.copy
  apart same = omega (arith, is.out.keeps.later, same)

  closed_now : shows.0 ≡ unwritten_log Readable seals.log
  closed_now = same_Some shows.0 (unwritten_log Readable seals.log)
      (sym shows.1 ∙ ap (λ (x : State). finite.get x.logs job.copy) seals.left
      ∙ log-inserted s.logs job.copy (unwritten_log Readable seals.log) job.copy refl)

  shown_now : finite.get t.logs job.copy ≡ Some shown_log
  shown_now = ap (λ (x : State). finite.get x.logs job.copy) shows.2.3 ∙ log-inserted mid.logs job.copy shown_log job.copy refl

  source_stays : finite.get t.logs job.source ≡ finite.get s.logs job.source
  source_stays = ap (λ (x : State). finite.get x.logs job.source) shows.2.3 ∙ log-insert_else mid.logs job.copy shown_log job.source apart
      ∙ ap (λ (x : State). finite.get x.logs job.source) seals.left ∙ log-insert_else s.logs job.copy (unwritten_log Readable seals.log) job.source apart

  honest_stays : t.honest ≡ s.honest
  honest_stays = ap (λ (x : State). x.honest) shows.2.3 ∙ ap (λ (x : State). x.honest) seals.left

  index_stays : t.index ≡ s.index
  index_stays = ap (λ (x : State). x.index) shows.2.3 ∙ ap (λ (x : State). x.index) seals.left

  is_readable : shown_log.state ≡ Readable
  is_readable = ap (λ (l : Log). l.state) closed_now

  copy_shown : HasOpenView t.logs job.copy
  copy_shown = record { log = shown_log; view = shows.2.0; held = shown_now; opened = ap is_open is_readable; view_is = refl }

  -- the copied entries are published
  filed_shown : IsTrue s.honest → (place : Place) (key : EntryKey) (payload : List ℕ) → place.log ≡ job.copy
      → HasEntry (file_of s.files) place key payload → HasEntry (open_parts t.logs) place key payload
  filed_shown honest place key payload here entry =
      let was : In (place.at, payload) (entries_of (file_of s.files job.copy)) =
      listed (file_of s.files job.copy) place.at payload key entry.keyed
      (subst (λ id. In (place.at, payload) (records_of (file_of s.files id))) here entry.stands) in
      let now : In (place.at, payload) (entries_of (file_of mid.files job.copy)) =
      subst (In (place.at, payload)) (sym ((seals.sealed honest).entries job.copy)) was in
      let mid_honest : IsTrue mid.honest = ap (λ (x : State). x.honest) seals.left ∙ honest in
      let whole : file_of mid.files job.copy ≡ open_parts t.logs job.copy =
      ap (λ (o : Option (List ℕ)). unwrap_or o []) (shows.2.1 mid_honest).1
      ∙ sym (shown_part t.logs job.copy shown_log shows.2.0 shown_now (ap is_open is_readable) refl) in
      record {
        stands = subst (λ id. In (place.at, payload) (records_of (open_parts t.logs id))) (sym here)
            (subst (λ (b : List ℕ). In (place.at, payload) (records_of b)) whole (unlisted (file_of mid.files job.copy) place.at payload now));
        keyed = entry.keyed;
      }

  pub sealed_keeps : JobInvariant t (record job { phase = Switch })
  sealed_keeps =
      let old = is.out.keeps in
      let part : open_parts s.logs job.source ≡ open_parts t.logs job.source = sym (part_same s.logs t.logs job.source source_stays) in
      record {
        source = in_same s t job.source Readable source_stays old.source;
        shown = view_same s.logs t.logs job.source source_stays old.shown;
        copy = record { log = shown_log; held = shown_now; state_is = is_readable };
        copy_shown = λ _. copy_shown;
        later = old.later;
        begun = old.begun;
        room = λ w writer.
            absurd (no_writer w (sym (ap (λ (l : Log). l.writer) closed_now) ∙ sym (ap (option_and_then (λ (l : Log). l.writer)) shown_now) ∙ writer));
        moves = λ m there. let move = old.moves m there in record { from_source = move.from_source; to_copy = move.to_copy };
        honest = λ honest'.
            let honest : IsTrue s.honest = sym honest_stays ∙ honest' in
            let was = old.honest honest in
            record {
              read = subst (λ (b : List ℕ). IsReadTo b job.at) part was.read;
              copied = λ m there.
                  let entry = was.copied m there in
                  let filed = subst (λ (p : Phase). HasEntry (copied_in s.files s.logs p) m.to m.key entry.0) is.phase entry.1 in
                  (entry.0, filed_shown honest m.to m.key entry.0 (old.moves m there).to_copy filed);
              examined = λ new key place named here.
                  was.examined new key place (ap (λ (i : Places). finite.get i key) (sym index_stays) ∙ named) here;
              ended = λ _. subst (λ (b : List ℕ). entries_from b job.at ≡ []) part (all honest);
            };
      }
    where
      no_writer : (w : writers.Writing) → None ≡ Some w → ⊥
      no_writer w wrong = cc

-- ---- one relocation

module _ (s t : State) (job rest : Job) (first : Move) (is : IsTakenOut s job) (phase : job.phase ≡ Switch) (waits : waits_from job first rest) where
  first_move : In first job.moves
  first_move = subst (In first) (sym waits.0) (inl refl)

  pub may_rename : CanRelocate s first.key first.from first.to
  may_rename =
      let old = is.keeps in
      let move = old.moves first first_move in
      record {
        no_job = is.none;
        later = omega (arith, old.later, move.from_source, move.to_copy);
        seen = subst (HasOpenView s.logs) (sym move.to_copy) (old.copy_shown phase);
        stands = λ honest.
            let entry = (old.honest honest).copied first first_move in
            (entry.0, subst (λ (p : Phase). HasEntry (copied_in s.files s.logs p) first.to first.key entry.0) phase entry.1);
      }

  -- what the job invariant requires of the index and of the pending relocations
  abbrev owes : State → Job → Type 0
  owes u j = (key : EntryKey) (place : Place) → finite.get u.index key ≡ Some place → place.log ≡ job.source → (job.at < place.at) ⊎ Waits j.moves key place

  module _ (same_logs : t.logs ≡ s.logs) (same_honest : t.honest ≡ s.honest) (same_job : t.job ≡ s.job)
      (examined : IsTrue s.honest → job.rebuilt ≡ false → owes t rest) where
    taken_keeps : JobInvariant t (record job { moves = rest.moves })
    taken_keeps =
        let old = is.keeps in
        let source_stays : finite.get t.logs job.source ≡ finite.get s.logs job.source = ap (λ (l : Logs). finite.get l job.source) same_logs in
        let copy_stays : finite.get t.logs job.copy ≡ finite.get s.logs job.copy = ap (λ (l : Logs). finite.get l job.copy) same_logs in
        let part : open_parts s.logs job.source ≡ open_parts t.logs job.source = sym (part_same s.logs t.logs job.source source_stays) in
        let still : (m : Move) → In m rest.moves → In m job.moves = λ m there. subst (In m) (sym waits.0) (inr there) in
        record {
          source = in_same s t job.source Readable source_stays old.source;
          shown = view_same s.logs t.logs job.source source_stays old.shown;
          copy = in_same s t job.copy (copy_state job.phase) copy_stays old.copy;
          copy_shown = λ switch. view_same s.logs t.logs job.copy copy_stays (old.copy_shown switch);
          later = old.later;
          begun = old.begun;
          room = λ w writer. old.room w (sym (ap (option_and_then (λ (l : Log). l.writer)) copy_stays) ∙ writer);
          moves = λ m there. let move = old.moves m (still m there) in record { from_source = move.from_source; to_copy = move.to_copy };
          honest = λ honest'.
              let honest : IsTrue s.honest = sym same_honest ∙ honest' in
              let was = old.honest honest in
              record {
                read = subst (λ (b : List ℕ). IsReadTo b job.at) part was.read;
                copied = λ m there.
                    let entry = was.copied m (still m there) in
                    let shown = subst (λ (p : Phase). HasEntry (copied_in s.files s.logs p) m.to m.key entry.0) phase entry.1 in (
                      entry.0,
                      subst (λ (p : Phase). HasEntry (copied_in t.files t.logs p) m.to m.key entry.0) (sym phase)
                          (subst (λ (l : Logs). HasEntry (open_parts l) m.to m.key entry.0) (sym same_logs) shown),
                    );
                examined = λ new. examined honest new;
                ended = λ switch. subst (λ (b : List ℕ). entries_from b job.at ≡ []) part (was.ended switch);
              };
        }

    pub taken_out : IsTakenOut t rest
    taken_out = record { none = same_job ∙ is.none; keeps = subst (JobInvariant t) (sym waits.1) taken_keeps }

-- the index was switched, or pointed elsewhere before
pub switched_out : (s t : State) (job rest : Job) (first : Move) → IsTakenOut s job → job.phase ≡ Switch → waits_from job first rest → (moved : Bool)
    → RelocateTransition s first.key first.from first.to moved t → IsTakenOut t rest
switched_out s t job rest first is phase waits true turn =
    taken_out s t job rest first is phase waits
    (ap (λ (x : State). x.logs) turn.1) (ap (λ (x : State). x.honest) turn.1) (ap (λ (x : State). x.job) turn.1)
    (λ honest new key place named here.
    elim (inserted_cases s.index first.key first.to key place (ap (λ (x : State). finite.get x.index key) (sym turn.1) ∙ named)) [
      | inl sent ↦
          let to_copy = (is.keeps.moves first (first_move s t job rest first is phase waits)).to_copy in
          let log : first.to.log ≡ place.log = ap (λ (p : Place). p.log) sent.1 in
          absurd (omega (arith, is.keeps.later, to_copy, log, here))
      | inr old ↦ elim ((is.keeps.honest honest).examined new key place old.1 here) [
        | inl ahead ↦ inl ahead
        | inr waiting ↦ elim (subst (In waiting.0) waits.0 waiting.1) [
          | inr later ↦ inr (waiting.0, later, waiting.2, waiting.3)
          | inl own ↦ absurd (old.0 (sym waiting.2 ∙ ap (λ (m : Move). m.key) (sym own)))
        ]
      ]
    ])
switched_out s t job rest first is phase waits false turn =
    taken_out s t job rest first is phase waits
    (ap (λ (x : State). x.logs) turn.1) (ap (λ (x : State). x.honest) turn.1) (ap (λ (x : State). x.job) turn.1)
    (λ honest new key place named here.
    let named_so : finite.get s.index key ≡ Some place = ap (λ (x : State). finite.get x.index key) (sym turn.1) ∙ named in
    elim ((is.keeps.honest honest).examined new key place named_so here) [
      | inl ahead ↦ inl ahead
      | inr waiting ↦ elim (subst (In waiting.0) waits.0 waiting.1) [
        | inr later ↦ inr (waiting.0, later, waiting.2, waiting.3)
        | inl own ↦ absurd (turn.0
            (ap (finite.get s.index) (ap (λ (m : Move). m.key) own ∙ waiting.2) ∙ named_so
            ∙ ap Some (sym (ap (λ (m : Move). m.from) own ∙ waiting.3))))
      ]
    ])

-- ---- the finish

-- On an honest disk the index points to nothing in the source log, if no relocation is pending and
-- the index was not rebuilt.
pub source_unnamed : (s : State) → SatisfiesInvariant s → (job : Job) → JobInvariant s job → job.phase ≡ Switch → job.moves ≡ [] → job.rebuilt ≡ false → IsTrue s.honest
    → log_count s.index job.source ≡ 0
source_unnamed s kept job is phase none new honest = log_count-none s.index job.source (λ key place named here.
    let was = is.honest honest in
    elim (was.examined new key place named here) [
      | inl ahead ↦ none_ahead s kept job honest was.read (was.ended phase) key place named here ahead
      | inr waits ↦ subst (In waits.0) none waits.1
    ])
