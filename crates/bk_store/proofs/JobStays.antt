-- The invariant of the job of a compaction is preserved where its logs stay.
use Rattle.std.proofs.Common.{◌≡◌, ◌≢◌, ◌⊎◌, inl, inr, ℕ, Bool, cond, IsTrue, List, [], Option, Some, unwrap_or, sym, ap, subst, ◌∙◌}
use Rattle.std.specs.Option.{option_map_or, option_and_then}
use Rattle.std.specs.FinMap as finite
use Rattle.bk_record.specs.Key.{EntryKey}
use Rattle.bk_record.specs.Location.{Place}
use Rattle.bk_record.specs.Files.{Files, file_of}
use Rattle.bk_record.specs.Keyed.{Places}
use Rattle.bk_store.specs.Entries.{HasEntry}
use Rattle.bk_store.specs.Jobs.{Job, with_rebuild}
use Rattle.bk_store.specs.JobInvariant.{JobInvariant, JobFacts, IsCopied, IsReadTo, entries_from, copied_in, copy_state}
use Rattle.bk_store.specs.Logs.{Log, Logs, HasOpenView, is_open, published_part, open_parts}
use Rattle.bk_store.specs.State.{State}
use Rattle.bk_store.specs.Primitives.{IsIn}
use Rattle.bk_store.specs.declared.job.Phase.{Phase}
use Rattle.bk_store.specs.declared.job.Phase.TheVariants.{Copy, Switch}
use Rattle.bk_store.specs.declared.log.LogState.{LogState}
use Rattle.bk_store.specs.declared.log.LogState.TheVariants.{Writing, Filled, Copying, Readable}
use Rattle.bk_store.proofs.Growing.{entry_same}
use Rattle.bk_store.proofs.LogMaps.{log-insert_else}

-- The logs of a job are held as before. On an honest disk the index points to nothing more in the
-- source log, and the entries of the target log's file stay.
pub record Stays (s t : State) (job : Job) : Type 0 where
  pub honest : t.honest ≡ s.honest
  pub source : finite.get t.logs job.source ≡ finite.get s.logs job.source
  pub copy : finite.get t.logs job.copy ≡ finite.get s.logs job.copy
  pub named : IsTrue s.honest → (key : EntryKey) (place : Place) → finite.get t.index key ≡ Some place → place.log ≡ job.source
      → finite.get s.index key ≡ Some place
  pub stands : IsTrue s.honest → (place : Place) (key : EntryKey) (payload : List ℕ) → place.log ≡ job.copy
      → HasEntry (file_of s.files) place key payload → HasEntry (file_of t.files) place key payload

-- ---- one log that is held as before

module _ (old new : Logs) (id : ℕ) (same : finite.get new id ≡ finite.get old id) where
  pub view_same : HasOpenView old id → HasOpenView new id
  view_same was = record { log = was.log; view = was.view; held = same ∙ was.held; opened = was.opened; view_is = was.view_is }

  pub part_same : open_parts new id ≡ open_parts old id
  part_same = ap (λ (o : Option Log). option_map_or (λ (l : Log). cond (is_open l.state) (published_part l) []) o []) same

pub in_same : (s t : State) (id : ℕ) (state : LogState) → finite.get t.logs id ≡ finite.get s.logs id → IsIn s id state → IsIn t id state
in_same s t id state same was = record { log = was.log; held = same ∙ was.held; state_is = was.state_is }

-- ---- the job

module _ (s t : State) (job : Job) (stays : Stays s t job) where
  copied_stays : IsTrue s.honest → (phase : Phase) (place : Place) (key : EntryKey) (payload : List ℕ) → place.log ≡ job.copy
      → HasEntry (copied_in s.files s.logs phase) place key payload → HasEntry (copied_in t.files t.logs phase) place key payload
  copied_stays honest Copy place key payload own entry = stays.stands honest place key payload own entry
  copied_stays honest Switch place key payload own entry =
      entry_same place key payload
      (ap (open_parts s.logs) own ∙ sym (part_same s.logs t.logs job.copy stays.copy) ∙ ap (open_parts t.logs) (sym own)) entry

  still_copied : IsTrue s.honest → JobInvariant s job → IsCopied s.files s.index s.logs job → IsCopied t.files t.index t.logs job
  still_copied honest is was =
      let part : open_parts s.logs job.source ≡ open_parts t.logs job.source = sym (part_same s.logs t.logs job.source stays.source) in
      record {
        read = subst (λ b. IsReadTo b job.at) part was.read;
        copied = λ m there.
            let entry = was.copied m there in
            (entry.0, copied_stays honest job.phase m.to m.key entry.0 (is.moves m there).to_copy entry.1);
        examined = λ kept key place now own. was.examined kept key place (stays.named honest key place now own) own;
        ended = λ phase. subst (λ b. entries_from b job.at ≡ []) part (was.ended phase);
      }

  pub job_stays : JobInvariant s job → JobInvariant t job
  job_stays is = record {
    source = in_same s t job.source Readable stays.source is.source;
    shown = view_same s.logs t.logs job.source stays.source is.shown;
    copy = in_same s t job.copy (copy_state job.phase) stays.copy is.copy;
    copy_shown = λ phase. view_same s.logs t.logs job.copy stays.copy (is.copy_shown phase);
    later = is.later;
    begun = is.begun;
    room = λ w writer. is.room w (sym (ap (option_and_then (λ (l : Log). l.writer)) stays.copy) ∙ writer);
    moves = is.moves;
    honest = λ truth.
        let was : IsTrue s.honest = sym stays.honest ∙ truth in
        still_copied was is (is.honest was);
  }

-- a log that is neither Readable nor Copying is none of the job's
pub job_apart : (s : State) (job : Job) → JobInvariant s job → (id : ℕ) (log : Log) → finite.get s.logs id ≡ Some log → log.state ≢ Readable → log.state ≢ Copying
    → (job.source ≢ id) × (job.copy ≢ id)
job_apart s job is id log held unreadable uncopied = (
  (λ here. unreadable (state_here job.source Readable is.source here)),
  (λ here. by_phase job.phase (state_here job.copy (copy_state job.phase) is.copy here)),
)
  where
    state_here : (own : ℕ) (state : LogState) → IsIn s own state → own ≡ id → log.state ≡ state
    state_here own state known here =
        let both : Some log ≡ Some known.log = sym held ∙ ap (finite.get s.logs) (sym here) ∙ known.held in
        let one : log ≡ known.log = cc in
        ap (λ (l : Log). l.state) one ∙ known.state_is

    by_phase : (phase : Phase) → log.state ≡ copy_state phase → ⊥
    by_phase Copy wrong = uncopied wrong
    by_phase Switch wrong = unreadable wrong

-- a log that is Writing, or Filled, is none of the job's
pub job_unflushed : (s : State) (job : Job) → JobInvariant s job → (id : ℕ) (log : Log) → finite.get s.logs id ≡ Some log
    → (log.state ≡ Writing) ⊎ (log.state ≡ Filled) → (job.source ≢ id) × (job.copy ≢ id)
job_unflushed s job is id log held (inl now) = job_apart s job is id log held (λ wrong. cc) (λ wrong. cc)
job_unflushed s job is id log held (inr now) = job_apart s job is id log held (λ wrong. cc) (λ wrong. cc)

-- ---- what does not touch a job

-- where logs and index are the same, and an honest disk's files
pub stays_same : (s t : State) (job : Job) → t.honest ≡ s.honest → t.logs ≡ s.logs → t.index ≡ s.index → (IsTrue s.honest → t.files ≡ s.files) → Stays s t job
stays_same s t job honest logs index files = record {
  honest = honest;
  source = ap (λ (l : Logs). finite.get l job.source) logs;
  copy = ap (λ (l : Logs). finite.get l job.copy) logs;
  named = λ _ key place is own. ap (λ (m : Places). finite.get m key) (sym index) ∙ is;
  stands = λ truth place key payload own entry. subst (λ f. HasEntry (file_of f) place key payload) (sym (files truth)) entry;
}

-- if one log changes, which is none of the job's, and an honest disk's file of it
pub stays_else : (s t : State) (job : Job) (id : ℕ) (new : Log) → (job.source ≢ id) × (job.copy ≢ id) → t.honest ≡ s.honest
    → t.logs ≡ finite.insert s.logs id new → t.index ≡ s.index → (IsTrue s.honest → (q : ℕ) → q ≢ id → finite.get t.files q ≡ finite.get s.files q)
    → Stays s t job
stays_else s t job id new apart honest logs index files = record {
  honest = honest;
  source = ap (λ (l : Logs). finite.get l job.source) logs ∙ log-insert_else s.logs id new job.source apart.0;
  copy = ap (λ (l : Logs). finite.get l job.copy) logs ∙ log-insert_else s.logs id new job.copy apart.1;
  named = λ _ key place is own. ap (λ (m : Places). finite.get m key) (sym index) ∙ is;
  stands = λ truth place key payload own entry.
      let file : file_of t.files job.copy ≡ file_of s.files job.copy = ap (λ (o : Option (List ℕ)). unwrap_or o []) (files truth job.copy apart.1) in
      entry_same place key payload (ap (file_of s.files) own ∙ sym file ∙ ap (file_of t.files) (sym own)) entry;
}

-- ---- the index is rebuilt

-- the job knows it, so nothing is owed of what the index points to
pub job_rebuilt : {honest : Bool} {files : Files} {index index' : Places} {held : Logs} (job : Job) → JobFacts honest files index held job
    → JobFacts honest files index' held (with_rebuild job)
job_rebuilt job was = record {
  source = was.source;
  shown = was.shown;
  copy = was.copy;
  copy_shown = was.copy_shown;
  later = was.later;
  begun = was.begun;
  room = was.room;
  moves = λ m there. let old = was.moves m there in record { from_source = old.from_source; to_copy = old.to_copy };
  honest = λ truth.
      let old = was.honest truth in
      record { read = old.read; copied = old.copied; examined = λ wrong. absurd (cc); ended = old.ended };
}
