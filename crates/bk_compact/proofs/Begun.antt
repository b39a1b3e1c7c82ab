-- The begin of a job establishes the job invariant.
use Rattle.std.proofs.Common.{◌≡◌, inl, inr, ℕ, ◌<◌, ◌≤◌, IsTrue}
use Rattle.std.proofs.Common.{Some, refl, sym, ap, subst, ◌∙◌, arith}
use Rattle.std.specs.Option.{option_and_then}
use Rattle.std.proofs.lemmas.Option.{none-some}
use Rattle.std.specs.FinMap as finite
use Rattle.bk_record.specs.Files.{header_length}
use Rattle.bk_record.proofs.KeyedCounts.{log_count-none}
use Rattle.bk_log.specs.Writing as writers
use Rattle.bk_store.specs.Jobs.{new_job}
use Rattle.bk_store.specs.JobInvariant.{JobInvariant}
use Rattle.bk_store.specs.Logs.{Log, Logs, HasOpenView, is_open, made_log, open_parts}
use Rattle.bk_store.specs.State.{State}
use Rattle.bk_store.specs.Primitives.{IsMade}
use Rattle.bk_store.specs.Abstract.{SatisfiesInvariant}
use Rattle.bk_store.specs.declared.log.LogState.TheVariants.{Copying}
use Rattle.bk_store.proofs.Cases.{some_or_none}
use Rattle.bk_store.proofs.LogMaps.{log-inserted, log-insert_else}
use Rattle.bk_compact.specs.Compacting.{IsCandidate}
use Rattle.bk_compact.proofs.Positions.{read_start, record_behind}
use Rattle.bk_compact.proofs.Stored.{kept_sent, kept_held, kept_shows}

-- a log that the index points into has a view
candidate_shown : (s : State) → SatisfiesInvariant s → (source : ℕ) → IsCandidate s source → HasOpenView s.logs source
candidate_shown s kept source is = elim (some_or_none is.state.log.view) [
  | inr view ↦ record { log = is.state.log; view = view.0; held = is.state.held; opened = ap is_open is.state.state_is; view_is = view.1 }
  | inl none ↦ absurd (
      let unnamed = log_count-none s.index source (λ key place sent here.
      let shown = kept_sent s kept key place sent in
      let both : Some shown.log ≡ Some is.state.log = sym shown.held ∙ ap (finite.get s.logs) here ∙ is.state.held in
      let one : shown.log ≡ is.state.log = cc in
      none-some shown.view (sym none ∙ sym (ap (λ (l : Log). l.view) one) ∙ shown.view_is)) in
      let named = is.named in
      omega (arith, unnamed, named))
]

module _ (s t : State) (kept : SatisfiesInvariant s) (source : ℕ) (is : IsCandidate s source) (made : IsMade s Copying t) where
  logs_are : t.logs ≡ finite.insert s.logs s.next (made_log Copying s.next made.slot)
  logs_are = ap (λ (x : State). x.logs) made.left

  older : source < s.next
  older = (kept_held s kept source is.state.log is.state.held).below

  source_same : finite.get t.logs source ≡ finite.get s.logs source
  source_same = ap (λ (l : Logs). finite.get l source) logs_are
      ∙ log-insert_else s.logs s.next (made_log Copying s.next made.slot) source (λ same. let below = older in omega (arith, below, same))

  copy_is : finite.get t.logs s.next ≡ Some (made_log Copying s.next made.slot)
  copy_is = ap (λ (l : Logs). finite.get l s.next) logs_are ∙ log-inserted s.logs s.next (made_log Copying s.next made.slot) s.next refl

  pub begun : JobInvariant t (new_job source s.next)
  begun =
      let shown = candidate_shown s kept source is in
      record {
        source = record { log = is.state.log; held = source_same ∙ is.state.held; state_is = is.state.state_is };
        shown = record { log = shown.log; view = shown.view; held = source_same ∙ shown.held; opened = shown.opened; view_is = shown.view_is };
        copy = record { log = made_log Copying s.next made.slot; held = copy_is; state_is = refl };
        copy_shown = λ wrong. absurd (cc);
        later = older;
        begun = omega arith;
        room = λ w writer.
            let own : Some (writers.new_writing s.next) ≡ Some w = sym (ap (option_and_then (λ (l : Log). l.writer)) copy_is) ∙ writer in
            let same : writers.new_writing s.next ≡ w = cc in
            subst (λ (x : writers.Writing). x.end ≤ header_length) same (omega arith);
        moves = λ m never. absurd never;
        honest = λ honest.
            let was : IsTrue s.honest = sym (ap (λ (x : State). x.honest) made.left) ∙ honest in
            record {
              read = read_start (open_parts t.logs source);
              copied = λ m never. absurd never;
              examined = λ _ key place sent here.
                  let named : finite.get s.index key ≡ Some place = sym (ap (λ (x : State). finite.get x.index key) made.left) ∙ sent in
                  let entry = (kept_shows s kept was).shown key place named in
                  inl (record_behind (open_parts s.logs place.log) place.at entry.0 entry.1.stands);
              ended = λ wrong. absurd (cc);
            };
      }
