-- The logs of a flush are published one by one, by rising id.
use Rattle.std.proofs.Common.{◌≡◌, ◌≢◌, ◌⊎◌, inl, inr, ℕ, ◌+◌, ◌<◌, true, IsTrue, Some, None, Ok, Err, slice_get, refl, sym, ap, subst, ◌∙◌, arith}
use Rattle.std.proofs.Math.Decide.{dec_le}
use Rattle.std.specs.FinMap as finite
use Rattle.bk_record.specs.Key.{EntryKey}
use Rattle.bk_record.specs.Location.{Place}
use Rattle.bk_log.specs.declared.fault.LogFault.{LogFault}
use Rattle.bk_log.specs.declared.fault.LogFault.TheVariants as log_faults
use Rattle.bk_record.specs.Keyed.{Places}
use Rattle.bk_store.specs.Logs.{Log, Logs, IsFlushLog, is_open, with_view}
use Rattle.bk_store.specs.State.{State}
use Rattle.bk_store.specs.Abstract.{SatisfiesInvariant}
use Rattle.bk_store.specs.Contents.{SameContents, PreservesContents}
use Rattle.bk_store.specs.Primitives.{CanPublishLog, PublishLogTransition}
use Rattle.bk_store.proofs.LogMaps.{log-inserted, log-insert_else}
use Rattle.bk_store.proofs.InvariantJob.{flush_idle}
use Rattle.bk_store.proofs.SameContents.{stays_on}
use Rattle.bk_store.specs.Faults.{step_fault_of}
use Rattle.bk_flush.specs.Flushing.{HasPlace, IsShown, RestartsIfLost, ShowsThose, ShowsPlaced, StopsShowing}
use Rattle.bk_flush.specs.Publishing.{AllShown, ShowsLogs}
use Rattle.bk_store.specs.declared.step_fault.StepFault.{StepFault}
use Rattle.bk_flush.proofs.NextLogs.{IsNextLog}

-- the logs below this id are published
pub record IsShowing (s : State) (from : ℕ) (t : State) : Type 0 where
  pub shown : ShowsThose (λ id. HasPlace s id × (id < from)) s t
  pub failures : t.failures ≡ s.failures
  pub stays : PreservesContents s t

-- keys may be sent to a log that a flush wrote
flush_log_open : (logs : Logs) (id : ℕ) → IsFlushLog logs id → (log : Log) × (finite.get logs id ≡ Some log) × (is_open log.state ≡ true)
flush_log_open logs id is = (
  is.log,
  is.held,
  (elim is.flushed [
    | inl writing ↦ ap is_open writing
    | inr filled ↦ ap is_open filled
  ]),
)

-- no compaction has it
pub may_show : (s : State) (id : ℕ) → SatisfiesInvariant s → IsFlushLog s.logs id → CanPublishLog s id
may_show s id kept is =
    let log = flush_log_open s.logs id is in
    record { open_is = record { log = log.0; held = log.1; opened = log.2 }; idle = flush_idle s id kept is }

-- the places are those at the start
module _ (s t : State) (from : ℕ) (is : IsShowing s from t) where
  pub same_places : t.places ≡ s.places
  same_places = ap (λ (x : State). x.places) is.shown.left

  -- a pair of the list is that at the start
  pub same_entry : (n : ℕ) (e : EntryKey × Place) → slice_get (finite.entries t.places) n ≡ Some e → slice_get (finite.entries s.places) n ≡ Some e
  same_entry n e at = ap (λ (m : Places). slice_get (finite.entries m) n) (sym same_places) ∙ at

  -- publishing a log failed; after the handling of its fault the logical contents are unchanged
  pub refused_stays : (log : ℕ) (cause : LogFault) (u after : State) → PublishLogTransition t log (Err cause) u → (IsTrue t.honest → SameContents t u)
      → PreservesContents u after → PreservesContents s after
  refused_stays log cause u after turn meaning later =
      stays_on s t after is.stays (stays_on t u after (record { honest = refused_honest cause turn; meaning = meaning }) later)
    where
      refused_honest : (cause : LogFault) → PublishLogTransition t log (Err cause) u → u.honest ≡ t.honest
      refused_honest log_faults.Disk turn = ap (λ (x : State). x.honest) turn.1
      refused_honest log_faults.Memory turn = ap (λ (x : State). x.honest) turn.1
      refused_honest log_faults.Odd turn = ap (λ (x : State). x.honest) turn.1
      refused_honest log_faults.Failed never = absurd never

  module _ (log : ℕ) (next : IsNextLog s from (Some log)) where
    -- the logs before the next one are published
    before_next : (id : ℕ) → HasPlace s id → id < log → id < from
    before_next id has below = elim (dec_le from id) [
      | no less ↦ omega (arith, less)
      | yes above ↦ let least = next.2 id has above in absurd (omega (arith, least, below))
    ]

    from_next : (id : ℕ) → HasPlace s id → id < log + 1 → (id < from) ⊎ (id ≡ log)
    from_next id has below = elim (dec_le from id) [
      | no less ↦ inl (omega (arith, less))
      | yes above ↦ let least = next.2 id has above in inr (omega (arith, least, below))
    ]

    pub one_more : (u : State) → PublishLogTransition t log (Ok tt) u → (IsTrue t.honest → SameContents t u) → IsShowing s (log + 1) u
    one_more u turn meaning =
        let held = turn.0 in
        let view = turn.2.0 in
        let left : u ≡ _ = turn.2.3 in
        let files : IsTrue s.honest → u.files ≡ s.files = λ honest. turn.2.2 (is.stays.honest ∙ honest) ∙ is.shown.files honest in
        let above = next.1 in
        let was : finite.get t.logs log ≡ finite.get s.logs log =
        is.shown.others log (λ both. let below = both.1 in omega (arith, below, above)) in
        record {
          shown = record {
            shown = λ id those. elim (from_next id those.0 those.1) [
              | inl below ↦
                  let one = is.shown.shown id (those.0, below) in
                  let apart : id ≢ log = (λ same. omega (arith, below, above, same)) in
                  record {
                    log = one.log;
                    view = one.view;
                    held = one.held;
                    now = ap (λ (x : State). finite.get x.logs id) left ∙ log-insert_else t.logs log (with_view view held) id apart ∙ one.now;
                    honest = one.honest;
                    whole = one.whole;
                  }
              | inr same ↦ subst (λ x. IsShown s x u) (sym same) (record {
                log = held;
                view = view;
                held = sym was ∙ turn.1;
                now = ap (λ (x : State). finite.get x.logs log) left ∙ log-inserted t.logs log (with_view view held) log refl;
                honest = λ honest. (turn.2.1 (is.stays.honest ∙ honest)).0;
                whole = λ honest.
                    ap (λ fs. finite.get fs log) (sym (is.shown.files honest)) ∙ (turn.2.1 (is.stays.honest ∙ honest)).1;
              })
            ];
            others = λ id none.
                let apart : id ≢ log = (λ same. none (subst (HasPlace s) (sym same) next.0, omega (arith, same))) in
                ap (λ (x : State). finite.get x.logs id) left
                ∙ log-insert_else t.logs log (with_view view held) id apart
                ∙ is.shown.others id (λ both. let below = both.1 in none (both.0, omega (arith, below, above)));
            files = files;
            left = ap (λ (x : State). record x { files = u.files; failures = u.failures; logs = u.logs }) left
                ∙ ap (λ (x : State). record x { files = u.files; failures = u.failures; logs = u.logs }) is.shown.left;
          };
          failures = ap (λ (x : State). x.failures) left ∙ is.failures;
          stays = record {
            honest = ap (λ (x : State). x.honest) left ∙ is.stays.honest;
            meaning = λ honest key. meaning (is.stays.honest ∙ honest) key ∙ is.stays.meaning honest key;
          };
        }

    -- publishing the next log failed; the published ones stay so
    stops : (u : State) (more : ℕ) → (IsTrue t.honest → u.files ≡ t.files) → u ≡ record t { files = u.files; failures = t.failures + more }
        → StopsShowing s more u
    stops u more files left = record {
      refused = log;
      has = next.0;
      before = record {
        shown = λ id those.
            let one = is.shown.shown id (those.0, before_next id those.0 those.1) in
            record {
              log = one.log;
              view = one.view;
              held = one.held;
              now = ap (λ (x : State). finite.get x.logs id) left ∙ one.now;
              honest = one.honest;
              whole = one.whole;
            };
        others = λ id none.
            ap (λ (x : State). finite.get x.logs id) left
            ∙ is.shown.others id (λ both. let below = both.1 in let above = next.1 in none (both.0, omega (arith, below, above)));
        files = λ honest. files (is.stays.honest ∙ honest) ∙ is.shown.files honest;
        left = ap (λ (x : State). record x { files = u.files; failures = u.failures; logs = u.logs }) left
            ∙ ap (λ (x : State). record x { files = u.files; failures = u.failures; logs = u.logs }) is.shown.left;
      };
      failures = ap (λ (x : State). x.failures) left ∙ ap (λ n. n + more) is.failures;
    }

    stops_even : (u : State) → (IsTrue t.honest → u.files ≡ t.files) → u ≡ record t { files = u.files } → StopsShowing s 0 u
    stops_even u files left =
        let none : t.failures ≡ t.failures + 0 = omega arith in
        stops u 0 files (left ∙ ap (λ n. record t { files = u.files; failures = n }) none)

    pub not_shown : (cause : LogFault) (fault : StepFault) (u after : State) → PublishLogTransition t log (Err cause) u → fault ≡ step_fault_of cause
        → RestartsIfLost fault u after → ShowsLogs s (Err fault) after
    not_shown cause fault u after turn is_told left =
        subst (λ f. ShowsLogs s (Err f) after) (sym is_told) (by_cause cause turn (subst (λ f. RestartsIfLost f u after) is_told left))
      where
        by_cause : (cause : LogFault) → PublishLogTransition t log (Err cause) u → RestartsIfLost (step_fault_of cause) u after
            → ShowsLogs s (Err (step_fault_of cause)) after
        by_cause log_faults.Disk turn left = record { mid = u; stops = stops u 1 turn.0 turn.1; stays = left }
        by_cause log_faults.Memory turn left = (refl, subst (StopsShowing s 0) (sym left) (stops_even u turn.0 turn.1))
        by_cause log_faults.Odd turn left =
            let never : IsTrue t.honest → ⊥ = λ honest. let wrong = sym turn.0 ∙ honest in cc in (
              sym is.stays.honest ∙ turn.0,
              record { mid = u; stops = stops_even u (λ honest. absurd (never honest)) turn.1; stays = left },
            )
        by_cause log_faults.Failed never left = absurd never

  -- no log is left to publish
  module _ (over : IsNextLog s from None) where
    pub all_shown : ShowsPlaced s t
    all_shown = record {
      all = record {
        shown = λ id has. is.shown.shown id (has, over id has);
        others = λ id none. is.shown.others id (λ both. none both.0);
        files = is.shown.files;
        left = is.shown.left;
      };
      failures = is.failures;
    }

    pub shows_whole : SatisfiesInvariant s → AllShown t
    shows_whole kept key place at =
        let there : finite.get s.places key ≡ Some place = ap (λ m. finite.get m key) (sym same_places) ∙ at in
        let one = all_shown.all.shown place.log (key, (place, there, refl)) in
        let wrote : IsFlushLog s.logs place.log =
        subst (λ (x : State). IsFlushLog x.logs place.log) kept.seen
        (kept.keeps.fits.placed.logs key place (ap (λ (x : State). finite.get x.places key) kept.seen ∙ there)) in
        let log = flush_log_open s.logs place.log wrote in
        let both : Some one.log ≡ Some log.0 = sym one.held ∙ log.1 in
        let same : one.log ≡ log.0 = cc in
        record {
          log = with_view one.view one.log;
          view = one.view;
          held = one.now;
          opened = ap (λ (l : Log). is_open l.state) same ∙ log.2;
          view_is = refl;
          whole = λ honest.
              let was : IsTrue s.honest = sym is.stays.honest ∙ honest in
              ap (λ fs. finite.get fs place.log) (is.shown.files was) ∙ one.whole was;
        }
