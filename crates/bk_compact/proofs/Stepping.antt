-- Entries are examined one after another, in the order of a scan of the source log.
use Rattle.std.proofs.Common.{◌≡◌, ◌≢◌, inl, inr, ℕ, zero, suc, ◌+◌, ◌-◌, ◌<◌, ◌≤◌, ◌^◌, Bool, true, false}
use Rattle.std.proofs.Common.{IsTrue, List, [], ◌∷◌, ◌++◌, length, take, drop, not}
use Rattle.std.proofs.Common.{Some, None, Ok, Err, refl, sym, ap, subst, ◌∙◌, arith, length-append}
use Rattle.std.specs.Option.{option_and_then}
use Rattle.std.proofs.lemmas.List.{take_all}
use Rattle.std.proofs.lemmas.Bool.{false_from_ne_true}
use Rattle.bk_disk.specs.Disk.{view_end}
use Rattle.bk_record.specs.Body.{IsBadAt}
use Rattle.bk_log.specs.Growing.{HasNoBadLength}
use Rattle.bk_log.specs.Ranges.{entries_in, part}
use Rattle.bk_log.specs.Scanning.{Scan, NextMoves, ScanNextTransition, part_of}
use Rattle.bk_log.specs.declared.found.Found.{Found}
use Rattle.bk_log.specs.declared.fault.ScanFault.TheVariants as scans
use Rattle.bk_store.specs.Logs.{Log, Logs, View, last_view, open_parts}
use Rattle.bk_store.specs.State.{State}
use Rattle.bk_store.specs.Jobs.{Job}
use Rattle.bk_store.specs.JobInvariant.{IsReadTo, entries_from}
use Rattle.bk_store.specs.Primitives.{SetLogStateTransition}
use Rattle.bk_store.specs.Abstract.{SatisfiesInvariant}
use Rattle.bk_store.specs.declared.log.LogState.TheVariants.{Readable}
use Rattle.bk_store.proofs.LogMaps.{log-insert_else}
use Rattle.bk_store.proofs.JobStays.{job_stays, stays_same}
use Rattle.bk_store.specs.Contents.{PreservesContents}
use Rattle.bk_store.proofs.SameContents.{stays_on}
use Rattle.bk_compact.specs.declared.entries.Stopped.{Stopped}
use Rattle.bk_compact.specs.declared.entries.Stopped.TheVariants as stops
use Rattle.bk_compact.specs.Compacting.{AreFound, Examines, HasUnsoundSource}
use Rattle.bk_compact.specs.Compacting.{Steps, behind, entries_left, with_job}
use Rattle.bk_compact.specs.JobSteps.{CopiesAll, CopiesNext, ExaminesOne, IsAhead, IsCopying, IsNextFound, IsTakenOut, LeavesEntry}
use Rattle.bk_compact.specs.JobSteps.{ScansFrom, StopsAt, stop_after}
use Rattle.bk_compact.proofs.Positions.{none_bad}
use Rattle.bk_compact.proofs.Stored.{scan_found, scan_come, scan_taken, source_bytes, source_honest, source_spelled}
use Rattle.bk_compact.proofs.Examined.{found_push, one, examined_push, some_left, no_entries, none_examined, out_same, stays_itself}

-- Loop invariant: `number` entries were examined, as the scan gave them. The scan is one of the
-- published part of the source log from the position of the job.
pub record IsGoing (view : View) (s : State) (job : Job) (number : ℕ) (scan : Scan) (copied : ℕ) (t : State) (after : Job) : Type 0 where
  pub copying : IsCopying t after
  pub steps : Steps s job number copied t after
  pub long : length steps.founds ≡ number
  pub last : last_view t.logs after.source ≡ Some view
  pub was : last_view s.logs job.source ≡ Some view
  pub source : after.source ≡ job.source
  pub copy : after.copy ≡ job.copy
  pub stays : PreservesContents s t
  pub from : scan.from ≡ job.at
  pub file : scan.file ≡ view.bytes
  pub is_honest : scan.honest ≡ view.is_honest
  pub is_sound : scan.sound ≡ view.is_sound
  pub fits : scan.end < 2 ^ 64
  pub whole : IsTrue view.is_honest → scan.end ≡ view_end view.bytes
  pub given : scan.given ≡ number
  pub placed : after.at + scan.left ≤ scan.end
  pub parts : open_parts s.logs job.source ≡ view.bytes
  pub truth : IsTrue s.honest → IsTrue view.is_honest
  pub read : IsTrue s.honest → IsReadTo view.bytes job.at
  pub come : IsTrue s.honest → entries_from view.bytes after.at ≡ drop scan.given (entries_from view.bytes job.at)

pub going_starts : (view : View) (s : State) → SatisfiesInvariant s → (job : Job) → (is : IsCopying s job) → last_view s.logs job.source ≡ Some view
    → (scan : Scan) → ScansFrom view.bytes view.is_honest view.is_sound job.at scan → IsGoing view s job 0 scan 0 s job
going_starts view s kept job is last scan scans =
    let parts = source_bytes s kept job is.out.keeps view last in
    let file = ap (λ (x : Scan). x.file) scans.is in
    let end : scan.end ≡ scans.end = ap (λ (x : Scan). x.end) scans.is in
    let left : scan.left ≡ scans.end - job.at = ap (λ (x : Scan). x.left) scans.is in
    let given : scan.given ≡ 0 = ap (λ (x : Scan). x.given) scans.is in
    record {
      copying = is;
      steps = record {
        founds = [];
        bound = omega arith;
        first = λ _. tt;
        examined = (refl, out_same s is.out.none, refl);
      };
      long = refl;
      last = last;
      was = last;
      source = refl;
      copy = refl;
      stays = stays_itself s;
      from = ap (λ (x : Scan). x.from) scans.is;
      file = file;
      is_honest = ap (λ (x : Scan). x.honest) scans.is;
      is_sound = ap (λ (x : Scan). x.sound) scans.is;
      fits = omega (arith, end, scans.fits);
      whole = λ truth. end ∙ scans.whole truth;
      given = given;
      placed = omega (arith, end, left, scans.later);
      parts = parts;
      truth = source_honest s kept job is.out.keeps view last;
      read = λ honest. subst (λ (b : List ℕ). IsReadTo b job.at) parts (is.out.keeps.honest honest).read;
      come = λ _. ap (λ n. drop n (entries_from view.bytes job.at)) (sym given);
    }

abbrev no_pairs : List (ℕ × List ℕ)
no_pairs = []

drop_none : (n : ℕ) → drop n no_pairs ≡ no_pairs
drop_none zero = refl
drop_none (suc n) = refl

module _ (view : View) (s : State) (job : Job) (number : ℕ) (scan : Scan) (copied : ℕ) (t : State) (kept : SatisfiesInvariant t) (after : Job)
    (so_far : IsGoing view s job number scan copied t after) where
  was_honest : IsTrue t.honest → IsTrue s.honest
  was_honest honest = sym so_far.stays.honest ∙ honest

  view_truth : IsTrue t.honest → IsTrue scan.honest
  view_truth honest = so_far.is_honest ∙ so_far.truth (was_honest honest)

  ends : IsTrue t.honest → scan.end ≡ view_end scan.file
  ends honest = so_far.whole (so_far.truth (was_honest honest)) ∙ ap view_end (sym so_far.file)

  scan_read : IsTrue t.honest → IsReadTo scan.file scan.from
  scan_read honest =
      subst (λ (b : List ℕ). IsReadTo b scan.from) (sym so_far.file) (subst (IsReadTo view.bytes) (sym so_far.from) (so_far.read (was_honest honest)))

  -- the entries that were left when copying began
  all_left : entries_from scan.file scan.from ≡ entries_left s job
  all_left = ap (λ (b : List ℕ). entries_from b scan.from) (so_far.file ∙ sym so_far.parts) ∙ ap (entries_from (open_parts s.logs job.source)) so_far.from

  -- ---- an entry was found

  module _ (found : Found) (scan' : Scan) (moves : NextMoves scan (Ok (Some found)) scan')
      (turn : IsTrue scan.honest → ScanNextTransition scan (Ok (Some found)) scan') where
    next_found : IsTrue t.honest → IsNextFound scan.file after.at found
    next_found honest =
        scan_found scan scan'.foreign found (ends honest) (scan_read honest) (turn (view_truth honest)) after.at
        (ap (λ (b : List ℕ). entries_from b after.at) so_far.file ∙ so_far.come (was_honest honest)
        ∙ ap (λ (b : List ℕ). drop scan.given (entries_from b job.at)) (sym so_far.file)
        ∙ ap (λ n. drop scan.given (entries_from scan.file n)) (sym so_far.from))

    -- so an entry was left when copying began
    pub found_left : IsTrue t.honest → ¬ (entries_left s job ≡ [])
    found_left honest none =
        let listed = (next_found honest).listed in
        let come : entries_from scan.file after.at ≡ drop scan.given (entries_left s job) =
        ap (λ (b : List ℕ). entries_from b after.at) so_far.file ∙ so_far.come (was_honest honest)
        ∙ ap (drop scan.given) (ap (λ (b : List ℕ). entries_from b job.at) (sym so_far.parts)) in
        let empty : entries_from scan.file after.at ≡ [] = come ∙ ap (drop scan.given) none ∙ drop_none scan.given in cc

    pub going_ahead : IsAhead t after found
    going_ahead =
        let within = moves.1 in
        record {
          long = within.long;
          ahead = omega (arith, within.ends, within.fewer, so_far.placed);
          fits = omega (arith, within.ends, within.long, so_far.fits);
          next = λ honest.
              subst (λ (b : List ℕ). IsNextFound b after.at found)
              (so_far.file ∙ sym (source_bytes t kept after so_far.copying.out.keeps view so_far.last)) (next_found honest);
        }

    -- and was examined
    module _ (is_copied : Bool) (u : State) (later : Job) (examined : ExaminesOne t after found (Ok is_copied) u later) (stays : PreservesContents t u) where
      same_source : (b : Bool) → Examines t after found b u later → (later.source ≡ after.source) × (later.copy ≡ after.copy) × (later.at ≡ behind found)
          × (last_view u.logs after.source ≡ last_view t.logs after.source)
      same_source true turn' =
          let copies = turn'.1.1 in
          let put = copies.put in
          let apart : after.source ≢ after.copy = λ same. omega (arith, so_far.copying.out.keeps.later, same) in (
            ap (λ (j : Job). j.source) turn'.1.2,
            ap (λ (j : Job). j.copy) turn'.1.2,
            ap (λ (j : Job). j.at) turn'.1.2,
            ap (λ (l : Logs). last_view l after.source) (ap (λ (x : State). x.logs) put.1.4)
                ∙ ap (option_and_then (λ (l : Log). l.view)) (log-insert_else t.logs after.copy _ after.source apart),
          )
      same_source false turn' = (
        ap (λ (j : Job). j.source) turn'.2,
        ap (λ (j : Job). j.copy) turn'.2,
        ap (λ (j : Job). j.at) turn'.2,
        ap (λ (x : State). last_view x.logs after.source) turn'.1,
      )

      pub going_on : IsGoing view s job (number + 1) scan' (copied + one is_copied) u later
      going_on =
          let same = same_source is_copied examined.0 in
          let within = moves.1 in
          let shape = moves.2 in
          let end : scan'.end ≡ scan.end = ap (λ (x : Scan). x.end) shape in
          let file : scan'.file ≡ scan.file = ap (λ (x : Scan). x.file) shape in
          let from : scan'.from ≡ scan.from = ap (λ (x : Scan). x.from) shape in
          let given : scan'.given ≡ scan.given + 1 = ap (λ (x : Scan). x.given) shape in
          let size : length (so_far.steps.founds ++ found ∷ []) ≡ number + 1 =
          omega (arith, length-append so_far.steps.founds (found ∷ []), so_far.long) in
          let back : IsTrue s.honest → IsTrue t.honest = λ honest. so_far.stays.honest ∙ honest in
          record {
            copying = examined.1;
            steps = record {
              founds = so_far.steps.founds ++ found ∷ [];
              bound = omega (arith, size);
              first = λ honest.
                  let is = turn (view_truth (back honest)) in
                  let taken = scan_taken scan scan'.foreign found (ends (back honest)) (scan_read (back honest)) is in
                  let count : length so_far.steps.founds ≡ scan.given = so_far.long ∙ sym so_far.given in
                  let before : AreFound (take scan.given (entries_from scan.file scan.from)) so_far.steps.founds =
                  subst (λ n. AreFound (take n (entries_from scan.file scan.from)) so_far.steps.founds) count
                  (subst (λ (l : List (ℕ × List ℕ)). AreFound (take (length so_far.steps.founds) l) so_far.steps.founds) (sym all_left)
                  (so_far.steps.first honest)) in
                  let pushed = found_push (take scan.given (entries_from scan.file scan.from)) so_far.steps.founds (found.at, is.payload) found before
                  (record { at_is = refl; keyed = is.stands.keyed; sized = is.sized }) in
                  let all : AreFound (take (scan.given + 1) (entries_from scan.file scan.from)) (so_far.steps.founds ++ found ∷ []) =
                  subst (λ (l : List (ℕ × List ℕ)). AreFound l (so_far.steps.founds ++ found ∷ [])) (sym taken) pushed in
                  let count' : scan.given + 1 ≡ length (so_far.steps.founds ++ found ∷ []) = omega (arith, size, so_far.given) in
                  subst (λ n. AreFound (take n (entries_left s job)) (so_far.steps.founds ++ found ∷ [])) count'
                  (subst (λ (l : List (ℕ × List ℕ)). AreFound (take (scan.given + 1) l) (so_far.steps.founds ++ found ∷ [])) all_left all);
              examined = examined_push (with_job s None) job so_far.steps.founds copied t after found is_copied u later so_far.steps.examined examined.0;
            };
            long = size;
            last = ap (λ n. last_view u.logs n) same.0 ∙ same.3 ∙ so_far.last;
            was = so_far.was;
            source = same.0 ∙ so_far.source;
            copy = same.1 ∙ so_far.copy;
            stays = stays_on s t u so_far.stays stays;
            from = from ∙ so_far.from;
            file = file ∙ so_far.file;
            is_honest = ap (λ (x : Scan). x.honest) shape ∙ so_far.is_honest;
            is_sound = ap (λ (x : Scan). x.sound) shape ∙ so_far.is_sound;
            fits = omega (arith, end, so_far.fits);
            whole = λ truth. end ∙ so_far.whole truth;
            given = omega (arith, given, so_far.given);
            placed = omega (arith, end, same.2, within.ends, within.long);
            parts = so_far.parts;
            truth = so_far.truth;
            read = so_far.read;
            come = λ honest.
                let is = turn (view_truth (back honest)) in
                let come = scan_come scan scan'.foreign found (ends (back honest)) (scan_read (back honest)) is in
                ap (entries_from view.bytes) same.2 ∙ ap (λ (b : List ℕ). entries_from b (behind found)) (sym so_far.file) ∙ come
                ∙ ap (λ n. drop n (entries_from scan.file scan.from)) (sym given)
                ∙ ap (λ (b : List ℕ). drop scan'.given (entries_from b scan.from)) so_far.file
                ∙ ap (λ n. drop scan'.given (entries_from view.bytes n)) so_far.from;
          }

    -- or examining it failed
    module _ (stopped : Stopped) (u : State) (later : Job) (n : ℕ) (within_n : number ≤ n) where
      pub going_stops : StopsAt t after found stopped u later → CopiesAll s job n (Err (stop_after copied stopped)) u later
      going_stops = by stopped
        where
          steps_n : Steps s job n copied t after
          steps_n = record {
            founds = so_far.steps.founds;
            bound = omega (arith, so_far.long, within_n);
            first = so_far.steps.first;
            examined = so_far.steps.examined;
          }

          unsound : HasUnsoundSource t after → HasUnsoundSource s job
          unsound is = (is.0, so_far.was ∙ sym so_far.last ∙ is.1, is.2)

          by : (r : Stopped) → StopsAt t after found r u later → CopiesAll s job n (Err (stop_after copied r)) u later
          by (stops.Memory done) turn' = (
            (t, subst (Steps s job n copied t) (sym turn'.2) steps_n, turn'.0, turn'.1),
            subst (IsTakenOut u) (sym turn'.2) (record {
              none = ap (λ (x : State). x.job) turn'.1 ∙ so_far.copying.out.none;
              keeps = job_stays t u after
                  (stays_same t u after (ap (λ (x : State). x.honest) turn'.1) (ap (λ (x : State). x.logs) turn'.1)
                  (ap (λ (x : State). x.index) turn'.1) turn'.0)
                  so_far.copying.out.keeps;
            }),
          )
          by stops.Unread turn' = (
            (copied, subst (λ (x : State). Steps s job n copied x later) (sym turn'.1) (subst (Steps s job n copied t) (sym turn'.2) steps_n)),
            unsound turn'.0,
            subst (λ (x : State). IsTakenOut x later) (sym turn'.1) (subst (IsTakenOut t) (sym turn'.2) so_far.copying.out),
          )
          by stops.Failed turn' = (copied, (t, (after, steps_n, (found, (turn'.0, turn'.1)))))
          by stops.Odd turn' = (
            sym so_far.stays.honest ∙ turn'.0,
            (
              copied,
              (
                t,
                (
                  after,
                  steps_n,
                  elim turn'.1 [
                    | inl set ↦ inl (subst (λ (n' : ℕ). SetLogStateTransition t n' Readable u) so_far.copy set)
                    | inr put ↦ inr (found, (put.0, put.1))
                  ],
                ),
              ),
            ),
          )

    -- the same for the reason to stop
    pub stops_left : (stopped : Stopped) → LeavesEntry s job (stop_after copied stopped)
    stops_left (stops.Memory done) = λ honest. found_left (so_far.stays.honest ∙ honest)
    stops_left stops.Unread = tt
    stops_left stops.Failed = tt
    stops_left stops.Odd = tt

  -- ---- no entry was found

  module _ (n : ℕ) (within_n : number ≤ n) where
    steps_at : Steps s job n copied t after
    steps_at = record {
      founds = so_far.steps.founds;
      bound = omega (arith, so_far.long, within_n);
      first = so_far.steps.first;
      examined = so_far.steps.examined;
    }

    -- the requested number of entries was examined
    pub going_done : number ≡ n → CopiesAll s job n (Ok copied) t after
    unfolding steps_at
    going_done all = (
      (
        steps_at,
        λ honest. subst (λ k. AreFound (take k (entries_left s job)) so_far.steps.founds) (so_far.long ∙ all) (so_far.steps.first honest),
      ),
      so_far.copying.out,
    )

    -- a scan at its end has given all entries that were left
    ended_long : (scan' : Scan) → NextMoves scan (Ok None) scan' → (IsTrue scan.honest → ScanNextTransition scan (Ok None) scan') → IsTrue s.honest
        → number ≡ length (entries_left s job)
    ended_long scan' moves turn honest =
        let is = turn (view_truth (so_far.stays.honest ∙ honest)) in
        let shape = moves.1 in
        let list : entries_in scan'.from (part_of scan') ≡ entries_left s job =
        (λ i. entries_in (ap (λ (x : Scan). x.from) shape i)
        (part (ap (λ (x : Scan). x.file) shape i) (ap (λ (x : Scan). x.from) shape i) (ap (λ (x : Scan). x.end) shape i)))
        ∙ ap (λ k. entries_in scan.from (part scan.file scan.from k)) (ends (so_far.stays.honest ∙ honest)) ∙ all_left in
        let count : scan'.given ≡ length (entries_left s job) = is.given ∙ ap length list in
        let same : scan'.given ≡ scan.given = ap (λ (x : Scan). x.given) shape in
        sym so_far.given ∙ sym same ∙ count

    -- no entry is left
    pub going_ends : (scan' : Scan) → NextMoves scan (Ok None) scan' → (IsTrue scan.honest → ScanNextTransition scan (Ok None) scan')
        → CopiesAll s job n (Ok copied) t after
    unfolding steps_at
    going_ends scan' moves turn = (
      (
        steps_at,
        λ honest.
            let all : length so_far.steps.founds ≡ length (entries_left s job) = so_far.long ∙ ended_long scan' moves turn honest in
            subst (λ (l : List (ℕ × List ℕ)). AreFound l so_far.steps.founds)
            (take_all (length so_far.steps.founds) (entries_left s job) (omega (arith, all))
            ∙ sym (take_all n (entries_left s job) (omega (arith, all, so_far.long, within_n))))
            (so_far.steps.first honest),
      ),
      so_far.copying.out,
    )

    -- either an entry was examined before, or none is left
    pub going_some : 1 ≤ number → CopiesAll s job n (Ok copied) t after → CopiesNext s job n (Ok (Some copied)) t after
    going_some some all = (
      all,
      λ honest. some_left (entries_left s job) so_far.steps.founds (so_far.steps.first honest) (omega (arith, some, so_far.long)),
    )

    -- out of memory after an entry was examined
    pub going_short : 1 ≤ number → CopiesNext s job n (Err (stops.Memory copied)) t after
    going_short some = (
      ((t, steps_at, (λ _. refl), refl), so_far.copying.out),
      λ honest. some_left (entries_left s job) so_far.steps.founds (so_far.steps.first honest) (omega (arith, some, so_far.long)),
    )

    -- before, whether an entry is left
    module _ (first : number ≡ 0) where
      whole_left : IsTrue t.honest → entries_from view.bytes after.at ≡ entries_left s job
      whole_left honest =
          let none : scan.given ≡ 0 = so_far.given ∙ first in
          so_far.come (was_honest honest) ∙ ap (λ k. drop k (entries_from view.bytes job.at)) none
          ∙ ap (λ (b : List ℕ). entries_from b job.at) (sym so_far.parts)

      pub told_none : s.job ≡ None → (IsTrue t.honest → entries_from view.bytes after.at ≡ []) → CopiesNext s job n (Ok None) t after
      told_none out ends =
          let same = none_examined (with_job s None) job so_far.steps.founds copied t after so_far.steps.examined (omega (arith, first, so_far.long)) in (
            λ honest. let there : IsTrue t.honest = so_far.stays.honest ∙ honest in sym (whole_left there) ∙ ends there,
            same.0 ∙ sym (out_same s out),
            same.1,
            so_far.copying.out,
          )

      pub told_some : (IsTrue t.honest → ¬ (entries_from view.bytes after.at ≡ [])) → CopiesNext s job n (Err (stops.Memory copied)) t after
      told_some ends = (
        ((t, steps_at, (λ _. refl), refl), so_far.copying.out),
        λ honest none. let there : IsTrue t.honest = so_far.stays.honest ∙ honest in ends there (whole_left there ∙ none),
      )

    pub going_none : number ≡ 0 → s.job ≡ None → (scan' : Scan) → NextMoves scan (Ok None) scan' → (IsTrue scan.honest → ScanNextTransition scan (Ok None) scan')
        → CopiesNext s job n (Ok None) t after
    going_none first out scan' moves turn =
        let same = none_examined (with_job s None) job so_far.steps.founds copied t after so_far.steps.examined (omega (arith, first, so_far.long)) in (
          λ honest. let long = ended_long scan' moves turn honest in no_entries (entries_left s job) (omega (arith, first, long)),
          same.0 ∙ sym (out_same s out),
          same.1,
          so_far.copying.out,
        )

    -- the source log could not be read
    pub going_unread : scan.sound ≡ false → CopiesAll s job n (Err stops.Unread) t after
    going_unread unsound = ((copied, steps_at), (view, so_far.was, sym so_far.is_sound ∙ unsound), so_far.copying.out)

    -- the disk is not honest
    pub going_odd : (u : State) (later : Job) → t.honest ≡ false → SetLogStateTransition t after.copy Readable u → CopiesAll s job n (Err stops.Odd) u later
    going_odd u later odd set = (
      sym so_far.stays.honest ∙ odd,
      (copied, (t, (after, steps_at, inl (subst (λ (n' : ℕ). SetLogStateTransition t n' Readable u) so_far.copy set)))),
    )

  -- an honest view does not return this
  pub never_bad : (at : ℕ) (value : _) (scan' : Scan) → NextMoves scan (Err (scans.BadLength at value)) scan'
      → (IsTrue scan.honest → ScanNextTransition scan (Err (scans.BadLength at value)) scan') → t.honest ≡ false
  never_bad at value scan' moves turn = false_from_ne_true t.honest (λ honest.
      let bad = (turn (view_truth honest)).1 in
      let list : part_of scan' ≡ part scan.file scan.from (view_end scan.file) =
      (λ i. part (ap (λ (x : Scan). x.file) moves i) (ap (λ (x : Scan). x.from) moves i) (ap (λ (x : Scan). x.end) moves i))
      ∙ ap (part scan.file scan.from) (ends honest) in
      let spelled = source_spelled t kept after so_far.copying.out.keeps view so_far.last honest in
      none_bad scan.file scan.from (scan_read honest) (subst HasNoBadLength (sym so_far.file) spelled) at value
      (subst (λ (b : List ℕ). IsBadAt scan.from b at value) list
      (subst (λ n. IsBadAt n (part_of scan') at value) (ap (λ (x : Scan). x.from) moves) bad)))

  pub never_odd : (scan' : Scan) → (IsTrue scan.honest → ScanNextTransition scan (Err scans.Odd) scan') → t.honest ≡ false
  never_odd scan' turn = false_from_ne_true t.honest (λ honest. turn (view_truth honest))
