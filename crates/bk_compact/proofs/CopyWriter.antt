-- The writer of a target log, and the next entry to append.
use Rattle.std.proofs.Common.{◌≡◌, ◌⊎◌, inl, inr, ℕ, zero, suc, ◌+◌, ◌<◌, ◌≤◌, ◌^◌, true, false, IsTrue, List, [], ◌∷◌}
use Rattle.std.proofs.Common.{length, Option, Some, None, Result, Ok, Err, unwrap_or, refl, sym, ap, subst, ◌∙◌, arith}
use Rattle.std.specs.Option.{option_and_then}
use Rattle.std.proofs.lemmas.Option.{same_Some}
use Rattle.std.specs.FinMap as finite
use Rattle.bk_record.specs.Location.{Place}
use Rattle.bk_record.specs.Files.{file_of, header_length, records_of, In}
use Rattle.bk_record.proofs.Places.{same_place}
use Rattle.bk_log.specs.Places.{HasEntryAt, FetchFails}
use Rattle.bk_log.specs.Scanning.{Scan}
use Rattle.bk_log.specs.declared.fault.FetchFault.{FetchFault}
use Rattle.bk_log.specs.declared.fault.FetchFault.TheVariants as fetches
use Rattle.bk_log.specs.Writing as writers
use Rattle.bk_log.proofs.OneRecord.{stands_once}
use Rattle.bk_log.specs.declared.found.Found.{Found}
use Rattle.bk_log.specs.declared.fault.LogFault.{LogFault}
use Rattle.bk_log.specs.declared.fault.LogFault.TheVariants as log_faults
use Rattle.std.specs.List.{All}
use Rattle.std.proofs.lemmas.List.Elements.{All-head, All-tail}
use Rattle.bk_record.specs.Spelling.{IsBytes}
use Rattle.bk_log.proofs.Fetches.{record_fits}
use Rattle.bk_disk.specs.Disk.{AreLogFiles}
use Rattle.bk_store.specs.Entries.{HasEntry}
use Rattle.bk_store.specs.Logs.{Log, Logs, View, is_written, open_parts, last_view}
use Rattle.bk_store.specs.State.{State}
use Rattle.bk_store.specs.Jobs.{Job, with_move}
use Rattle.bk_store.specs.JobInvariant.{JobInvariant, copy_state}
use Rattle.bk_store.specs.Appending.{next_place}
use Rattle.bk_store.specs.Primitives.{IsIn, CanTake, AppendRecordTransition, SetLogStateTransition, writer_of}
use Rattle.bk_store.specs.CompactionPrimitives.{CanAppendCopied}
use Rattle.bk_store.specs.Abstract.{SatisfiesInvariant}
use Rattle.bk_store.specs.declared.job.Phase.{Phase}
use Rattle.bk_store.specs.declared.log.LogState.TheVariants.{Copying, Readable}
use Rattle.bk_store.proofs.Cases.{some_value}
use Rattle.bk_compact.specs.declared.entries.Stopped.{Stopped}
use Rattle.bk_compact.specs.declared.entries.Stopped.TheVariants as stops
use Rattle.bk_compact.specs.Compacting.{behind, place_of}
use Rattle.bk_compact.specs.JobSteps.{CopiesEntry, IsAhead, IsCopying, IsEntry, IsScanOf, StopsAt, stop_of_put}
use Rattle.bk_compact.proofs.Stored.{kept_backed, kept_headed, kept_held, kept_ids, kept_shows}
use Rattle.bk_compact.proofs.Stored.{next_entry, source_bytes, source_honest, behind_is}
use Rattle.std.proofs.lemmas.Bool.{false_from_ne_true}

-- ---- the target log and its writer

pub record HasWriter (s : State) (id : ℕ) : Type 0 where
  pub log : Log
  pub w : writers.Writing
  pub held : finite.get s.logs id ≡ Some log
  pub state_is : log.state ≡ Copying
  pub writer : log.writer ≡ Some w
  pub own : w.log ≡ id
  pub headed : header_length ≤ w.end
  pub id_fits : id < 2 ^ 31
  pub backed : IsTrue s.honest → writers.Writes s.files w

pub writer_is : (logs : Logs) (id : ℕ) (log : Log) → finite.get logs id ≡ Some log → writer_of logs id ≡ log.writer
writer_is logs id log held = ap (λ (o : Option Log). option_and_then (λ (l : Log). l.writer) o) held

pub copy_writer : (s : State) → SatisfiesInvariant s → (id : ℕ) → IsIn s id Copying → HasWriter s id
copy_writer s kept id is =
    let old = kept_held s kept id is.log is.held in
    let found = some_value is.log.writer (old.written (copying is.log is.state_is)) in
    record {
      log = is.log;
      w = found.0;
      held = is.held;
      state_is = is.state_is;
      writer = found.1;
      own = (old.by found.0 found.1).own;
      headed = let long = (old.by found.0 found.1).long in let least = kept_headed s kept id is.log is.held in omega (arith, long, least);
      id_fits = let most = kept_ids s kept in omega (arith, old.below, most);
      backed = λ honest. (kept_backed s kept honest id is.log is.held).writes found.0 found.1;
    }
  where
    copying : (log : Log) → log.state ≡ Copying → is_written log.state ≡ true
    copying log state_is = ap is_written state_is

-- the place of its next payload, after the length field
pub place_next : (s : State) (id : ℕ) (has : HasWriter s id) (w : writers.Writing) → writer_of s.logs id ≡ Some w → (place : Place) (end : ℕ) → end ≡ w.end
    → place ≡ record { log = id; at = end + 4 } → (x : writers.Writing) × (writer_of s.logs id ≡ Some x) × (place ≡ next_place x)
place_next s id has w there place end end_is is =
    let one : has.w ≡ w = same_Some has.w w (sym (writer_is s.logs id has.log has.held ∙ has.writer) ∙ there) in
    let own : w.log ≡ id = ap (λ (x : writers.Writing). x.log) (sym one) ∙ has.own in
    (w, there, same_place place (next_place w) (ap (λ (p : Place). p.log) is ∙ sym own) (ap (λ (p : Place). p.at) is ∙ ap (λ n. n + 4) end_is))

-- the target log has room for the next entry
module _ (s : State) (kept : SatisfiesInvariant s) (job : Job) (is : IsCopying s job) (found : Found) (ahead : IsAhead s job found) (near : behind found < 2 ^ 32)
    (payload : List ℕ) (entry : IsEntry payload found) where
  in_copy : IsIn s job.copy Copying
  in_copy = subst (λ (p : Phase). IsIn s job.copy (copy_state p)) is.phase is.out.keeps.copy

  copy_takes : CanTake s job.copy Copying payload
  copy_takes =
      let has = copy_writer s kept job.copy in_copy in
      let room = is.out.keeps.room has.w (writer_is s.logs job.copy has.log has.held ∙ has.writer) in
      let place = behind_is found (length payload) entry.sized in
      record {
        log = has.log;
        w = has.w;
        writer = record { held = has.held; writer = has.writer };
        state_is = has.state_is;
        room = omega (arith, room, place, near, ahead.ahead);
      }

  pub may_copy : finite.get s.index found.key ≡ Some (place_of job found)
      → (IsTrue s.honest → HasEntry (file_of s.files) (place_of job found) found.key payload)
      → CanAppendCopied s job.copy found.key (place_of job found) payload
  may_copy sent stands = record {
    idle = λ other runs. absurd (none_some other (sym is.out.none ∙ runs));
    sent = sent;
    sized = entry.legal;
    keyed = entry.keyed;
    stands = stands;
    takes = copy_takes;
  }
    where
      none_some : (other : Job) → None ≡ Some other → ⊥
      none_some other wrong = cc

-- a payload of the entry's key is the one in the source log
module _ (s : State) (kept : SatisfiesInvariant s) (job : Job) (is : JobInvariant s job) (found : Found) (ahead : IsAhead s job found) (payload : List ℕ)
    (fetched : HasEntryAt (open_parts s.logs job.source) found.at found.key payload) (honest : IsTrue s.honest) where
  fetched_is : (ahead.next honest).payload ≡ payload
  fetched_is =
      (stands_once (open_parts s.logs job.source) found.at).one (ahead.next honest).payload payload (ahead.next honest).stands.here fetched.here

  pub fetched_stands : HasEntry (open_parts s.logs) (place_of job found) found.key payload
  fetched_stands =
      subst (HasEntry (open_parts s.logs) (place_of job found) found.key) fetched_is
      (next_entry s job found (is.honest honest).read (ahead.next honest))

  pub fetched_filed : HasEntry (file_of s.files) (place_of job found) found.key payload
  fetched_filed = (kept_shows s kept honest).stands (place_of job found) found.key payload fetched_stands

  pub fetched_entry : IsEntry payload found
  fetched_entry = record {
    legal = fetched.here.begins.legal;
    sized = subst (λ (p : List ℕ). found.size ≡ 4 + length p) fetched_is (ahead.next honest).found_is.sized;
    keyed = fetched.keyed;
  }

-- the same for a fetch from a view of the source log
module _ (s : State) (kept : SatisfiesInvariant s) (job : Job) (is : IsCopying s job) (found : Found) (ahead : IsAhead s job found) (view : View)
    (last : last_view s.logs job.source ≡ Some view) (from_place : Place) (place : from_place ≡ place_of job found) where
  whole : open_parts s.logs job.source ≡ view.bytes
  whole = source_bytes s kept job is.out.keeps view last

  there : (payload : List ℕ) → HasEntryAt view.bytes from_place.at found.key payload → HasEntryAt (open_parts s.logs job.source) found.at found.key payload
  there payload entry =
      subst (λ (b : List ℕ). HasEntryAt b found.at found.key payload) (sym whole)
      (subst (λ n. HasEntryAt view.bytes n found.key payload) (ap (λ (p : Place). p.at) place) entry)

  -- a fetch that finds no such record, or fails with `Odd`, contradicts an honest disk
  pub never_missing : (fault : FetchFault) → (IsTrue view.is_honest → FetchFails view.bytes from_place.at found.key fault)
      → (fault ≡ fetches.NotThere) ⊎ (fault ≡ fetches.Odd) → s.honest ≡ false
  never_missing fetches.NotThere fails is_so = false_from_ne_true s.honest (λ honest.
      let next = ahead.next honest in
      let here : HasEntryAt view.bytes found.at found.key next.payload =
      subst (λ (b : List ℕ). HasEntryAt b found.at found.key next.payload) whole next.stands in
      fails (source_honest s kept job is.out.keeps view last honest) next.payload
      (subst (λ n. HasEntryAt view.bytes n found.key next.payload) (sym (ap (λ (p : Place). p.at) place)) here))
  never_missing fetches.Odd fails is_so = false_from_ne_true s.honest (λ honest. fails (source_honest s kept job is.out.keeps view last honest))
  never_missing fetches.Disk fails is_so = absurd (elim is_so [ inl wrong ↦ other wrong | inr wrong ↦ another wrong ])
    where
      other : fetches.Disk ≡ fetches.NotThere → ⊥
      other wrong = cc

      another : fetches.Disk ≡ fetches.Odd → ⊥
      another wrong = cc
  never_missing fetches.Memory fails is_so = absurd (elim is_so [ inl wrong ↦ other wrong | inr wrong ↦ another wrong ])
    where
      other : fetches.Memory ≡ fetches.NotThere → ⊥
      other wrong = cc

      another : fetches.Memory ≡ fetches.Odd → ⊥
      another wrong = cc

  -- the payload fetched is that of the entry
  pub fetched_there : (payload : List ℕ) → (IsTrue view.is_honest → HasEntryAt view.bytes from_place.at found.key payload) → IsTrue s.honest
      → HasEntryAt (open_parts s.logs job.source) found.at found.key payload
  fetched_there payload fetched honest = there payload (fetched (source_honest s kept job is.out.keeps view last honest))

  -- the payload lent by the scan is that of the entry
  pub lent_there : (scan : Scan) → IsScanOf view.bytes view.is_honest scan → (lent : List ℕ)
      → (IsTrue scan.honest → (payload : List ℕ) → HasEntryAt scan.file found.at found.key payload → found.size ≡ 4 + length payload → lent ≡ payload)
      → IsTrue s.honest → HasEntryAt (open_parts s.logs job.source) found.at found.key lent
  lent_there scan scans lent entry honest =
      let next = ahead.next honest in
      let truth : IsTrue scan.honest = scans.honest_is ∙ source_honest s kept job is.out.keeps view last honest in
      let here : HasEntryAt scan.file found.at found.key next.payload =
      subst (λ (b : List ℕ). HasEntryAt b found.at found.key next.payload) (whole ∙ sym scans.file_is) next.stands in
      subst (λ (p : List ℕ). HasEntryAt (open_parts s.logs job.source) found.at found.key p) (sym (entry truth next.payload here next.found_is.sized))
      next.stands

-- the disk is not honest, so the target log becomes Readable
pub stops_odd : (s t : State) (job : Job) (found : Found) (stopped : Stopped) → stopped ≡ stops.Odd → s.honest ≡ false → SetLogStateTransition s job.copy Readable t
    → StopsAt s job found stopped t job
stops_odd s t job found stopped is honest turn = subst (λ (r : Stopped). StopsAt s job found r t job) (sym is) (honest, inl turn)

-- on an honest disk the next entry is in the first 2 ^ 32 bytes of the log
pub next_near : (s : State) → SatisfiesInvariant s → (job : Job) → JobInvariant s job → (found : Found) → IsAhead s job found → (IsTrue s.honest → AreLogFiles s.files)
    → IsTrue s.honest → behind found < 2 ^ 32
next_near s kept job is found ahead files honest =
    let next = ahead.next honest in
    let place = place_of job found in
    let entry = next_entry s job found (is.honest honest).read next in
    let stands = (kept_shows s kept honest).stands place found.key next.payload entry in
    let held = kept_backed s kept honest job.source is.shown.log is.shown.held in
    let file = some_value (finite.get s.files job.source) held.stands in
    let legal = (files honest).each job.source file.0 file.1 in
    let same : file_of s.files job.source ≡ file.0 = ap (λ (o : Option (List ℕ)). unwrap_or o []) file.1 in
    let there = subst (λ (b : List ℕ). In (found.at, next.payload) (records_of b)) same stands.stands in
    let fits = record_fits file.0 next.payload found.at ((stands_once file.0 found.at).computed next.payload (each_byte file.0 legal.bytes) there) in
    let size = legal.size in
    let end = behind_is found (length next.payload) next.found_is.sized in
    omega (arith, fits, size, end)
  where
    each_byte : (bytes : List ℕ) → All (λ b. b < 2 ^ 8) bytes → IsBytes bytes
    each_byte [] all i = omega arith
    each_byte (b ∷ bytes) all zero = All-head (λ x. x < 2 ^ 8) b bytes all
    each_byte (b ∷ bytes) all (suc i) = each_byte bytes (All-tail (λ x. x < 2 ^ 8) b bytes all) i

-- an entry was appended at the place that the job has noted
pub put_copies : (s t : State) (job after : Job) (found : Found) (payload : List ℕ) (place noted : Place) → (result : Result Place LogFault) → result ≡ Ok place
    → finite.get s.index found.key ≡ Some (place_of job found)
    → (IsTrue s.honest → HasEntry (open_parts s.logs) (place_of job found) found.key payload) → AppendRecordTransition s job.copy payload result t
    → IsEntry payload found → (x : writers.Writing) × (writer_of s.logs job.copy ≡ Some x) × (noted ≡ next_place x)
    → after ≡ with_move job (record { key = found.key; from = place_of job found; to = noted }) → CopiesEntry s job found (Ok tt) t after
put_copies s t job after found payload place noted result is sent stands turn entry at moved =
    let put : AppendRecordTransition s job.copy payload (Ok place) t = subst (λ (r : Result Place LogFault). AppendRecordTransition s job.copy payload r t) is turn in
    let one : put.1.0 ≡ at.0 = same_Some put.1.0 at.0 (sym (writer_is s.logs job.copy put.0 put.1.1.held ∙ put.1.1.writer) ∙ at.1) in
    let same : noted ≡ place = at.2 ∙ ap next_place (sym one) ∙ sym put.1.2 in (
      payload,
      (
        place,
        record { sent = sent; stands = stands; put = put },
        entry,
        moved ∙ ap (λ (p : Place). with_move job (record { key = found.key; from = place_of job found; to = p })) same,
      ),
    )

-- state after a failed append
pub put_stops : (s t : State) (job : Job) (found : Found) (payload : List ℕ) (fault : LogFault) → finite.get s.index found.key ≡ Some (place_of job found)
    → (IsTrue s.honest → HasEntry (open_parts s.logs) (place_of job found) found.key payload) → AppendRecordTransition s job.copy payload (Err fault) t
    → StopsAt s job found (stop_of_put fault) t job
put_stops s t job found payload log_faults.Memory sent stands turn = (turn.0, turn.1, refl)
put_stops s t job found payload log_faults.Disk sent stands turn = (payload, record { sent = sent; stands = stands; put = turn })
put_stops s t job found payload log_faults.Failed sent stands never = absurd never
put_stops s t job found payload log_faults.Odd sent stands turn = (turn.0, inr (payload, record { sent = sent; stands = stands; put = turn }))
