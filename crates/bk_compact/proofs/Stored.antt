-- The store invariant in terms of the visible state; the source log of a job and its published
-- part.
use Rattle.std.proofs.Common.{◌≡◌, ◌⊎◌, inl, inr, ℕ, ◌+◌, ◌<◌, ◌≤◌, ◌^◌, true, if◌then◌else◌, IsTrue, List, []}
use Rattle.std.proofs.Common.{◌∷◌, ◌++◌, length, take, drop, slice_get, Option, Some, refl, sym, ap, subst, ◌∙◌, arith}
use Rattle.std.specs.Option.{option_map_or, option_and_then}
use Rattle.std.proofs.lemmas.Option.{same_Some}
use Rattle.std.specs.FinMap as finite
use Rattle.bk_record.specs.Key.{EntryKey}
use Rattle.bk_record.specs.Location.{Place}
use Rattle.bk_record.specs.Record.{key_of}
use Rattle.bk_record.specs.Files.{file_of, header_length, records_of, In}
use Rattle.bk_record.proofs.Places.{same_place}
use Rattle.bk_record.proofs.SortedPairs.{Some-same}
use Rattle.bk_disk.specs.Disk.{view_end}
use Rattle.bk_log.specs.Growing.{HasNoBadLength}
use Rattle.bk_log.specs.Ranges.{IsPassed, entries_in, part}
use Rattle.bk_log.specs.Scanning.{Scan, IsGiven}
use Rattle.bk_log.specs.declared.found.Found.{Found}
use Rattle.bk_store.specs.Entries.{HasEntry}
use Rattle.bk_store.specs.Logs.{View, Log, Logs, HasOpenView, is_open, last_view, open_parts, published_part}
use Rattle.bk_store.specs.State.{State}
use Rattle.bk_store.specs.Published.{IndexIsPublished}
use Rattle.bk_store.specs.Jobs.{Job}
use Rattle.bk_store.specs.JobInvariant.{JobInvariant, IsReadTo, entries_from}
use Rattle.bk_store.specs.Invariant.{HeldLogInvariant, LogMatchesFile}
use Rattle.bk_store.specs.Abstract.{SatisfiesInvariant}
use Rattle.bk_compact.specs.Compacting.{behind, place_of, entries_left}
use Rattle.bk_compact.specs.JobSteps.{IsNextFound}
use Rattle.bk_compact.proofs.Positions.{read_on, entry_ahead, ahead_behind, ahead_stands, drop_next, entries_passed}
use Rattle.bk_record.proofs.Growth.{take_next}

-- ---- any store

module _ (s : State) (kept : SatisfiesInvariant s) where
  pub kept_sent : (key : EntryKey) (place : Place) → finite.get s.index key ≡ Some place → HasOpenView s.logs place.log
  kept_sent =
      subst (λ (t : State). (key : EntryKey) (place : Place) → finite.get t.index key ≡ Some place → HasOpenView t.logs place.log) kept.seen
      kept.keeps.fits.sent

  pub kept_held : (id : ℕ) (log : Log) → finite.get s.logs id ≡ Some log → HeldLogInvariant s.next id log
  kept_held = subst (λ (t : State). (id : ℕ) (log : Log) → finite.get t.logs id ≡ Some log → HeldLogInvariant t.next id log) kept.seen kept.keeps.fits.logs.each

  pub kept_ids : s.next ≤ 2 ^ 31
  kept_ids = subst (λ (t : State). t.next ≤ 2 ^ 31) kept.seen kept.keeps.fits.limits.ids

  pub kept_headed : (id : ℕ) (log : Log) → finite.get s.logs id ≡ Some log → header_length ≤ log.acknowledged
  kept_headed = subst (λ (t : State). (id : ℕ) (log : Log) → finite.get t.logs id ≡ Some log → header_length ≤ log.acknowledged) kept.seen
      (λ id log held. let least = kept.keeps.fits.accounts.total id log held in omega (arith, least))

  pub kept_job : (job : Job) → s.job ≡ Some job → JobInvariant s job
  kept_job = subst (λ (t : State). (job : Job) → t.job ≡ Some job → JobInvariant t job) kept.seen kept.keeps.job

  pub kept_backed : IsTrue s.honest → (id : ℕ) (log : Log) → finite.get s.logs id ≡ Some log → LogMatchesFile s.files kept.parts.synced id log
  kept_backed = subst (λ (t : State). IsTrue t.honest → (id : ℕ) (log : Log) → finite.get t.logs id ≡ Some log → LogMatchesFile t.files kept.parts.synced id log) kept.seen
      (λ honest. (kept.keeps.promises honest).logs.each)

  pub kept_shows : IsTrue s.honest → IndexIsPublished (file_of s.files) (open_parts s.logs) s.index
  kept_shows = subst (λ (t : State). IsTrue t.honest → IndexIsPublished (file_of t.files) (open_parts t.logs) t.index) kept.seen
      (λ honest. (kept.keeps.promises honest).shows)

-- ---- a log that shows a view

module _ (logs : Logs) (id : ℕ) (log : Log) (view : View) (held : finite.get logs id ≡ Some log) (opened : is_open log.state ≡ true)
    (view_is : log.view ≡ Some view) where
  pub shown_part : open_parts logs id ≡ view.bytes
  shown_part =
      ap (λ (o : Option Log). option_map_or (λ l. if is_open l.state then published_part l else []) o []) held
      ∙ ap (λ b. if b then published_part log else []) opened ∙ ap (λ (o : Option View). option_map_or (λ v. v.bytes) o []) view_is

  pub shown_last : last_view logs id ≡ Some view
  shown_last = ap (λ (o : Option Log). option_and_then (λ (l : Log). l.view) o) held ∙ view_is

-- the source log of a job, by its latest view
module _ (s : State) (kept : SatisfiesInvariant s) (job : Job) (is : JobInvariant s job) (view : View) (last : last_view s.logs job.source ≡ Some view) where
  same_view : is.shown.view ≡ view
  same_view = same_Some is.shown.view view
      (sym (shown_last s.logs job.source is.shown.log is.shown.view is.shown.held is.shown.opened is.shown.view_is) ∙ last)

  view_there : is.shown.log.view ≡ Some view
  view_there = is.shown.view_is ∙ ap Some same_view

  pub source_bytes : open_parts s.logs job.source ≡ view.bytes
  source_bytes = shown_part s.logs job.source is.shown.log view is.shown.held is.shown.opened view_there

  pub source_honest : IsTrue s.honest → IsTrue view.is_honest
  source_honest honest = (kept_backed s kept honest job.source is.shown.log is.shown.held).honest view view_there

  pub source_spelled : IsTrue s.honest → HasNoBadLength view.bytes
  source_spelled honest = (kept_backed s kept honest job.source is.shown.log is.shown.held).shown view view_there

-- ---- the next entry of a log

pub behind_is : (found : Found) (n : ℕ) → found.size ≡ 4 + n → found.at + n ≡ behind found
behind_is found n sized = omega (arith, sized)

-- a scan from a position of the log that has reached the entry returns it
module _ (scan : Scan) (foreign : ℕ) (found : Found) (ends : scan.end ≡ view_end scan.file) (read : IsReadTo scan.file scan.from)
    (given : IsGiven scan found foreign) where
  passed : IsPassed scan.from (part scan.file scan.from (view_end scan.file)) (behind found)
      (part scan.file (behind found) (view_end scan.file)) (scan.given + 1) foreign
  passed =
      subst (λ (n : ℕ). IsPassed scan.from (part scan.file scan.from (view_end scan.file)) n (part scan.file n (view_end scan.file)) (scan.given + 1) foreign)
      (behind_is found (length given.payload) given.sized)
      (subst (λ (n : ℕ). IsPassed scan.from (part scan.file scan.from n) (found.at + length given.payload) (part scan.file (found.at + length given.payload) n)
      (scan.given + 1) foreign) ends given.passed)

  listed : slice_get (entries_from scan.file scan.from) scan.given ≡ Some (found.at, given.payload)
  listed = subst (λ (n : ℕ). slice_get (entries_in scan.from (part scan.file scan.from n)) scan.given ≡ Some (found.at, given.payload)) ends given.listed

  pub scan_found : (at : ℕ) → entries_from scan.file at ≡ drop scan.given (entries_from scan.file scan.from) → IsNextFound scan.file at found
  scan_found at come = record {
    payload = given.payload;
    listed = come ∙ drop_next (entries_from scan.file scan.from) scan.given (found.at, given.payload) listed
        ∙ ap (λ (l : List (ℕ × List ℕ)). (found.at, given.payload) ∷ l)
        (sym (entries_passed scan.file scan.from (behind found) (scan.given + 1) foreign passed));
    found_is = record { at_is = refl; keyed = given.stands.keyed; sized = given.sized };
    stands = given.stands;
    read = read_on scan.file scan.from (behind found) (scan.given + 1) foreign read passed;
  }

  -- afterwards the scan is at the end of the entry
  pub scan_come : entries_from scan.file (behind found) ≡ drop (scan.given + 1) (entries_from scan.file scan.from)
  scan_come = entries_passed scan.file scan.from (behind found) (scan.given + 1) foreign passed

  pub scan_taken : take (scan.given + 1) (entries_from scan.file scan.from)
      ≡ take scan.given (entries_from scan.file scan.from) ++ (found.at, given.payload) ∷ []
  scan_taken = take_next (entries_from scan.file scan.from) scan.given (found.at, given.payload) listed

-- ---- what the index points to ahead of the job

-- If the index points to an entry of the source log that was not examined yet, that entry is the
-- next one or after it.
pub named_ahead : (s : State) (kept : SatisfiesInvariant s) (job : Job) (found : Found) → IsTrue s.honest → IsReadTo (open_parts s.logs job.source) job.at
    → IsNextFound (open_parts s.logs job.source) job.at found
    → (key : EntryKey) (place : Place) → finite.get s.index key ≡ Some place → place.log ≡ job.source → job.at < place.at
    → ((key ≡ found.key) × (place ≡ place_of job found)) ⊎ (behind found < place.at)
named_ahead s kept job found honest read next key place named here ahead =
    let bytes = open_parts s.logs job.source in
    let entry = (kept_shows s kept honest).shown key place named in
    let stands : In (place.at, entry.0) (records_of bytes) = subst (λ (n : ℕ). In (place.at, entry.0) (records_of (open_parts s.logs n))) here entry.1.stands in
    let there : In (place.at, entry.0) ((found.at, next.payload) ∷ entries_from bytes (behind found)) =
    subst (In (place.at, entry.0)) next.listed (entry_ahead bytes job.at read place.at entry.0 key stands entry.1.keyed ahead) in
    elim there [
      | inl own ↦
          let at : found.at ≡ place.at = ap (λ (r : ℕ × List ℕ). r.0) own in
          let same : next.payload ≡ entry.0 = ap (λ (r : ℕ × List ℕ). r.1) own in
          inl (Some-same (sym entry.1.keyed ∙ ap key_of (sym same) ∙ next.found_is.keyed), same_place place (place_of job found) here (sym at))
      | inr later ↦ inr (ahead_behind bytes (behind found) place.at entry.0 later)
    ]

-- if no entry is left, the index points to none there
pub none_ahead : (s : State) (kept : SatisfiesInvariant s) (job : Job) → IsTrue s.honest → IsReadTo (open_parts s.logs job.source) job.at
    → entries_left s job ≡ [] → (key : EntryKey) (place : Place) → finite.get s.index key ≡ Some place → place.log ≡ job.source → ¬ (job.at < place.at)
none_ahead s kept job honest read none key place named here ahead =
    let bytes = open_parts s.logs job.source in
    let entry = (kept_shows s kept honest).shown key place named in
    let stands : In (place.at, entry.0) (records_of bytes) = subst (λ (n : ℕ). In (place.at, entry.0) (records_of (open_parts s.logs n))) here entry.1.stands in
    subst (In (place.at, entry.0)) none (entry_ahead bytes job.at read place.at entry.0 key stands entry.1.keyed ahead)

-- the next entry is in the published part of the source log
pub next_entry : (s : State) (job : Job) (found : Found) → IsReadTo (open_parts s.logs job.source) job.at
    → (next : IsNextFound (open_parts s.logs job.source) job.at found) → HasEntry (open_parts s.logs) (place_of job found) found.key next.payload
next_entry s job found read next = record {
  stands = ahead_stands (open_parts s.logs job.source) job.at found.at next.payload read (subst (In (found.at, next.payload)) (sym next.listed) (inl refl));
  keyed = next.found_is.keyed;
}
