-- What the store invariant gives for the views that a rebuild reads, and why a rebuild fails.
use Rattle.std.proofs.Common.{◌≡◌, ℕ, ◌<◌, ◌^◌, Bool, true, false, not, if◌then◌else◌, IsTrue, List, []}
use Rattle.std.proofs.Common.{Option, Some, None, Ok, Err, unwrap_or, refl, sym, ap, subst, ◌∙◌, arith}
use Rattle.std.specs.Option.{option_map_or, option_and_then}
use Rattle.std.proofs.lemmas.Option.{none-some}
use Rattle.std.specs.FinMap as finite
use Rattle.std.proofs.lemmas.Bool.{false_from_ne_true}
use Rattle.bk_record.specs.Key.{EntryKey}
use Rattle.bk_record.specs.Location.{Place}
use Rattle.bk_record.specs.Record.{key_of, is_foreign}
use Rattle.bk_record.specs.Body.{IsBadAt}
use Rattle.bk_record.specs.Files.{file_of, header_length, records_of, In}
use Rattle.bk_record.specs.Scan.{Ledgers, entries_of}
use Rattle.bk_record.proofs.Entries.{filter-In}
use Rattle.bk_record.specs.Keyed.{Places}
use Rattle.bk_record.proofs.Records.{each_byte}
use Rattle.bk_disk.specs.Disk.{AreLogFiles, view_end}
use Rattle.bk_log.specs.Growing.{HasNoBadLength}
use Rattle.bk_log.specs.declared.found.Found.{Found}
use Rattle.bk_log.specs.Ranges.{part}
use Rattle.bk_log.specs.Scanning.{Scan, part_of, NextMoves, ScanNextTransition}
use Rattle.bk_log.specs.declared.fault.ScanFault.{ScanFault}
use Rattle.bk_log.specs.declared.fault.ScanFault.TheVariants as scans
use Rattle.bk_log.proofs.Fetches.{record_fits}
use Rattle.bk_log.proofs.OneRecord.{stands_once}
use Rattle.bk_store.specs.Entries.{HasEntry}
use Rattle.bk_store.specs.Logs.{View, Log, Logs, is_open, open_parts, published_part}
use Rattle.bk_store.specs.State.{State, StoreParts}
use Rattle.bk_store.specs.Invariant.{ContentInvariant, LogMatchesFile}
use Rattle.bk_store.specs.Abstract.{SatisfiesInvariant}
use Rattle.bk_store.proofs.Cases.{some_value}
use Rattle.bk_collect.specs.Collecting.{RebuildFails, open_view}
use Rattle.bk_collect.specs.Rebuilding.{EntryFails, collect_fault_of}
use Rattle.bk_collect.specs.declared.answer.CollectFault.{CollectFault}
use Rattle.bk_collect.specs.declared.answer.CollectFault.TheVariants as faults
use Rattle.bk_collect.proofs.Taking.{IsTaking, scan_part, scan_honest, next_stands}

-- ---- an open log and its view

pub record ShowsOpen (logs : Logs) (id : ℕ) (view : View) : Type 0 where
  pub log : Log
  pub held : finite.get logs id ≡ Some log
  pub opened : is_open log.state ≡ true
  pub view_is : log.view ≡ Some view

pub shows_open : (logs : Logs) (id : ℕ) (view : View) → open_view logs id ≡ Some view → ShowsOpen logs id view
shows_open logs id view shown = of (finite.get logs id) refl shown
  where
    within : (log : Log) → finite.get logs id ≡ Some log → (b : Bool) → is_open log.state ≡ b
        → (if b then log.view else None) ≡ Some view → ShowsOpen logs id view
    within log held true opened is = record { log = log; held = held; opened = opened; view_is = is }
    within log held false closed is = absurd (none-some view is)

    of : (o : Option Log) → finite.get logs id ≡ o → option_and_then (λ log. if is_open log.state then log.view else None) o ≡ Some view
        → ShowsOpen logs id view
    of None none is = absurd (none-some view is)
    of (Some log) held is = within log held (is_open log.state) refl is

pub part_is : (logs : Logs) (id : ℕ) (view : View) → ShowsOpen logs id view → open_parts logs id ≡ view.bytes
part_is logs id view shows =
    ap (λ (o : Option Log). option_map_or (λ log. if is_open log.state then published_part log else []) o []) shows.held
    ∙ ap (λ b. if b then published_part shows.log else []) shows.opened ∙ ap (λ (o : Option View). option_map_or (λ v. v.bytes) o []) shows.view_is

module _ (p : StoreParts) (reveal_invariant : ContentInvariant p) (id : ℕ) (view : View) (shown : open_view p.state.logs id ≡ Some view) where
  shows : ShowsOpen p.state.logs id view
  shows = shows_open p.state.logs id view shown

  backed : LogMatchesFile p.state.files p.synced id shows.log
  backed = reveal_invariant.logs.each id shows.log shows.held

  part_honest : IsTrue view.is_honest
  part_honest = backed.honest view shows.view_is

  part_spelled : HasNoBadLength view.bytes
  part_spelled = backed.shown view shows.view_is

  part_near : AreLogFiles p.state.files → (at : ℕ) (payload : List ℕ) (key : EntryKey) → In (at, payload) (records_of view.bytes) → key_of payload ≡ Some key
      → at < 2 ^ 32
  part_near files at payload key there keyed =
      let place : Place = record { log = id; at = at } in
      let here : HasEntry (open_parts p.state.logs) place key payload =
      record { stands = subst (λ (b : List ℕ). In (at, payload) (records_of b)) (sym (part_is p.state.logs id view shows)) there; keyed = keyed } in
      let stands = (reveal_invariant.shows.stands place key payload here).stands in
      let file = some_value (finite.get p.state.files id) backed.stands in
      let legal = files.each id file.0 file.1 in
      let same : file_of p.state.files id ≡ file.0 = ap (λ (o : Option (List ℕ)). unwrap_or o []) file.1 in
      let found = subst (λ (b : List ℕ). In (at, payload) (records_of b)) same stands in
      let fits = record_fits file.0 payload at ((stands_once file.0 at).computed payload (each_byte file.0 legal.bytes) found) in
      let size = legal.size in
      omega (arith, fits, size)

-- ---- on an honest disk

entry_record : (file : List ℕ) (r : ℕ × List ℕ) → In r (entries_of file) → In r (records_of file)
unfolding entries_of
entry_record file r there = filter-In (λ x. not (is_foreign x.1)) r (records_of file) there

module _ (s : State) (kept : SatisfiesInvariant s) (id : ℕ) (view : View) (shown : open_view s.logs id ≡ Some view) (honest : IsTrue s.honest) where
  promised : ContentInvariant kept.parts
  promised = kept.keeps.promises (ap (λ (t : State). t.honest) kept.seen ∙ honest)

  shown_there : open_view kept.parts.state.logs id ≡ Some view
  shown_there = ap (λ (t : State). open_view t.logs id) kept.seen ∙ shown

  pub view_honest : IsTrue view.is_honest
  view_honest = part_honest kept.parts promised id view shown_there

  pub view_spelled : HasNoBadLength view.bytes
  view_spelled = part_spelled kept.parts promised id view shown_there

  pub entry_near : AreLogFiles s.files → (at : ℕ) (payload : List ℕ) (key : EntryKey) → In (at, payload) (entries_of view.bytes) → key_of payload ≡ Some key
      → at < 2 ^ 32
  entry_near files at payload key there keyed =
      part_near kept.parts promised id view shown_there (subst (λ (t : State). AreLogFiles t.files) (sym kept.seen) files) at payload key
      (entry_record view.bytes (at, payload) there) keyed

-- ---- why a rebuild fails

module _ (s : State) (kept : SatisfiesInvariant s) (id : ℕ) (view : View) (shown : open_view s.logs id ≡ Some view) where
  -- what an honest view never returns
  pub never_honest : (IsTrue view.is_honest → ⊥) → s.honest ≡ false
  never_honest never = false_from_ne_true s.honest (λ honest. never (view_honest s kept id view shown honest))

  module _ {dead : Ledgers} {end : ℕ} {old : Places} {scan : Scan} {now : Places} (so_far : IsTaking dead id end view old scan now)
      (whole : IsTrue view.is_honest → end ≡ view_end view.bytes) where
    no_bad : (scan' : Scan) (at : ℕ) (value : _) → NextMoves scan (Err (scans.BadLength at value)) scan'
        → (IsTrue scan.honest → ScanNextTransition scan (Err (scans.BadLength at value)) scan') → IsTrue s.honest → ⊥
    no_bad scan' at value moves turn honest =
        let is = view_honest s kept id view shown honest in
        let same : part_of scan' ≡ part_of scan =
        λ i. part (ap (λ (x : Scan). x.file) moves i) (ap (λ (x : Scan). x.from) moves i) (ap (λ (x : Scan). x.end) moves i) in
        let from : scan'.from ≡ header_length = ap (λ (x : Scan). x.from) moves ∙ so_far.from in
        let bad = (turn (scan_honest so_far is)).1 in
        view_spelled s kept id view shown honest at value
        (subst (λ (b : List ℕ). IsBadAt header_length b at value) (same ∙ scan_part so_far (whole is))
        (subst (λ n. IsBadAt n (part_of scan') at value) from bad))

    pub scan_refused : (fault : ScanFault) (scan' : Scan) → NextMoves scan (Err fault) scan' → (IsTrue scan.honest → ScanNextTransition scan (Err fault) scan')
        → (fault ≡ scans.Disk → scan.sound ≡ false) → RebuildFails s (collect_fault_of id fault)
    scan_refused (scans.BadLength at value) scan' moves turn cause = false_from_ne_true s.honest (no_bad scan' at value moves turn)
    scan_refused scans.Disk scan' moves turn cause = (id, (view, shown, sym so_far.sound ∙ cause refl))
    scan_refused scans.Memory scan' moves turn cause = tt
    scan_refused scans.Odd scan' moves turn cause = never_honest (λ is. turn (scan_honest so_far is))

    -- an entry could not be added
    pub entry_refused : (found : Found) (scan' : Scan) → (moves : NextMoves scan (Ok (Some found)) scan')
        → (IsTrue scan.honest → ScanNextTransition scan (Ok (Some found)) scan') → (IsTrue s.honest → AreLogFiles s.files)
        → (fault : CollectFault) → EntryFails found fault → RebuildFails s fault
    entry_refused found scan' moves turn files faults.Disk never = absurd never
    entry_refused found scan' moves turn files faults.Memory fails = tt
    entry_refused found scan' moves turn files (faults.Log log cause) never = absurd never
    entry_refused found scan' moves turn files faults.Odd far = false_from_ne_true s.honest (λ honest.
        let is = view_honest s kept id view shown honest in
        let given = turn (scan_honest so_far is) in
        let near = entry_near s kept id view shown honest (files honest) found.at given.payload found.key
        (next_stands so_far found scan' moves turn whole is) given.stands.keyed in
        omega (arith, near, far))
