-- A log cut behind its last whole record: where a scan says that this ends, and what a cut of it leaves.
use Rattle.std.proofs.Common.{◌≡◌, inl, inr, ℕ, ℤ, ◌+◌, ◌-◌, ◌≤◌, ◌<◌, Bool, true, false, List, [], ◌++◌, length, take, drop, Option, Some, None, IsNone, IsTrue, Ok, Err}
use Rattle.std.proofs.Common.{refl, sym, ap, ◌∙◌, subst, arith, length-append, length-drop, append_assoc}
use Rattle.std.specs.Prelude.{◌⊎◌}
use Rattle.std.specs.Int.{w32, cast_signed}
use Rattle.std.specs.Option.{option_map_or}
use Rattle.std.specs.FinMap as map
use Rattle.std.proofs.lemmas.List.{append-nil, drop-drop, drop-take, drop_at, take_at}
use Rattle.bk_record.specs.Record.{record_of, length_field, signed_field}
use Rattle.bk_record.specs.Body.{Body, IsBadAt, starts_with_record}
use Rattle.bk_record.specs.Body.Body.{done, more, torn}
use Rattle.bk_record.specs.Files.{Files, header_length, records_of, rest_of}
use Rattle.bk_record.specs.Spelling.{all_pieces, all_leftover}
use Rattle.bk_record.proofs.Growth.{records_of-body}
use Rattle.bk_record.proofs.Records.{length_field-append, starts-nil, starts-torn}
use Rattle.bk_record.proofs.NumberMaps.{get-insert_same, insert-insert}
use Rattle.bk_disk.specs.Disk.{IsFile, files_after_patch, patched_file, view_end}
use Rattle.bk_head.specs.declared.header.Header.{Header}
use Rattle.bk_head.specs.Header.{patch_of}
use Rattle.bk_log.specs.declared.fault.ScanFault.{ScanFault}
use Rattle.bk_log.specs.declared.fault.ScanFault.TheVariants.{BadLength, Disk, Memory, Odd}
use Rattle.bk_log.specs.declared.found.Found.{Found}
use Rattle.bk_log.specs.Scanning.{Scan, part_of, IsFinished, NextMoves, ScanFails}
use Rattle.bk_log.proofs.Ranges.{all_leftover-file, all_pieces-behind, all_pieces-file, all_pieces-stop}
use Rattle.bk_log.proofs.Files.{patched-stands}
use Rattle.bk_log.proofs.Passes.{bad_stops}
use Rattle.bk_inspect.specs.declared.cut.Cut.{Cut}
use Rattle.bk_inspect.specs.declared.cut.CutFault.{CutFault}
use Rattle.bk_inspect.specs.declared.cut.CutFault.TheVariants.{Unread, Taken, Blocked, Uncopied, Uncut}
use Rattle.bk_inspect.specs.declared.header.Head.{Head}
use Rattle.bk_inspect.specs.declared.header.Head.TheVariants as heads
use Rattle.bk_inspect.specs.declared.cut.NamedMap.{NamedMap}
use Rattle.bk_inspect.specs.declared.cut.NamedMap.TheVariants.{Old, Unnamed, Lost, Whole}
use Rattle.bk_inspect.specs.declared.fault.DirFault.{DirFault}
use Rattle.bk_inspect.specs.Copying.{HasAside, IsOther, LeavesCopies}
use Rattle.bk_inspect.specs.Heads.{IsHead}
use Rattle.bk_inspect.specs.Reading.{OfFile}
use Rattle.bk_inspect.specs.Sealing.{SealLeaves, SealsOne}
use Rattle.bk_inspect.specs.Cutting.{CutTransition, CutsAndSeals, EndsAs, EndsWholeAt, IsChange, IsCutAside, IsCutOf, IsLeftAside, LosesNothing, NamesMap, ScanEnds}
use Rattle.bk_inspect.specs.Cutting.{WritesCut, clear_if, cleared_if, cut_to}

-- what a body leaves stands behind whole records
body_front : {from : ℕ} {bytes rest : List ℕ} {records : List (ℕ × List ℕ)} → Body from bytes records rest
    → (front : List ℕ) × ((bytes ≡ front ++ rest) × Body from front records [])
body_front (done) = ([], (refl, done))
body_front (torn is) = ([], (refl, done))
body_front {rest = rest} (more {payload = payload} {behind = behind} legal body) =
    let inner = body_front body in (
      record_of payload ++ inner.0,
      (ap (λ (b : List ℕ). record_of payload ++ b) inner.1.0 ∙ sym (append_assoc (record_of payload) inner.0 rest), more legal inner.1.1),
    )

body_stops : {from : ℕ} {bytes rest : List ℕ} {records : List (ℕ × List ℕ)} → Body from bytes records rest → starts_with_record rest ≡ false
body_stops (done) = starts-nil
body_stops (torn {bytes = bytes} is) = starts-torn bytes is
body_stops (more legal body) = body_stops body

signed_field-append : (field behind : List ℕ) → length field ≡ 4 → signed_field (field ++ behind) ≡ signed_field field
unfolding signed_field length_field
signed_field-append field behind four = ap (cast_signed w32) (length_field-append field behind four)

-- a log of whole records and of bytes that don't begin with one
ends_whole : (file front tail : List ℕ) (records : List (ℕ × List ℕ)) (at : ℕ) → header_length ≤ length file → drop header_length file ≡ front ++ tail
    → Body header_length front records [] → starts_with_record tail ≡ false → at ≡ header_length + length front → EndsWholeAt file at
ends_whole file front tail records at long split body stops is =
    let kept : drop header_length (take at file) ≡ front =
    ap (λ (n : ℕ). drop header_length (take n file)) is ∙ drop-take header_length (length front) file
    ∙ ap (take (length front)) split ∙ take_at front tail (length front) refl in
    let behind : drop at file ≡ tail =
    ap (λ (n : ℕ). drop n file) is ∙ sym (drop-drop (length front) header_length file)
    ∙ ap (drop (length front)) split ∙ drop_at front tail (length front) refl in
    let here : records_of file ≡ records =
    sym (all_pieces-file file) ∙ ap (all_pieces header_length) split ∙ all_pieces-behind tail body refl
    ∙ ap (λ (l : List (ℕ × List ℕ)). records ++ l) (all_pieces-stop (header_length + length front) tail stops) ∙ append-nil records in
    let whole : Body header_length (drop header_length (take at file)) (records_of file) [] =
    subst (λ (b : List ℕ). Body header_length b (records_of file) []) (sym kept)
    (subst (λ (r : List (ℕ × List ℕ)). Body header_length front r []) (sym here) body) in
    record {
      headed = omega (arith, is);
      within = omega (arith, is, long, ap length split, length-drop header_length file, length-append front tail);
      whole = whole;
      found = records_of-body (take at file) whole;
      stops = subst (λ (b : List ℕ). starts_with_record b ≡ false) (sym behind) stops;
    }

-- the place that a scan tells, of a log whose end is torn
pub cut_torn : (file : List ℕ) (end tail at : ℕ) → header_length ≤ length file → end ≡ view_end file → ScanEnds file (Ok tail) → at ≡ end - tail
    → EndsWholeAt file at
cut_torn file end tail at long is ends place =
    let front = body_front ends.0 in
    let size = length-append front.0 (rest_of file) in
    let part = length-drop header_length file in
    let split = ap length front.1.0 in
    let here : at ≡ header_length + length front.0 = omega (arith, long, is, ends.1, place, size, part, split) in
    ends_whole file front.0 (rest_of file) (records_of file) at long front.1.0 front.1.1 (body_stops ends.0) here

-- the same of a log that has a bad length
pub cut_bad : (file : List ℕ) (at : ℕ) (value : ℤ) → header_length ≤ length file → ScanEnds file (Err (BadLength at value)) → EndsWholeAt file at
cut_bad file at value long bad =
    let tail = bad.field ++ bad.behind in
    let split = bad.bytes_are ∙ append_assoc bad.before bad.field bad.behind in
    let stops = bad_stops tail value (bad.value_is ∙ sym (signed_field-append bad.field bad.behind bad.four)) bad.below in
    ends_whole file bad.before tail bad.records at long split bad.whole stops bad.place

-- a scan that goes on: it has met no fault, and found nothing torn
abbrev pub Passing : Scan → Scan → Type 0
Passing first now = now ≡ record first { left = now.left; given = now.given; foreign = now.foreign }

pub passing_next : (first now next : Scan) (found : Found) → Passing first now → NextMoves now (Ok (Some found)) next → Passing first next
passing_next first now next found passing moves =
    moves.2 ∙ ap (λ (s : Scan). record s { left = next.left; given = s.given + 1; foreign = next.foreign }) passing
    ∙ ap (λ (n : ℕ). record first { left = next.left; given = n; foreign = next.foreign }) (sym (ap (λ (s : Scan). s.given) moves.2))

-- such a scan of a whole log comes to its end
pub passing_ends : (first now next : Scan) (file : List ℕ) → Passing first now → NextMoves now (Ok None) next → (IsTrue now.honest → IsFinished next)
    → IsTrue first.honest → first.from ≡ header_length → part_of first ≡ drop header_length file → ScanEnds file (Ok next.torn)
passing_ends first now next file passing moves finished honest from_is part_is =
    let is : next ≡ record first { left = next.left; given = now.given; foreign = next.foreign; torn = next.torn; ended = true } =
    moves.1 ∙ ap (λ (s : Scan). record s { left = next.left; foreign = next.foreign; torn = next.torn; ended = true }) passing in
    let done = subst IsFinished is (finished (subst (λ (b : Bool). IsTrue b) (sym (ap (λ (s : Scan). s.honest) passing)) honest)) in (
      subst (λ (r : List ℕ). Body header_length (drop header_length file) (records_of file) r) (all_leftover-file file)
          (subst (λ (r : List (ℕ × List ℕ)). Body header_length (drop header_length file) r (all_leftover (drop header_length file))) (all_pieces-file file)
          (subst (λ (b : List ℕ). Body header_length b (all_pieces header_length b) (all_leftover b)) part_is
          (subst (λ (n : ℕ). Body n (part_of first) (all_pieces n (part_of first)) (all_leftover (part_of first))) from_is done.spelled))),
      done.torn ∙ ap (λ (b : List ℕ). length (all_leftover b)) part_is ∙ ap length (all_leftover-file file),
    )

-- or meets a fault
pub passing_fails : (first now next : Scan) (file : List ℕ) (fault : ScanFault) → Passing first now → NextMoves now (Err fault) next
    → (IsTrue now.honest → ScanFails next fault) → IsTrue first.honest → first.from ≡ header_length → part_of first ≡ drop header_length file
    → ScanEnds file (Err fault)
passing_fails first now next file (BadLength at value) passing moves fails honest from_is part_is =
    let is : next ≡ record first { left = next.left; given = now.given; foreign = next.foreign; fault = Some (BadLength at value) } =
    moves ∙ ap (λ (s : Scan). record s { left = next.left; foreign = next.foreign; fault = Some (BadLength at value) }) passing in
    let bad = subst (λ (s : Scan). ScanFails s (BadLength at value)) is (fails (subst (λ (b : Bool). IsTrue b) (sym (ap (λ (s : Scan). s.honest) passing)) honest)) in
    subst (λ (b : List ℕ). IsBadAt header_length b at value) part_is (subst (λ (n : ℕ). IsBadAt n (part_of first) at value) from_is bad.1)
passing_fails first now next file Disk passing moves fails honest from_is part_is = tt
passing_fails first now next file Memory passing moves fails honest from_is part_is = tt
passing_fails first now next file Odd passing moves fails honest from_is part_is = tt

-- what is to be cut off a log whose header was read, and then a view of it
pub cut_found : (files mid : Files) (log long : ℕ) (head : Head) (header : Header) (bytes : List ℕ) (end at : ℕ) (named : NamedMap)
    → OfFile files log (λ file. (long ≡ length file) × IsHead file head) → head ≡ heads.Whole header → mid ≡ files → IsFile mid log bytes
    → end ≡ view_end bytes → (header_length ≤ length bytes → EndsWholeAt bytes at) → NamesMap (take at bytes) header named
    → OfFile files log (λ file. IsCutOf file (record { at = at; bytes = end - at; header = header; map = named }))
cut_found files mid log long head header bytes end at named found is same viewed ends whole names =
    let stands : map.get files log ≡ Some bytes = ap (λ (fs : Files). map.get fs log) (sym same) ∙ viewed in
    let before : map.get files log ≡ Some found.0 = found.1 in
    let here : found.0 ≡ bytes = cc in
    let headed : IsHead bytes (heads.Whole header) = subst (λ (h : Head). IsHead bytes h) is (subst (λ (f : List ℕ). IsHead f head) here found.2.1) in
    let cut = whole headed.0 in
    (bytes, stands, record { ends = cut; all = omega (arith, headed.0, ends, cut.within); headed = headed.1; names = names })

-- ---- cutting

cut_to-stands : (files : Files) (log kept : ℕ) (file : List ℕ) → IsFile files log file → cut_to files log kept ≡ map.insert files log (take kept file)
cut_to-stands files log kept file stands = ap (λ (o : Option (List ℕ)). option_map_or (λ f. map.insert files log (take kept f)) o files) stands

-- a log that was cut, with other bytes in its header
cut-patched : (files : Files) (log kept : ℕ) (file left : List ℕ) → IsFile files log file
    → files_after_patch (cut_to files log kept) log left ≡ map.insert files log (patched_file (take kept file) left)
cut-patched files log kept file left stands =
    let front = take kept file in
    ap (λ (fs : Files). files_after_patch fs log left) (cut_to-stands files log kept file stands)
    ∙ patched-stands (map.insert files log front) log front left (get-insert_same files log front)
    ∙ insert-insert files log front (patched_file front left)

cleared-stands : (named : NamedMap) (files : Files) (log kept : ℕ) (file : List ℕ) → IsFile files log file
    → clear_if named (cut_to files log kept) log ≡ map.insert files log (cleared_if named (take kept file))
cleared-stands Old files log kept file stands = cut_to-stands files log kept file stands
cleared-stands Unnamed files log kept file stands = cut_to-stands files log kept file stands
cleared-stands Lost files log kept file stands = cut-patched files log kept file (patch_of 0 0) stands
cleared-stands Whole files log kept file stands = cut_to-stands files log kept file stands

-- a copy that was synced
copy_kept : (copies' synced' : Files) (copies : Files) (log : ℕ) (file : List ℕ) (aside : HasAside copies log file copies')
    → map.get synced' log ≡ map.get copies' log → map.get synced' log ≡ Some aside.copy
copy_kept copies' synced' copies log file aside synced = synced ∙ ap (λ (fs : Files). map.get fs log) aside.now ∙ get-insert_same copies log aside.copy

-- a log that was cut once its copy stood
pub cut_aside : (files mid now files' copies copies' synced' : Files) (log : ℕ) (cut : Cut) → OfFile files log (λ file. IsCutOf file cut) → IsChange cut
    → mid ≡ files → now ≡ mid
    → ((file : List ℕ) → IsFile mid log file → cut.at + cut.bytes ≡ length file → HasAside copies log file copies')
    → map.get synced' log ≡ map.get copies' log → files' ≡ clear_if cut.map (cut_to now log cut.at) log
    → IsCutAside files copies log cut files' copies' synced'
cut_aside files mid now files' copies copies' synced' log cut found some first second copied synced wrote =
    let file = found.0 in
    let copy = copied file (ap (λ (fs : Files). map.get fs log) first ∙ found.1) found.2.all in
    record {
      file = file;
      stands = found.1;
      cuts = found.2;
      some = some;
      aside = copy;
      kept = copy_kept copies' synced' copies log file copy synced;
      now = wrote ∙ ap (λ (fs : Files). clear_if cut.map (cut_to fs log cut.at) log) (second ∙ first)
          ∙ cleared-stands cut.map files log cut.at file found.1;
    }

-- what a cut that failed leaves
abbrev LeftOf : Files → ℕ → Cut → List ℕ → Files → Type 0
LeftOf files log cut file files' = (files' ≡ files) ⊎ ((files' ≡ map.insert files log (take cut.at file))
    ⊎ ((cut.map ≡ Lost) × ((left : List ℕ) × ((length left ≡ 12) × (files' ≡ map.insert files log (patched_file (take cut.at file) left))))))

left_of : (files now files' : Files) (log : ℕ) (cut : Cut) (file : List ℕ) (fault : DirFault) → IsFile files log file → now ≡ files
    → WritesCut now log cut (Err fault) files' → LeftOf files log cut file files'
left_of files now files' log cut file fault stands same (inl none) = inl (none ∙ same)
left_of files now files' log cut file fault stands same (inr (inl short)) =
    inr (inl (short ∙ ap (λ (fs : Files). cut_to fs log cut.at) same ∙ cut_to-stands files log cut.at file stands))
left_of files now files' log cut file fault stands same (inr (inr (lost, (left, (twelve, wrote))))) =
    inr (inr (
      lost,
      (
        left,
        (
          twelve,
          wrote ∙ ap (λ (fs : Files). files_after_patch (cut_to fs log cut.at) log left) same
              ∙ cut-patched files log cut.at file left stands,
        ),
      ),
    ))

pub cut_failed : (files mid now files' copies copies' synced' : Files) (log : ℕ) (cut : Cut) (fault : DirFault) → OfFile files log (λ file. IsCutOf file cut)
    → mid ≡ files → now ≡ mid
    → ((file : List ℕ) → IsFile mid log file → cut.at + cut.bytes ≡ length file → HasAside copies log file copies')
    → map.get synced' log ≡ map.get copies' log → WritesCut now log cut (Err fault) files' → IsLeftAside files copies log files' copies' synced'
cut_failed files mid now files' copies copies' synced' log cut fault found first second copied synced wrote =
    let file = found.0 in
    let copy = copied file (ap (λ (fs : Files). map.get fs log) first ∙ found.1) found.2.all in
    record {
      file = file;
      cut = cut;
      stands = found.1;
      cuts = found.2;
      aside = copy;
      kept = copy_kept copies' synced' copies log file copy synced;
      left = left_of files now files' log cut file fault found.1 (second ∙ first) wrote;
    }

-- a log whose copy is of something else, or could not be written
pub cut_taken : (files mid copies : Files) (log : ℕ) (cut : Cut) → OfFile files log (λ file. IsCutOf file cut) → mid ≡ files
    → ((file : List ℕ) → IsFile mid log file → cut.at + cut.bytes ≡ length file → IsOther copies log file) → OfFile files log (IsOther copies log)
cut_taken files mid copies log cut found first other =
    (found.0, found.1, other found.0 (ap (λ (fs : Files). map.get fs log) first ∙ found.1) found.2.all)

pub cut_uncopied : (files mid copies copies' : Files) (log : ℕ) (cut : Cut) → OfFile files log (λ file. IsCutOf file cut) → mid ≡ files
    → ((copies' ≡ copies) ⊎ ((file : List ℕ) → IsFile mid log file → cut.at + cut.bytes ≡ length file → HasAside copies log file copies'))
    → LeavesCopies files copies log copies'
cut_uncopied files mid copies copies' log cut found first (inl same) = inl same
cut_uncopied files mid copies copies' log cut found first (inr copied) =
    inr (found.0, found.1, copied found.0 (ap (λ (fs : Files). map.get fs log) first ∙ found.1) found.2.all)

-- ---- cutting and sealing

-- a log that needed no cut, and what a sealing leaves
pub whole_leaves : (files copies mid copies' synced' files' : Files) (log : ℕ) (found : Option Cut) → found ≡ None
    → CutTransition files copies log (Ok found) mid copies' synced' → SealLeaves mid log files' → LosesNothing files copies log files' copies' synced'
whole_leaves files copies mid copies' synced' files' log found is turn leaves =
    let same = subst (λ (o : Option Cut). CutTransition files copies log (Ok o) mid copies' synced') is turn in
    inl (subst (λ (fs : Files). SealLeaves fs log files') same.0 leaves, inl same.1)

pub whole_seals : (files copies mid copies' synced' files' : Files) (log : ℕ) (found : Option Cut) → found ≡ None
    → CutTransition files copies log (Ok found) mid copies' synced' → SealsOne mid log files' → CutsAndSeals files copies log files' copies' synced'
whole_seals files copies mid copies' synced' files' log found is turn seals =
    let same = subst (λ (o : Option Cut). CutTransition files copies log (Ok o) mid copies' synced') is turn in
    inl (subst (λ (fs : Files). SealsOne fs log files') same.0 seals, same.1)

-- a log that was cut, and sealed then
pub cut_seals : (files copies mid copies' synced' files' : Files) (log : ℕ) (found : Option Cut) (cut : Cut) → found ≡ Some cut
    → CutTransition files copies log (Ok found) mid copies' synced' → EndsAs cut.map mid log files' → CutsAndSeals files copies log files' copies' synced'
cut_seals files copies mid copies' synced' files' log found cut is turn seals =
    inr (cut, (mid, (subst (λ (o : Option Cut). CutTransition files copies log (Ok o) mid copies' synced') is turn, seals)))

-- or what the sealing left
pub cut_leaves : (files copies mid copies' synced' files' : Files) (log : ℕ) (found : Option Cut) (cut : Cut) → found ≡ Some cut
    → CutTransition files copies log (Ok found) mid copies' synced' → SealLeaves mid log files' → LosesNothing files copies log files' copies' synced'
cut_leaves files copies mid copies' synced' files' log found cut is turn leaves =
    inr (inl (cut, (mid, (subst (λ (o : Option Cut). CutTransition files copies log (Ok o) mid copies' synced') is turn, leaves))))

-- a log that could not be cut
pub uncut_leaves : (files copies files' copies' synced' : Files) (log : ℕ) (fault : CutFault)
    → CutTransition files copies log (Err fault) files' copies' synced' → LosesNothing files copies log files' copies' synced'
uncut_leaves files copies files' copies' synced' log (Unread why) turn = inl (inl turn.0, inl turn.1)
uncut_leaves files copies files' copies' synced' log Taken turn = inl (inl turn.1.0, inl turn.1.1)
uncut_leaves files copies files' copies' synced' log Blocked turn = inl (inl turn.0, inl turn.1)
uncut_leaves files copies files' copies' synced' log (Uncopied why) turn = inl (inl turn.0, turn.1)
uncut_leaves files copies files' copies' synced' log (Uncut why) turn = inr (inr turn)
