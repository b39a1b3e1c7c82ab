-- Writing a log changes no other log, and adds records only after those of the log.
use Rattle.std.proofs.Common.{◌≡◌, ◌⊎◌, inl, inr, ℕ, zero, suc, ◌+◌, ◌-◌, ◌≤◌, Bool, true, false, cond, List}
use Rattle.std.proofs.Common.{[], ◌∷◌, ◌++◌, length, take, drop, Option, Some, None}
use Rattle.std.proofs.Common.{IsNone, is_some, Result, Ok, Err, nat_cmp, unwrap_or, refl, sym, ap, ◌∙◌, subst, arith, length-append, append_assoc}
use Rattle.std.proofs.lemmas.Bool.{le-leb}
use Rattle.std.proofs.lemmas.List.{append-nil, drop-drop, length-drop, drop-append-le, length-take, length-take-le, take_all, drop_all}
use Rattle.std.proofs.Math.Decide.{dec_le}
use Rattle.std.proofs.lemmas.Slice.{drop-append-drop}
use Rattle.std.proofs.lemmas.Map.Lookups.{exact_unsigned}
use Rattle.std.proofs.lemmas.Map.Views.{tells_apart}
use Rattle.std.specs.Cmp.{nat_cmp_total}
use Rattle.std.specs.Ordering.{eq_by_cmp}
use Rattle.std.specs.FinMap.{get, insert, get-insert}
use Rattle.bk_record.specs.Location.{Place}
use Rattle.bk_record.specs.Record.{record_of, IsPayload}
use Rattle.bk_record.specs.Body.{Body, IsBadAt}
use Rattle.bk_record.specs.Body.Body.{done, torn}
use Rattle.bk_record.specs.Files.{Files, file_of, header_length, records_of, IsWhole}
use Rattle.bk_record.specs.Longer.{IsLonger}
use Rattle.bk_record.proofs.Longer.{longer_same, longer_append, longer_empty}
use Rattle.bk_record.proofs.Growth.{grown_body, records_of-short, records_of-record, records_of-prefix}
use Rattle.bk_record.proofs.Spellings.{never_both}
use Rattle.bk_record.proofs.Bodies.{body_record, prefix_is_torn}
use Rattle.bk_record.proofs.Records.{length-record_of}
use Rattle.bk_record.proofs.NumberMaps.{get-insert_same}
use Rattle.bk_disk.specs.Disk.{IsFile, files_after_append, patched_file}
use Rattle.bk_head.specs.Header.{empty_header}
use Rattle.bk_log.specs.declared.fault.LogFault.{LogFault}
use Rattle.bk_log.specs.declared.fault.LogFault.TheVariants.{Disk, Failed, Memory, Odd}
use Rattle.bk_log.specs.declared.fault.CreateFault.{CreateFault}
use Rattle.bk_log.specs.Places.{HasRecordAt}
use Rattle.bk_log.specs.Writing.{Writing, Writes, WriterCreateTransition, CreateFails, WriterPutTransition}
use Rattle.bk_log.specs.Growing.{Gains, HasNoBadLength, PutGains, put_record}
use Rattle.bk_log.proofs.Fetches.{record_fits}
use Rattle.bk_log.proofs.Files.{grown-stands}
use Rattle.bk_log.proofs.Makes.{length-empty_header}
use Rattle.bk_log.proofs.Sealed.{whole_of}

-- ---- one file

-- a record of a log is at the same position in the longer log
pub longer_stays : (front whole : List ℕ) (at : ℕ) (payload : List ℕ) → IsLonger front whole → HasRecordAt front at payload → HasRecordAt whole at payload
longer_stays front whole at payload longer here =
    let skip = at - 4 - 1024 in
    let count : 1024 + skip ≡ at - 4 = omega (arith, here.behind_header) in
    let split : (file : List ℕ) → drop skip (drop 1024 file) ≡ drop (at - 4) file = λ file. drop-drop skip 1024 file ∙ ap (λ n. drop n file) count in
    let within : skip ≤ length (drop 1024 front) = omega (arith, record_fits front payload at here, length-drop 1024 front, here.behind_header) in
    record {
      behind_header = here.behind_header;
      begins = record {
        legal = here.begins.legal;
        behind = here.begins.behind ++ longer.behind;
        is = sym (split whole) ∙ ap (drop skip) longer.is ∙ drop-append-le skip (drop 1024 front) longer.behind within
            ∙ ap (λ l. l ++ longer.behind) (split front ∙ here.begins.is) ∙ append_assoc (record_of payload) here.begins.behind longer.behind;
      };
    }

-- a file that parses to its end has no bad length
spelled_file : (file rest : List ℕ) (records : List (ℕ × List ℕ)) → Body header_length (drop header_length file) records rest → HasNoBadLength file
spelled_file file rest records body at value bad = never_both header_length (drop header_length file) records rest at value body bad

pub spelled_behind : (file : List ℕ) → IsWhole file → (behind rest : List ℕ) (others : List (ℕ × List ℕ)) → Body (length file) behind others rest
    → HasNoBadLength (file ++ behind)
spelled_behind file whole behind rest others next =
    spelled_file (file ++ behind) rest (whole.records ++ others) (grown_body file whole behind rest others next)

pub spelled_short : (file : List ℕ) → length file ≤ header_length → HasNoBadLength file
spelled_short file short =
    spelled_file file [] [] (subst (λ (b : List ℕ). Body header_length b [] []) (sym (drop_all header_length file short)) done)

-- a prefix of a record after a whole file leaves no bad length
spelled_prefix : (file payload : List ℕ) (n : ℕ) → IsWhole file → IsPayload payload → HasNoBadLength (file ++ take n (record_of payload))
spelled_prefix file payload zero whole legal = spelled_behind file whole [] [] [] done
spelled_prefix file payload (suc n) whole legal = elim (dec_le (4 + length payload) (suc n)) [
  | yes all ↦ subst (λ (b : List ℕ). HasNoBadLength (file ++ b)) (sym (take_all (suc n) (record_of payload) (omega (arith, length-record_of payload))))
      (spelled_behind file whole (record_of payload) [] _ (body_record (length file) payload legal))
  | no less ↦ spelled_behind file whole (take (suc n) (record_of payload)) (take (suc n) (record_of payload)) []
      (torn (prefix_is_torn payload (suc n) legal (omega arith) (omega arith)))
]

-- a patch of the header leaves the bytes after it unchanged
same_behind_header : (file left : List ℕ) → length left ≡ 12 → 20 ≤ length file → drop 1024 (patched_file file left) ≡ drop 1024 file
same_behind_header file left twelve long =
    let front = take 8 file ++ left in
    let twenty : length front ≡ 20 = omega (arith, length-append (take 8 file) left, length-take-le 8 file (omega arith)) in
    ap (λ b. drop 1024 (cond b (front ++ drop 20 file) file)) (le-leb 20 (length file) long)
    ∙ drop-append-drop 20 file front 1024 (omega arith) twenty

pub longer_patch : (file left : List ℕ) → length left ≡ 12 → 20 ≤ length file → IsLonger file (patched_file file left)
longer_patch file left twelve long = record {
  behind = [];
  is = same_behind_header file left twelve long ∙ sym (append-nil (drop 1024 file));
}

pub spelled_patch : (file left : List ℕ) → length left ≡ 12 → 20 ≤ length file → HasNoBadLength file → HasNoBadLength (patched_file file left)
spelled_patch file left twelve long spelled at value bad =
    spelled at value (subst (λ (b : List ℕ). IsBadAt header_length b at value) (same_behind_header file left twelve long) bad)

-- ---- the files

-- unchanged files
pub gains_same : (files files' : Files) (log : ℕ) → files' ≡ files → Gains files log [] files'
gains_same files files' log is = record {
  only = λ id apart. ap (λ m. get m id) is;
  stands = λ there. ap (λ m. is_some (get m log)) is ∙ there;
  records = ap (λ m. records_of (file_of m log)) is ∙ sym (append-nil (records_of (file_of files log)));
  longer = subst (λ m. IsLonger (file_of files log) (file_of m log)) (sym is) (longer_same (file_of files log));
  spelled = λ old. subst (λ m. HasNoBadLength (file_of m log)) (sym is) old;
  stays = λ at payload here. subst (λ m. HasRecordAt (file_of m log) at payload) (sym is) here;
}

pub file_at : (files : Files) (log : ℕ) (file : List ℕ) → IsFile files log file → file_of files log ≡ file
file_at files log file is = ap (λ o. unwrap_or o []) is

-- one log's file has changed
pub gains_file : (files files' : Files) (log : ℕ) (file file' : List ℕ) (others : List (ℕ × List ℕ)) → file_of files log ≡ file
    → files' ≡ insert files log file'
    → records_of file' ≡ records_of file ++ others → IsLonger file file' → (HasNoBadLength file → HasNoBadLength file') → Gains files log others files'
gains_file files files' log file file' others was is records longer spelled =
    let stands : IsFile files' log file' = ap (λ m. get m log) is ∙ get-insert_same files log file' in
    let now = file_at files' log file' stands in
    let grown_file : IsLonger (file_of files log) (file_of files' log) =
    subst (λ f. IsLonger f (file_of files' log)) (sym was) (subst (λ f. IsLonger file f) (sym now) longer) in
    record {
      only = λ id apart. ap (λ m. get m id) is ∙ elim (eq_by_cmp nat_cmp id log) as
          (λ b. eq_by_cmp nat_cmp id log ≡ b → get (insert files log file') id ≡ get files id) [
            | true ↦ λ here. absurd (apart (tells_apart exact_unsigned id log here))
            | false ↦ λ other. get-insert nat_cmp_total files log file' id ∙ ap (λ b. cond b (Some file') (get files id)) other
          ] refl;
      stands = λ there. ap is_some stands;
      records = ap records_of now ∙ records ∙ ap (λ f. records_of f ++ others) (sym was);
      longer = grown_file;
      spelled = λ old. subst HasNoBadLength (sym now) (spelled (subst HasNoBadLength was old));
      stays = λ at payload here. longer_stays (file_of files log) (file_of files' log) at payload grown_file here;
    }

-- ---- creating a log

none_value : {X : Type 0} (o : Option X) → IsNone o → o ≡ None
none_value None is = refl
none_value (Some x) is = cc

gains_made : (files files' : Files) (log : ℕ) (bytes : List ℕ) → IsNone (get files log) → files' ≡ insert files log bytes → length bytes ≤ 1024
    → Gains files log [] files'
gains_made files files' log bytes none is short =
    gains_file files files' log [] bytes [] (ap (λ o. unwrap_or o []) (none_value (get files log) none)) is
    (records_of-short bytes short ∙ sym (ap (λ l. l ++ []) (records_of-short [] (omega arith)))) (longer_empty bytes)
    (λ _. spelled_short bytes short)

create_fault : (files files' : Files) (log : ℕ) (made : Bool) (fault : LogFault) → CreateFails files log made fault files' → Gains files log [] files'
create_fault files files' log true Disk (none, (n, is)) = gains_made files files' log (take n empty_header) none is
    (omega (arith, length-take n empty_header, length-empty_header))
create_fault files files' log true Memory (none, is) = gains_made files files' log [] none is (omega arith)
create_fault files files' log true Odd never = absurd never
create_fault files files' log true Failed never = absurd never
create_fault files files' log false Disk is = gains_same files files' log is
create_fault files files' log false Memory is = gains_same files files' log is.1
create_fault files files' log false Odd is = gains_same files files' log is.1
create_fault files files' log false Failed never = absurd never

pub create_gains : {W : Type 0} (files files' : Files) (log : ℕ) (result : Result W CreateFault) → WriterCreateTransition files log result files'
    → Gains files log [] files'
create_gains files files' log (Ok w) (none, is) = gains_made files files' log empty_header none is (omega (arith, length-empty_header))
create_gains files files' log (Err f) fails = create_fault files files' log f.made f.fault fails

-- ---- writing a record

put_whole : (files files' : Files) (w : Writing) (payload : List ℕ) → Writes files w → IsPayload payload → files' ≡ files_after_append files w.log (record_of payload)
    → Gains files w.log (put_record w payload) files'
put_whole files files' w payload writes legal is =
    gains_file files files' w.log writes.file (writes.file ++ record_of payload) (put_record w payload) (file_at files w.log writes.file writes.stands)
    (is ∙ grown-stands files w.log writes.file (record_of payload) writes.stands)
    (records_of-record writes.file payload (whole_of files w writes) legal ∙ ap (λ n. records_of writes.file ++ (n + 4, payload) ∷ []) (sym writes.long))
    (longer_append writes.file (record_of payload))
    (λ _. spelled_behind writes.file (whole_of files w writes) (record_of payload) [] _ (body_record (length writes.file) payload legal))

put_part : (files files' : Files) (w : Writing) (payload : List ℕ) (n : ℕ) → Writes files w → IsPayload payload
    → files' ≡ files_after_append files w.log (take n (record_of payload))
    → Gains files w.log (put_record w payload) files' ⊎ Gains files w.log [] files'
put_part files files' w payload n writes legal is =
    let piece = take n (record_of payload) in
    let grew = is ∙ grown-stands files w.log writes.file piece writes.stands in
    let was = file_at files w.log writes.file writes.stands in
    let spelled = spelled_prefix writes.file payload n (whole_of files w writes) legal in
    elim (records_of-prefix writes.file payload n (whole_of files w writes) legal) [
      | inl none ↦ inr (gains_file files files' w.log writes.file (writes.file ++ piece) [] was grew (none ∙ sym (append-nil (records_of writes.file)))
          (longer_append writes.file piece) (λ _. spelled))
      | inr one ↦ inl (gains_file files files' w.log writes.file (writes.file ++ piece) (put_record w payload) was grew
          (one ∙ ap (λ n. records_of writes.file ++ (n + 4, payload) ∷ []) (sym writes.long)) (longer_append writes.file piece) (λ _. spelled))
    ]

pub put_gains : (files files' : Files) (w : Writing) (payload : List ℕ) (result : Result Place LogFault) → Writes files w → IsPayload payload
    → WriterPutTransition files w payload result files' → PutGains files w payload result files'
put_gains files files' w payload (Ok place) writes legal is = put_whole files files' w payload writes legal is
put_gains files files' w payload (Err Disk) writes legal (n, is) = put_part files files' w payload n writes legal is
put_gains files files' w payload (Err Failed) writes legal is = gains_same files files' w.log is
put_gains files files' w payload (Err Memory) writes legal is = gains_same files files' w.log is
put_gains files files' w payload (Err Odd) writes legal never = absurd never
