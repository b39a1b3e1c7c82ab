-- What is acknowledged of a log that is written has the log's records, also when the log has grown
-- after it.
use Rattle.std.proofs.Common.{◌≡◌, ℕ, ◌+◌, ◌-◌, ◌≤◌, List, [], ◌∷◌, ◌++◌, length, take, drop, not, Some, Option, unwrap_or, refl, sym, ap, subst, ◌∙◌, arith}
use Rattle.std.specs.List.{filter}
use Rattle.std.proofs.Math.Seq.{take-append_seam}
use Rattle.std.proofs.lemmas.List.{drop-take, length-drop}
use Rattle.std.proofs.lemmas.List.Elements.{filter-append}
use Rattle.bk_record.specs.Key.{EntryKey}
use Rattle.bk_record.specs.Record.{key_of, is_foreign}
use Rattle.bk_record.specs.Body.{Body}
use Rattle.bk_record.specs.Files.{Files, file_of, records_of, header_length}
use Rattle.bk_record.specs.Scan.{entries_of}
use Rattle.bk_record.specs.Longer.{IsLonger}
use Rattle.bk_record.proofs.Growth.{records_of-body}
use Rattle.bk_record.proofs.Longer.{longer_same}
use Rattle.bk_record.proofs.EntryLists.{entries_of-same}
use Rattle.bk_log.specs.Writing.{Writing, Writes}
use Rattle.bk_log.proofs.Writes.{text_is_long}

-- after its header the log's first bytes are what it had
front_body : (front whole : List ℕ) → IsLonger front whole → header_length ≤ length front
    → drop header_length (take (length front) whole) ≡ drop header_length front
front_body front whole longer long =
    let n = length front - header_length in
    let count : header_length + n ≡ length front = omega (arith, long) in
    let same : n ≡ length (drop header_length front) = omega (arith, length-drop header_length front) in
    ap (λ m. drop header_length (take m whole)) (sym count) ∙ drop-take header_length n whole ∙ ap (take n) longer.is
    ∙ ap (λ m. take m (drop header_length front ++ longer.behind)) same ∙ take-append_seam (drop header_length front) longer.behind

module _ (files : Files) (w : Writing) (writes : Writes files w) where
  pub file_is : file_of files w.log ≡ writes.file
  file_is = ap (λ (o : Option (List ℕ)). unwrap_or o []) writes.stands

  records_were : records_of (file_of files w.log) ≡ writes.records
  records_were = ap records_of file_is ∙ records_of-body writes.file writes.text.spelled

  pub records_acknowledged : (whole : List ℕ) → IsLonger (file_of files w.log) whole → records_of (take w.end whole) ≡ records_of (file_of files w.log)
  records_acknowledged whole longer =
      let longer' : IsLonger writes.file whole = subst (λ f. IsLonger f whole) file_is longer in
      let long = text_is_long writes.file writes.records writes.text in
      let body : Body header_length (drop header_length (take w.end whole)) writes.records [] =
      subst (λ b. Body header_length b writes.records [])
      (sym (ap (λ n. drop header_length (take n whole)) writes.long ∙ front_body writes.file whole longer' long)) writes.text.spelled in
      records_of-body (take w.end whole) body ∙ sym records_were

  -- the acknowledged entries are the log's
  pub entries_acknowledged : (whole : List ℕ) → IsLonger (file_of files w.log) whole → entries_of (take w.end whole) ≡ entries_of (file_of files w.log)
  entries_acknowledged whole longer = entries_of-same (take w.end whole) (file_of files w.log) (records_acknowledged whole longer)

  pub entries_whole : entries_of (take w.end (file_of files w.log)) ≡ entries_of (file_of files w.log)
  entries_whole = entries_acknowledged (file_of files w.log) (longer_same (file_of files w.log))

-- one more record with a key is one more entry
pub entries_push : (a b : List ℕ) (at : ℕ) (payload : List ℕ) (key : EntryKey) → records_of b ≡ records_of a ++ (at, payload) ∷ [] → key_of payload ≡ Some key
    → entries_of b ≡ entries_of a ++ (at, payload) ∷ []
unfolding entries_of
entries_push a b at payload key more keyed =
    ap (filter (λ (r : ℕ × List ℕ). not (is_foreign r.1))) more
    ∙ filter-append (λ (r : ℕ × List ℕ). not (is_foreign r.1)) (records_of a) ((at, payload) ∷ [])
    ∙ ap (λ (l : List (ℕ × List ℕ)). filter (λ (r : ℕ × List ℕ). not (is_foreign r.1)) (records_of a) ++ l) (rw keyed refl)
