-- What sealing writes after a log's records is foreign or torn, so the log's entries are unchanged.
use Rattle.std.proofs.Common.{◌≡◌, ℕ, zero, suc, ◌+◌, ◌-◌, ◌<◌, ◌≤◌, true, false, cond, not, List, [], ◌∷◌, ◌++◌, length, take, drop, Some, nat_cmp}
use Rattle.std.proofs.Common.{unwrap_or, refl, sym, ap, ◌∙◌, subst, arith, length-append, length-drop}
use Rattle.std.proofs.Math.Decide.{dec_le}
use Rattle.std.proofs.lemmas.Bool.{le-leb}
use Rattle.std.proofs.lemmas.List.{append-nil, length-take-le, take-append-le}
use Rattle.std.proofs.lemmas.List.Elements.{filter-append}
use Rattle.std.proofs.lemmas.Slice.{drop-append-drop}
use Rattle.std.proofs.Math.Seq.{take-append-add}
use Rattle.std.proofs.lemmas.Map.Lookups.{exact_unsigned}
use Rattle.std.proofs.lemmas.Map.Views.{tells_apart}
use Rattle.std.specs.Cmp.{nat_cmp_total}
use Rattle.std.specs.List.{filter}
use Rattle.std.specs.Ordering.{eq_by_cmp}
use Rattle.std.specs.FinMap.{get, insert, get-insert}
use Rattle.bk_record.specs.Record.{record_of, IsPayload, key_of, is_foreign, ledger_field}
use Rattle.bk_record.specs.Body.{Body, pieces}
use Rattle.bk_record.specs.Body.Body.{done, more, torn}
use Rattle.bk_record.specs.Files.{Files, file_of, records_of, IsWhole}
use Rattle.bk_record.specs.Scan.{entries_of}
use Rattle.bk_record.proofs.Records.{length-record_of}
use Rattle.bk_record.proofs.Bodies.{prefix_is_torn}
use Rattle.bk_record.proofs.EntryLists.{is_entry}
use Rattle.bk_record.proofs.Growth.{records_of-behind}
use Rattle.bk_disk.specs.Disk.{IsFile, patched_file}
use Rattle.bk_head.specs.Ledgers.{batch_ids, batch_payload, Batches}
use Rattle.bk_log.specs.Sealing.{KeepsEntries}

-- bytes that parse as foreign records and a rest
pub record Others (from : ℕ) (bytes : List ℕ) : Type 0 where
  pub records : List (ℕ × List ℕ)
  pub rest : List ℕ
  pub spelled : Body from bytes records rest
  pub foreign : filter is_entry records ≡ []

-- a batch of a ledgers map has no key, so it is foreign
pub batch_foreign : (pairs : List (ℕ × ℕ)) → is_foreign (batch_payload pairs) ≡ true
unfolding batch_payload batch_ids key_of ledger_field
batch_foreign pairs = refl

others_more : (from : ℕ) (payload bytes : List ℕ) → IsPayload payload → is_foreign payload ≡ true → Others (from + 4 + length payload) bytes
    → Others from (record_of payload ++ bytes)
others_more from payload bytes legal is others = record {
  records = (from + 4, payload) ∷ others.records;
  rest = others.rest;
  spelled = more legal others.spelled;
  foreign = ap (λ b. cond (not b) ((from + 4, payload) ∷ filter is_entry others.records) (filter is_entry others.records)) is ∙ others.foreign;
}

-- a proper prefix of a record is a rest
others_cut : (from n : ℕ) (payload : List ℕ) → IsPayload payload → n < 4 + length payload → Others from (take n (record_of payload))
others_cut from zero payload legal less = record { records = []; rest = []; spelled = done; foreign = refl }
others_cut from (suc n) payload legal less = record {
  records = [];
  rest = take (suc n) (record_of payload);
  spelled = torn (prefix_is_torn payload (suc n) legal (omega arith) less);
  foreign = refl;
}

-- a prefix of batches is foreign records and a rest
pub batches_prefix : (from n : ℕ) {bytes : List ℕ} {pairs : List (ℕ × ℕ)} → Batches bytes pairs → Others from (take n bytes)
batches_prefix from zero batches = record { records = []; rest = []; spelled = done; foreign = refl }
batches_prefix from (suc n) (Batches.none) = record { records = []; rest = []; spelled = done; foreign = refl }
batches_prefix from (suc n) (Batches.more {pairs = pairs} {behind = behind} batch batches) =
    let payload = batch_payload pairs in
    let size = length-record_of payload in
    elim (dec_le (4 + length payload) (suc n)) [
      | yes all ↦
          let left = suc n - (4 + length payload) in
          let count : length (record_of payload) + left ≡ suc n = omega arith in
          let cut : record_of payload ++ take left behind ≡ take (suc n) (record_of payload ++ behind) =
          sym (take-append-add (record_of payload) behind left) ∙ ap (λ k. take k (record_of payload ++ behind)) count in
          subst (Others from) cut (others_more from payload (take left behind) batch.fits (batch_foreign pairs)
          (batches_prefix (from + 4 + length payload) left batches))
      | no less ↦
          subst (Others from) (sym (take-append-le (suc n) (record_of payload) behind (omega arith))) (others_cut from (suc n) payload batch.fits (omega arith))
    ]

-- foreign records and a rest after a whole file leave its entries unchanged
pub keeps_append : (file bytes : List ℕ) → IsWhole file → Others (length file) bytes → entries_of (file ++ bytes) ≡ entries_of file
unfolding entries_of
keeps_append file bytes whole others =
    ap (filter is_entry) (records_of-behind file whole bytes others.rest others.records others.spelled)
    ∙ filter-append is_entry (records_of file) others.records ∙ ap (λ l. filter is_entry (records_of file) ++ l) others.foreign
    ∙ append-nil (filter is_entry (records_of file))

-- a patch of the header leaves the records unchanged
pub records_of-patch : (file left : List ℕ) → length left ≡ 12 → 20 ≤ length file → records_of (patched_file file left) ≡ records_of file
unfolding records_of
records_of-patch file left twelve long =
    let front = take 8 file ++ left in
    let twenty : length front ≡ 20 = omega (arith, length-append (take 8 file) left, length-take-le 8 file (omega arith)) in
    let size : length (front ++ drop 20 file) ≡ length file = omega (arith, length-append front (drop 20 file), length-drop 20 file) in
    let behind : drop 1024 (front ++ drop 20 file) ≡ drop 1024 file = drop-append-drop 20 file front 1024 (omega arith) twenty in
    ap (λ b. pieces (length (cond b (front ++ drop 20 file) file)) 1024 (drop 1024 (cond b (front ++ drop 20 file) file))) (le-leb 20 (length file) long)
    ∙ ap (λ n. pieces n 1024 (drop 1024 (front ++ drop 20 file))) size ∙ ap (pieces (length file) 1024) behind

pub keeps_patch : (file left : List ℕ) → length left ≡ 12 → 20 ≤ length file → entries_of (patched_file file left) ≡ entries_of file
unfolding entries_of
keeps_patch file left twelve long = ap (filter is_entry) (records_of-patch file left twelve long)

-- files in which one log changed, but not its entries
pub keeps_insert : (files : Files) (log : ℕ) (file file' : List ℕ) → IsFile files log file → entries_of file' ≡ entries_of file
    → KeepsEntries files (insert files log file')
keeps_insert files log file file' stands same other =
    elim (eq_by_cmp nat_cmp other log) as (λ b. eq_by_cmp nat_cmp other log ≡ b → entries_of (file_of (insert files log file') other) ≡ entries_of
    (file_of files other)) [
      | true ↦ λ here.
          let is = tells_apart exact_unsigned other log here in
          ap (λ o. entries_of (unwrap_or o [])) (get-insert nat_cmp_total files log file' other ∙ ap (λ b. cond b (Some file') (get files other)) here)
          ∙ same ∙ sym (ap (λ o. entries_of (unwrap_or o [])) (ap (get files) is ∙ stands))
      | false ↦ λ apart.
          ap (λ o. entries_of (unwrap_or o [])) (get-insert nat_cmp_total files log file' other ∙ ap (λ b. cond b (Some file') (get files other)) apart)
    ] refl
