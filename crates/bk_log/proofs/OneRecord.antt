-- At most one record is at a place of a log.
use Rattle.std.proofs.Common.{◌≡◌, inl, inr, ℕ, zero, suc, ◌+◌, ◌-◌, ◌≤◌, cond, List, [], ◌∷◌, ◌++◌, length, take}
use Rattle.std.proofs.Common.{drop, true, false, refl, sym, ap, ◌∙◌, subst, arith, length-drop}
use Rattle.std.proofs.lemmas.List.{drop-drop, length-take}
use Rattle.std.proofs.Math.Seq.{drop-append-add}
use Rattle.bk_record.specs.Record.{record_of, length_field}
use Rattle.bk_record.specs.Body.{Body, starts_with_record, pieces}
use Rattle.bk_record.specs.Body.Body.{done, more, torn}
use Rattle.bk_record.specs.Files.{header_length, records_of, In}
use Rattle.bk_record.specs.Piece.{BeginsWith}
use Rattle.bk_record.proofs.Records.{IsBytes, Starts, starts_only, bytes_drop, record_in_front, length-record_of}
use Rattle.bk_log.specs.Places.{HasRecordAt, StandsOnce}
use Rattle.bk_log.proofs.Fetches.{payload_of, field_of}

one_here : (file payload other : List ℕ) (at : ℕ) → HasRecordAt file at payload → HasRecordAt file at other → payload ≡ other
one_here file payload other at here there =
    let field = take 4 (drop (at - 4) file) in
    let long : length payload ≡ length other = sym (field_of file payload field at here refl) ∙ field_of file other field at there refl in
    sym (payload_of file payload at here) ∙ ap (λ n. take n (drop at file)) long ∙ payload_of file other at there

-- a record of a parsed body is at its position
body_at : {from : ℕ} {bytes rest : List ℕ} {records : List (ℕ × List ℕ)} (at : ℕ) (payload : List ℕ) → Body from bytes records rest → In (at, payload) records
    → (from + 4 ≤ at) × BeginsWith (drop (at - (from + 4)) bytes) payload
body_at at payload (done) is = absurd is
body_at at payload (torn t) is = absurd is
body_at at payload (more {from = from} {payload = first} {behind = behind} legal body) (inl here) =
    let place : from + 4 ≡ at = ap (λ r. r.0) here in
    let none : 0 ≡ at - (from + 4) = omega arith in
    let begins : BeginsWith (record_of first ++ behind) first = record { legal = legal; behind = behind; is = refl } in (
      omega arith,
      subst (λ n. BeginsWith (drop n (record_of first ++ behind)) payload) none
          (subst (BeginsWith (record_of first ++ behind)) (ap (λ r. r.1) here) begins),
    )
body_at at payload (more {from = from} {payload = first} {behind = behind} legal body) (inr later) =
    let next = body_at at payload body later in
    let size = length-record_of first in
    let count : length (record_of first) + (at - (from + 4 + length first + 4)) ≡ at - (from + 4) = omega (arith, next.0) in (
      omega (arith, next.0),
      subst (λ n. BeginsWith (drop n (record_of first ++ behind)) payload) count
          (subst (λ b. BeginsWith b payload) (sym (drop-append-add (record_of first) behind (at - (from + 4 + length first + 4)))) next.1),
    )

listed_at : (file payload rest : List ℕ) (at : ℕ) (records : List (ℕ × List ℕ)) → Body header_length (drop header_length file) records rest
    → In (at, payload) records → HasRecordAt file at payload
listed_at file payload rest at records body is =
    let found = body_at at payload body is in
    let count : 1024 + (at - (1024 + 4)) ≡ at - 4 = omega (arith, found.0) in
    record {
      behind_header = found.0;
      begins = subst (λ b. BeginsWith b payload) (drop-drop (at - (1024 + 4)) 1024 file ∙ ap (λ n. drop n file) count) found.1;
    }

-- a record of the computed list is at its position
begins_there : (bytes : List ℕ) → IsBytes bytes → Starts bytes → BeginsWith bytes (take (length_field bytes) (drop 4 bytes))
begins_there bytes each starts =
    let size : length (take (length_field bytes) (drop 4 bytes)) ≡ length_field bytes =
    omega (arith, starts.whole, length-take (length_field bytes) (drop 4 bytes), length-drop 4 bytes) in
    record {
      legal = (omega (arith, starts.least), omega (arith, starts.most));
      behind = drop (4 + length_field bytes) bytes;
      is = record_in_front bytes each starts;
    }

-- a record of the list is the first one or one after it
started : (from : ℕ) (bytes : List ℕ) (at : ℕ) (payload : List ℕ) (behind : List (ℕ × List ℕ)) → IsBytes bytes → Starts bytes
    → (let size = 4 + length_field bytes in
    In (at, payload) behind → (from + size + 4 ≤ at) × BeginsWith (drop (at - (from + size + 4)) (drop size bytes)) payload)
    → In (at, payload) ((from + 4, take (length_field bytes) (drop 4 bytes)) ∷ behind) → (from + 4 ≤ at) × BeginsWith (drop (at - (from + 4)) bytes) payload
started from bytes at payload behind each starts next (inl here) =
    let place : from + 4 ≡ at = ap (λ r. r.0) here in
    let none : 0 ≡ at - (from + 4) = omega arith in (
      omega arith,
      subst (λ n. BeginsWith (drop n bytes) payload) none (subst (BeginsWith bytes) (ap (λ r. r.1) here) (begins_there bytes each starts)),
    )
started from bytes at payload behind each starts next (inr later) =
    let size = 4 + length_field bytes in
    let found = next later in
    let count : size + (at - (from + size + 4)) ≡ at - (from + 4) = omega (arith, found.0) in (
      omega (arith, found.0),
      subst (λ b. BeginsWith b payload) (drop-drop (at - (from + size + 4)) size bytes ∙ ap (λ n. drop n bytes) count) found.1,
    )

piece_at : (most from : ℕ) (bytes : List ℕ) (at : ℕ) (payload : List ℕ) → IsBytes bytes → In (at, payload) (pieces most from bytes)
    → (from + 4 ≤ at) × BeginsWith (drop (at - (from + 4)) bytes) payload
piece_at zero from bytes at payload each is = absurd is
piece_at (suc most) from bytes at payload each is =
    let size = 4 + length_field bytes in
    let behind = pieces most (from + 4 + length_field bytes) (drop size bytes) in
    let place : from + 4 + length_field bytes ≡ from + size = omega arith in
    let next : In (at, payload) behind → (from + size + 4 ≤ at) × BeginsWith (drop (at - (from + size + 4)) (drop size bytes)) payload =
    λ later. subst (λ n. (n + 4 ≤ at) × BeginsWith (drop (at - (n + 4)) (drop size bytes)) payload) place
    (piece_at most (from + 4 + length_field bytes) (drop size bytes) at payload (bytes_drop size bytes each) later) in
    elim (starts_with_record bytes) as (λ b. starts_with_record bytes ≡ b
    → In (at, payload) (cond b ((from + 4, take (length_field bytes) (drop 4 bytes)) ∷ behind) [])
    → (from + 4 ≤ at) × BeginsWith (drop (at - (from + 4)) bytes) payload) [
      | true ↦ λ starts there. started from bytes at payload behind each (starts_only bytes starts) next there
      | false ↦ λ _ there. absurd there
    ] refl is

computed_at : (file payload : List ℕ) (at : ℕ) → IsBytes file → In (at, payload) (records_of file) → HasRecordAt file at payload
unfolding records_of
computed_at file payload at each is =
    let found = piece_at (length file) header_length (drop header_length file) at payload (bytes_drop header_length file each) is in
    let count : 1024 + (at - (1024 + 4)) ≡ at - 4 = omega (arith, found.0) in
    record {
      behind_header = found.0;
      begins = subst (λ b. BeginsWith b payload) (drop-drop (at - (1024 + 4)) 1024 file ∙ ap (λ n. drop n file) count) found.1;
    }

pub stands_once : (file : List ℕ) (at : ℕ) → StandsOnce file at
stands_once file at = record {
  one = λ payload other here there. one_here file payload other at here there;
  listed = λ payload rest records body is. listed_at file payload rest at records body is;
  computed = λ payload each is. computed_at file payload at each is;
}
