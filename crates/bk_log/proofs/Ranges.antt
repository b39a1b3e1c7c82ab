-- The records of a part of a log: any sufficient bound of the search gives them, and those after
-- whole records follow them.
use Rattle.std.proofs.Common.{◌≡◌, ℕ, zero, suc, ◌+◌, ◌≤◌, Bool, true, false, cond, not, List, [], ◌∷◌, ◌++◌, length, take, drop, refl, sym, ap, ◌∙◌, arith}
use Rattle.std.proofs.Common.{◌-◌, length-append, append_assoc, length-drop}
use Rattle.std.proofs.lemmas.List.{take_all, take_at}
use Rattle.std.specs.List.{filter}
use Rattle.bk_record.specs.Record.{record_of, IsPayload, length_field, is_foreign}
use Rattle.bk_record.specs.Body.{starts_with_record, Body, pieces, leftover}
use Rattle.bk_record.specs.Body.IsTorn.{short, cut}
use Rattle.bk_record.specs.Body.Body.{done, more, torn}
use Rattle.bk_record.specs.Files.{header_length, records_of, rest_of}
use Rattle.bk_record.specs.Scan.{entries_of, foreign_of}
use Rattle.bk_record.proofs.Records.{length-record_of, length_field-record_of, starts-record_of, starts-nil, drop_field, drop_record}
use Rattle.bk_record.proofs.Bodies.{pieces-stop, leftover-stop}
use Rattle.bk_record.proofs.EntryLists.{pieces-enough}
use Rattle.bk_record.specs.Spelling.{all_pieces, all_leftover}
use Rattle.bk_disk.specs.Disk.{view_end}
use Rattle.bk_log.specs.Ranges.{entries_in, foreign_in, IsWholePart, part}

-- records of bytes, by whether they begin with one
pieces_by : Bool → ℕ → ℕ → List ℕ → List (ℕ × List ℕ)
pieces_by starts most from bytes =
    cond starts ((from + 4, take (length_field bytes) (drop 4 bytes)) ∷ pieces most (from + 4 + length_field bytes) (drop (4 + length_field bytes) bytes)) []

leftover_by : Bool → ℕ → List ℕ → List ℕ
leftover_by starts most bytes = cond starts (leftover most (drop (4 + length_field bytes) bytes)) bytes

no_bytes : (bytes : List ℕ) → length bytes ≤ 0 → bytes ≡ []
no_bytes [] none = refl
no_bytes (b ∷ bytes) none = absurd (omega arith)

-- any bound that is at least the number of bytes gives the same rest
pub leftover-enough : (most other : ℕ) (bytes : List ℕ) → length bytes ≤ most → length bytes ≤ other → leftover most bytes ≡ leftover other bytes
unfolding leftover_by
leftover-enough zero other bytes few also =
    sym (leftover-stop other bytes (ap starts_with_record (no_bytes bytes few) ∙ starts-nil))
leftover-enough (suc most) zero bytes few also = leftover-stop (suc most) bytes (ap starts_with_record (no_bytes bytes also) ∙ starts-nil)
leftover-enough (suc most) (suc other) bytes few also =
    let next = leftover-enough most other (drop (4 + length_field bytes) bytes)
    (omega (arith, length-drop (4 + length_field bytes) bytes)) (omega (arith, length-drop (4 + length_field bytes) bytes)) in
    elim (starts_with_record bytes) as (λ b. leftover_by b most bytes ≡ leftover_by b other bytes) [ true ↦ next | false ↦ refl ]

-- the first record, then those of the other bytes
pub all_pieces-record : (from : ℕ) (payload behind : List ℕ) → IsPayload payload
    → all_pieces from (record_of payload ++ behind) ≡ (from + 4, payload) ∷ all_pieces (from + 4 + length payload) behind
unfolding pieces_by
all_pieces-record from payload behind legal =
    let bytes = record_of payload ++ behind in
    let most = length bytes in
    let list : Bool → ℕ → List (ℕ × List ℕ) = λ b n. cond b ((from + 4, take n (drop 4 bytes)) ∷ pieces most (from + 4 + n) (drop (4 + n) bytes)) [] in
    let front : take (length payload) (drop 4 bytes) ≡ payload = ap (take (length payload)) (drop_field payload behind)
    ∙ take_at payload behind (length payload) refl in
    pieces-enough most (suc most) from bytes (omega arith) (omega arith)
    ∙ ap (λ (b : Bool). list b (length_field bytes)) (starts-record_of payload behind legal)
    ∙ ap (list true) (length_field-record_of payload behind (omega (arith, legal.1)))
    ∙ ap (λ (p : List ℕ). (from + 4, p) ∷ pieces most (from + 4 + length payload) (drop (4 + length payload) bytes)) front
    ∙ ap (λ (b : List ℕ). (from + 4, payload) ∷ pieces most (from + 4 + length payload) b) (drop_record payload behind)
    ∙ ap (λ l. (from + 4, payload) ∷ l) (pieces-enough most (length behind) (from + 4 + length payload) behind
    (omega (arith, length-append (record_of payload) behind)) (omega arith))

pub all_leftover-record : (payload behind : List ℕ) → IsPayload payload → all_leftover (record_of payload ++ behind) ≡ all_leftover behind
unfolding leftover_by
all_leftover-record payload behind legal =
    let bytes = record_of payload ++ behind in
    let most = length bytes in
    let rest : Bool → ℕ → List ℕ = λ b n. cond b (leftover most (drop (4 + n) bytes)) bytes in
    leftover-enough most (suc most) bytes (omega arith) (omega arith)
    ∙ ap (λ (b : Bool). rest b (length_field bytes)) (starts-record_of payload behind legal)
    ∙ ap (rest true) (length_field-record_of payload behind (omega (arith, legal.1)))
    ∙ ap (leftover most) (drop_record payload behind)
    ∙ leftover-enough most (length behind) behind (omega (arith, length-append (record_of payload) behind)) (omega arith)

-- whole records, then those of the other bytes
pub all_pieces-behind : {from : ℕ} {front left : List ℕ} {records : List (ℕ × List ℕ)} (behind : List ℕ) → Body from front records left → left ≡ []
    → all_pieces from (front ++ behind) ≡ records ++ all_pieces (from + length front) behind
all_pieces-behind behind (done {from = from}) none = let e : from ≡ from + 0 = omega arith in ap (λ n. all_pieces n behind) e
all_pieces-behind behind (torn (short some less)) none = absurd (omega (arith, some, ap length none))
all_pieces-behind behind (torn (cut four least most less)) none = absurd (omega (arith, four, ap length none))
all_pieces-behind behind (more {from = from} {payload = payload} {behind = inner} {records = records} legal body) none =
    let place : from + 4 + length payload + length inner ≡ from + length (record_of payload ++ inner) =
    omega (arith, length-append (record_of payload) inner, length-record_of payload) in
    ap (all_pieces from) (append_assoc (record_of payload) inner behind) ∙ all_pieces-record from payload (inner ++ behind) legal
    ∙ ap (λ l. (from + 4, payload) ∷ l) (all_pieces-behind behind body none ∙ ap (λ n. records ++ all_pieces n behind) place)

pub all_leftover-behind : {from : ℕ} {front left : List ℕ} {records : List (ℕ × List ℕ)} (behind : List ℕ) → Body from front records left → left ≡ []
    → all_leftover (front ++ behind) ≡ all_leftover behind
all_leftover-behind behind (done) none = refl
all_leftover-behind behind (torn (short some less)) none = absurd (omega (arith, some, ap length none))
all_leftover-behind behind (torn (cut four least most less)) none = absurd (omega (arith, four, ap length none))
all_leftover-behind behind (more {payload = payload} {behind = inner} legal body) none =
    ap all_leftover (append_assoc (record_of payload) inner behind) ∙ all_leftover-record payload (inner ++ behind) legal ∙ all_leftover-behind behind body none

-- bytes that do not begin with a record have none
pub all_pieces-stop : (from : ℕ) (bytes : List ℕ) → starts_with_record bytes ≡ false → all_pieces from bytes ≡ []
all_pieces-stop from bytes is = pieces-stop (length bytes) from bytes is

pub all_leftover-stop : (bytes : List ℕ) → starts_with_record bytes ≡ false → all_leftover bytes ≡ bytes
all_leftover-stop bytes is = leftover-stop (length bytes) bytes is

-- the part of a whole file begins after its header
pub all_pieces-file : (file : List ℕ) → all_pieces header_length (drop header_length file) ≡ records_of file
unfolding records_of
all_pieces-file file =
    pieces-enough (length (drop header_length file)) (length file) header_length (drop header_length file) (omega arith)
    (omega (arith, length-drop header_length file))

pub all_leftover-file : (file : List ℕ) → all_leftover (drop header_length file) ≡ rest_of file
unfolding rest_of
all_leftover-file file = leftover-enough (length (drop header_length file)) (length file) (drop header_length file) (omega arith)
    (omega (arith, length-drop header_length file))

pub entries_in-file : (file : List ℕ) → entries_in header_length (drop header_length file) ≡ entries_of file
unfolding entries_in entries_of
entries_in-file file = ap (filter (λ r. not (is_foreign r.1))) (all_pieces-file file)

pub foreign_in-file : (file : List ℕ) → foreign_in header_length (drop header_length file) ≡ foreign_of file
unfolding foreign_in foreign_of
foreign_in-file file = ap (λ l. length (filter (λ r. is_foreign r.1) l)) (all_pieces-file file)

pub whole_part : (file : List ℕ) → IsWholePart file
whole_part file = record { entries = entries_in-file file; foreign = foreign_in-file file; rest = all_leftover-file file }

-- the part of a log in a view is all bytes after the header
pub whole_view : (file : List ℕ) (end : ℕ) → end ≡ view_end file → part file header_length end ≡ drop header_length file
whole_view file end is = take_all (end - header_length) (drop header_length file) (omega (arith, is, length-drop header_length file))
