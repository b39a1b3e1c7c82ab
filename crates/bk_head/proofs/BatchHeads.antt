-- What the first 24 bytes of a batch determine, whatever follows them.
use Rattle.std.proofs.Common.{◌≡◌, ◌≢◌, ℕ, ◌+◌, ◌-◌, ◌*◌, ◌<◌, ◌≤◌, ◌^◌, Bool, true, false, eqb, List, length, take, drop, min}
use Rattle.std.proofs.Common.{refl, sym, ap, ◌∙◌, arith}
use Rattle.std.specs.List.{starts_with}
use Rattle.std.specs.Int.{w32, to_be_bytes, from_be_bytes}
use Rattle.std.proofs.lemmas.Bool.{both_ways}
use Rattle.std.proofs.lemmas.List.{length-drop, drop-drop, take_at, take-take, drop-take}
use Rattle.byteorder.specs.Endian.{big_number}
use Rattle.bk_record.specs.Piece.{BeginsWith}
use Rattle.bk_record.specs.Spelling.{IsBytes}
use Rattle.bk_record.proofs.Records.{bytes_drop, drop_field}
use Rattle.bk_record.proofs.Pieces.{length-payload, begins_with_field}
use Rattle.bk_head.specs.Ledgers.{batch_ids}
use Rattle.bk_head.specs.Faults.{IsForMap, IsSized, HasPairs}
use Rattle.bk_head.specs.Parts.{IsFrontOf, IsSizedBatch}
use Rattle.bk_head.proofs.Bytes.{big_number-4, from_be_bytes-take-4, front_4}
use Rattle.bk_head.proofs.BatchBytes.{is_for_map, is_asked, not_sized, has_pairs}
use Rattle.bk_head.proofs.RecordBytes.{Begins-field, Begins-long}

-- ---- the length field

field_shown : (bytes head : List ℕ) (n : ℕ) → head ≡ take 24 bytes → n ≡ big_number 4 head → n ≡ from_be_bytes w32 bytes
field_shown bytes head n is read =
    read ∙ big_number-4 head ∙ ap (from_be_bytes w32) is ∙ sym (from_be_bytes-take-4 (take 24 bytes))
    ∙ ap (from_be_bytes w32) (take-take 4 24 bytes (omega arith)) ∙ from_be_bytes-take-4 bytes

-- a record here has the length that was read
pub length_told : (bytes head payload : List ℕ) (left n : ℕ) → IsFrontOf head left bytes → n ≡ big_number 4 head → BeginsWith bytes payload → n ≡ length payload
length_told bytes head payload left n shown read s = field_shown bytes head n shown.1 read ∙ Begins-field bytes payload s

-- no record fits in fewer than 20 bytes
pub no_room : (bytes head payload : List ℕ) (left : ℕ) → IsFrontOf head left bytes → left < 20 → BeginsWith bytes payload → ⊥
no_room bytes head payload left shown few s = omega (arith, shown.0, Begins-long bytes payload s, s.legal.0)

-- no record is here if its length exceeds the bytes left
pub no_end : (bytes head payload : List ℕ) (left n : ℕ) → IsFrontOf head left bytes → n ≡ big_number 4 head → left - 4 < n → BeginsWith bytes payload → ⊥
no_end bytes head payload left n shown read more s =
    omega (arith, shown.0, Begins-long bytes payload s, length_told bytes head payload left n shown read s)

-- ---- the ids

-- the first bytes of the payload are those after the length field
front_shown : (bytes payload : List ℕ) → (s : BeginsWith bytes payload) → take (length payload) (drop 4 bytes) ≡ payload
front_shown bytes payload s =
    ap (λ (x : List ℕ). take (length payload) (drop 4 x)) s.is ∙ ap (take (length payload)) (drop_field payload s.behind)
    ∙ take_at payload s.behind (length payload) refl

ids_shown : (bytes head payload : List ℕ) → head ≡ take 24 bytes → BeginsWith bytes payload → take 16 (drop 4 head) ≡ take 16 payload
ids_shown bytes head payload is s =
    ap (λ (x : List ℕ). take 16 (drop 4 x)) is ∙ ap (take 16) (drop-take 4 20 bytes) ∙ take-take 16 20 (drop 4 bytes) (omega arith)
    ∙ sym (take-take 16 (length payload) (drop 4 bytes) s.legal.0) ∙ ap (take 16) (front_shown bytes payload s)

pub no_ids : (bytes head payload ids : List ℕ) (r : Bool) → head ≡ take 24 bytes → ids ≡ batch_ids → r ≡ starts_with eqb (drop 4 head) ids → r ≡ false
    → BeginsWith bytes payload → IsForMap payload → ⊥
no_ids bytes head payload ids r is ids-are asked not s for_map =
    both_ways r not (is_asked (drop 4 head) ids r ids-are asked (ids_shown bytes head payload is s ∙ for_map))

-- ---- a record with these ids

pub batch_begins : (bytes head ids : List ℕ) (left n : ℕ) (r : Bool) → IsBytes head → length head ≡ min 24 left → IsFrontOf head left bytes → 20 ≤ left
    → n ≡ big_number 4 head → 16 ≤ n → n ≤ 2147483647 → n ≤ left - 4 → ids ≡ batch_ids → r ≡ starts_with eqb (drop 4 head) ids → r ≡ true
    → IsSizedBatch n bytes
batch_begins bytes head ids left n r each many shown enough read low high fits ids-are asked same =
    let written : to_be_bytes w32 n ≡ take 4 bytes =
    ap (to_be_bytes w32) (read ∙ big_number-4 head) ∙ front_4 head each (omega (arith, many)) ∙ ap (take 4) shown.1 ∙ take-take 4 24 bytes (omega arith) in
    let whole : 4 + n ≤ length bytes = omega (arith, fits, enough, shown.0) in
    let begins = begins_with_field bytes n written low (omega arith) whole in
    record {
      payload = take n (drop 4 bytes);
      begins = begins;
      for_map = sym (ids_shown bytes head (take n (drop 4 bytes)) shown.1 begins) ∙ is_for_map (drop 4 head) ids r ids-are asked same;
      size_is = length-payload bytes n whole;
    }

-- ---- the count and the pairs

-- bytes of a payload from a position
behind_shown : (bytes payload : List ℕ) (at n : ℕ) → BeginsWith bytes payload → at + n ≡ length payload → take n (drop (4 + at) bytes) ≡ drop at payload
behind_shown bytes payload at n s long =
    ap (take n) (sym (drop-drop at 4 bytes)) ∙ sym (drop-take at n (drop 4 bytes)) ∙ ap (λ k. drop at (take k (drop 4 bytes))) long
    ∙ ap (drop at) (front_shown bytes payload s)

count_shown : (bytes head payload : List ℕ) → head ≡ take 24 bytes → BeginsWith bytes payload → 20 ≤ length payload
    → take 4 (drop 20 head) ≡ take 4 (drop 16 payload)
count_shown bytes head payload is s long =
    ap (λ (x : List ℕ). take 4 (drop 20 x)) is ∙ ap (take 4) (drop-take 20 4 bytes) ∙ take-take 4 4 (drop 20 bytes) (omega arith)
    ∙ sym (take-take 4 (length payload - 16) (drop 20 bytes) (omega arith))
    ∙ ap (take 4) (behind_shown bytes payload 16 (length payload - 16) s (omega arith))

count_told : (bytes head payload : List ℕ) (n : ℕ) → head ≡ take 24 bytes → BeginsWith bytes payload → 20 ≤ length payload
    → n ≡ big_number 4 (drop 20 head) → n ≡ from_be_bytes w32 (drop 16 payload)
count_told bytes head payload n is s long read =
    read ∙ big_number-4 (drop 20 head) ∙ sym (from_be_bytes-take-4 (drop 20 head)) ∙ ap (from_be_bytes w32) (count_shown bytes head payload is s long)
    ∙ from_be_bytes-take-4 (drop 16 payload)

-- a length that does not fit the count
pub other_length : (bytes head : List ℕ) (left size n : ℕ) → IsFrontOf head left bytes → (b : IsSizedBatch size bytes) → 20 ≤ size → n < 2 ^ 32
    → n ≡ big_number 4 (drop 20 head) → size - 20 ≢ 16 * n
    → (payload : List ℕ) × (BeginsWith bytes payload × (IsForMap payload × ¬ (IsSized payload)))
other_length bytes head left size n shown b long fits read other =
    let count = count_told bytes head b.payload n shown.1 b.begins (omega (arith, b.size_is)) read in
    (b.payload, (b.begins, (b.for_map, not_sized b.payload n fits count (λ e. other (omega (arith, e, b.size_is))))))

-- a length that fits the count
pub right_length : (bytes head : List ℕ) (left size n : ℕ) → IsBytes head → length head ≡ min 24 left → IsFrontOf head left bytes
    → (b : IsSizedBatch size bytes) → 20 ≤ size → size + 4 ≤ left
    → n ≡ big_number 4 (drop 20 head) → size - 20 ≡ 16 * n → HasPairs bytes (take (16 * n) (drop 24 bytes))
right_length bytes head left size n each many shown b long fits read sized =
    let written : to_be_bytes w32 n ≡ take 4 (drop 16 b.payload) =
    ap (to_be_bytes w32) (read ∙ big_number-4 (drop 20 head)) ∙ front_4 (drop 20 head) (bytes_drop 20 head each) (omega (arith, many, length-drop 20 head))
    ∙ count_shown bytes head b.payload shown.1 b.begins (omega (arith, b.size_is)) in
    let pairs = behind_shown bytes b.payload 20 (16 * n) b.begins (omega (arith, b.size_is, sized)) in
    has_pairs bytes b.payload (take (16 * n) (drop 24 bytes)) n b.begins b.for_map pairs written
    (ap length pairs ∙ omega (arith, length-drop 20 b.payload, b.size_is, sized))
