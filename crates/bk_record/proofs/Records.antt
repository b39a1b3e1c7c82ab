-- One record in bytes: the value of its length field, and when bytes begin with a whole record.
use Rattle.std.proofs.Common.{◌≡◌, ℕ, zero, suc, ◌+◌, ◌<◌, ◌≤◌, ◌^◌, List, [], ◌∷◌, ◌++◌, length, take, drop, true, false}
use Rattle.std.proofs.Common.{refl, sym, ap, ◌∙◌, arith, length-append, append_assoc, length-drop}
use Rattle.std.specs.List.{All}
use Rattle.std.proofs.lemmas.List.Elements.{All-head, All-tail}
use Rattle.std.proofs.lemmas.List.{drop_at, length-take, take-append-drop, drop-drop, get_or-drop}
use Rattle.std.proofs.lemmas.Nat.{from_be_bytes-to_be_bytes_4, be_bytes_4}
use Rattle.std.proofs.lemmas.Bool.{and_from, and_parts, le-leb, lt-ltb, leb-true, ltb-true}
use Rattle.std.specs.Int.{w32, to_be_bytes, from_be_bytes}
use Rattle.bk_record.specs.Record.{record_of, IsPayload, length_field}
use Rattle.bk_record.specs.Body.{starts_with_record, IsTorn}
use Rattle.bk_record.specs.Body.IsTorn.{short, cut}
pub use Rattle.bk_record.specs.Spelling.{IsBytes}

pub length-record_of : (payload : List ℕ) → length (record_of payload) ≡ 4 + length payload
unfolding record_of
length-record_of payload = omega (arith, length-append (to_be_bytes w32 (length payload)) payload)

-- the length field depends only on the first four bytes
pub length_field-append : (field behind : List ℕ) → length field ≡ 4 → length_field (field ++ behind) ≡ length_field field
unfolding length_field
length_field-append (a ∷ b ∷ c ∷ d ∷ []) behind four = refl
length_field-append [] behind four = absurd (omega arith)
length_field-append (a ∷ []) behind four = absurd (omega arith)
length_field-append (a ∷ b ∷ []) behind four = absurd (omega arith)
length_field-append (a ∷ b ∷ c ∷ []) behind four = absurd (omega arith)
length_field-append (a ∷ b ∷ c ∷ d ∷ e ∷ more) behind four = absurd (omega arith)

pub length_field-take : (n : ℕ) (bytes : List ℕ) → 4 ≤ n → 4 ≤ length bytes → length_field (take n bytes) ≡ length_field bytes
unfolding length_field
length_field-take (suc (suc (suc (suc n)))) (a ∷ b ∷ c ∷ d ∷ more) enough long = refl
length_field-take n [] enough long = absurd (omega arith)
length_field-take n (a ∷ []) enough long = absurd (omega arith)
length_field-take n (a ∷ b ∷ []) enough long = absurd (omega arith)
length_field-take n (a ∷ b ∷ c ∷ []) enough long = absurd (omega arith)
length_field-take zero bytes enough long = absurd (omega arith)
length_field-take (suc zero) bytes enough long = absurd (omega arith)
length_field-take (suc (suc zero)) bytes enough long = absurd (omega arith)
length_field-take (suc (suc (suc zero))) bytes enough long = absurd (omega arith)

pub length_field-record_of : (payload behind : List ℕ) → length payload < 2 ^ 32 → length_field (record_of payload ++ behind) ≡ length payload
unfolding record_of length_field
length_field-record_of payload behind fits = from_be_bytes-to_be_bytes_4 (length payload) fits

-- what it takes for bytes to begin with a whole record
pub record Starts (bytes : List ℕ) : Type 0 where
  pub field : 4 ≤ length bytes
  pub least : 16 ≤ length_field bytes
  pub most : length_field bytes < 2 ^ 31
  pub whole : 4 + length_field bytes ≤ length bytes

pub starts_when : (bytes : List ℕ) → Starts bytes → starts_with_record bytes ≡ true
unfolding starts_with_record
starts_when bytes s = and_from _ _ (le-leb _ _ s.field) (and_from _ _ (le-leb _ _ s.least) (and_from _ _ (lt-ltb _ _ s.most) (le-leb _ _ s.whole)))

pub starts_only : (bytes : List ℕ) → starts_with_record bytes ≡ true → Starts bytes
unfolding starts_with_record
starts_only bytes is =
    let a = and_parts _ _ is in
    let b = and_parts _ _ a.1 in
    let c = and_parts _ _ b.1 in
    record { field = leb-true _ _ a.0; least = leb-true _ _ b.0; most = ltb-true _ _ c.0; whole = leb-true _ _ c.1 }

pub starts_false : (bytes : List ℕ) → (Starts bytes → ⊥) → starts_with_record bytes ≡ false
starts_false bytes never =
    elim (starts_with_record bytes) as (λ b. starts_with_record bytes ≡ b → b
    ≡ false) [ true ↦ λ is. absurd (never (starts_only bytes is)) | false ↦ λ is. refl ] refl

pub starts-record_of : (payload behind : List ℕ) → IsPayload payload → starts_with_record (record_of payload ++ behind) ≡ true
starts-record_of payload behind legal =
    let field : length_field (record_of payload ++ behind) ≡ length payload = length_field-record_of payload behind (omega arith) in
    let size = length-record_of payload in
    let whole = length-append (record_of payload) behind in
    starts_when _ (record { field = omega arith; least = omega arith; most = omega arith; whole = omega arith })

pub starts-torn : (bytes : List ℕ) → IsTorn bytes → starts_with_record bytes ≡ false
starts-torn bytes (short some less) = starts_false bytes (λ s. omega (arith, s.field))
starts-torn bytes (cut four least most less) = starts_false bytes (λ s. omega (arith, s.whole))

pub starts-nil : starts_with_record [] ≡ false
starts-nil = starts_false [] (λ s. omega (arith, s.field))

-- numbers below 2^8 are bytes
pub each_byte : (bytes : List ℕ) → All (λ b. b < 2 ^ 8) bytes → IsBytes bytes
each_byte [] all i = omega arith
each_byte (b ∷ bytes) all zero = All-head (λ x. x < 2 ^ 8) b bytes all
each_byte (b ∷ bytes) all (suc i) = each_byte bytes (All-tail (λ x. x < 2 ^ 8) b bytes all) i

pub bytes_take : (n : ℕ) (bytes : List ℕ) → IsBytes bytes → IsBytes (take n bytes)
bytes_take zero bytes each i = omega arith
bytes_take (suc n) [] each i = omega arith
bytes_take (suc n) (b ∷ bytes) each zero = each 0
bytes_take (suc n) (b ∷ bytes) each (suc i) = bytes_take n bytes (λ k. each (suc k)) i

pub bytes_drop : (n : ℕ) (bytes : List ℕ) → IsBytes bytes → IsBytes (drop n bytes)
bytes_drop n bytes each i = rw (get_or-drop n bytes i 0) (each (n + i))

length_field-is : (bytes : List ℕ) → length_field bytes ≡ from_be_bytes w32 bytes
unfolding length_field
length_field-is bytes = refl

record_of-is : (payload : List ℕ) → record_of payload ≡ to_be_bytes w32 (length payload) ++ payload
unfolding record_of
record_of-is payload = refl

field_bytes : (bytes : List ℕ) → IsBytes bytes → 4 ≤ length bytes → to_be_bytes w32 (length_field bytes) ≡ take 4 bytes
field_bytes bytes each four =
    let size : length (take 4 bytes) ≡ 4 = omega (arith, length-take 4 bytes) in
    let same : length_field bytes ≡ length_field (take 4 bytes) =
    ap length_field (sym (take-append-drop 4 bytes)) ∙ length_field-append (take 4 bytes) (drop 4 bytes) size in
    be_bytes_4 (take 4 bytes) (length_field bytes) size (bytes_take 4 bytes each) (same ∙ length_field-is (take 4 bytes))

-- four bytes, the next n bytes, and the others
pub split_at : (bytes : List ℕ) (n : ℕ) → (take 4 bytes ++ take n (drop 4 bytes)) ++ drop (4 + n) bytes ≡ bytes
split_at bytes n =
    append_assoc (take 4 bytes) (take n (drop 4 bytes)) (drop (4 + n) bytes)
    ∙ ap (λ (x : List ℕ). take 4 bytes ++ (take n (drop 4 bytes) ++ x)) (sym (drop-drop n 4 bytes))
    ∙ ap (λ (x : List ℕ). take 4 bytes ++ x) (take-append-drop n (drop 4 bytes))
    ∙ take-append-drop 4 bytes

-- bytes that begin with a whole record are that record and the bytes after it
pub record_in_front : (bytes : List ℕ) → IsBytes bytes → Starts bytes
    → bytes ≡ record_of (take (length_field bytes) (drop 4 bytes)) ++ drop (4 + length_field bytes) bytes
record_in_front bytes each s =
    let n = length_field bytes in
    let payload = take n (drop 4 bytes) in
    let size : length payload ≡ n = omega (arith, s.whole, length-take n (drop 4 bytes), length-drop 4 bytes) in
    let field : to_be_bytes w32 (length payload) ≡ take 4 bytes = ap (to_be_bytes w32) size ∙ field_bytes bytes each s.field in
    sym (ap (λ (x : List ℕ). x ++ drop (4 + n) bytes) (record_of-is payload ∙ ap (λ (x : List ℕ). x ++ payload) field) ∙ split_at bytes n)

-- the payload, and the bytes after it, follow the length field
pub drop_field : (payload behind : List ℕ) → drop 4 (record_of payload ++ behind) ≡ payload ++ behind
drop_field payload behind =
    ap (λ (x : List ℕ). drop 4 (x ++ behind)) (record_of-is payload)
    ∙ ap (drop 4) (append_assoc (to_be_bytes w32 (length payload)) payload behind)
    ∙ drop_at (to_be_bytes w32 (length payload)) (payload ++ behind) 4 refl

pub drop_record : (payload behind : List ℕ) → drop (4 + length payload) (record_of payload ++ behind) ≡ behind
drop_record payload behind = drop_at (record_of payload) behind (4 + length payload) (length-record_of payload)
