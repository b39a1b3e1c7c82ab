-- The start of a record: its length field has the length of its payload.
use Rattle.std.proofs.Common.{◌≡◌, ℕ, ◌+◌, ◌≤◌, List, ◌++◌, length, take, drop, refl, sym, ap, ◌∙◌, arith}
use Rattle.std.specs.Int.{w32, from_be_bytes}
use Rattle.std.proofs.lemmas.List.{length-append, take_at, drop_at}
use Rattle.bk_record.specs.Record.{record_of, IsPayload}
use Rattle.bk_record.specs.Piece.{BeginsWith}
use Rattle.bk_record.proofs.Records.{length-record_of, drop_field}
use Rattle.bk_head.proofs.Bytes.{again_4}

-- number in the length field
pub field_is : (payload behind : List ℕ) → IsPayload payload → from_be_bytes w32 (record_of payload ++ behind) ≡ length payload
unfolding record_of
field_is payload behind is = again_4 (length payload) (payload ++ behind) (omega (arith, is.1))

pub Begins-field : (bytes payload : List ℕ) → BeginsWith bytes payload → from_be_bytes w32 bytes ≡ length payload
Begins-field bytes payload s = ap (from_be_bytes w32) s.is ∙ field_is payload s.behind s.legal

pub Begins-long : (bytes payload : List ℕ) → BeginsWith bytes payload → 4 + length payload ≤ length bytes
Begins-long bytes payload s = omega (arith, ap length s.is, length-append (record_of payload) s.behind, length-record_of payload)

-- bytes begin with one record, and have one rest after it
pub same_record : (p q x y : List ℕ) → IsPayload p → IsPayload q → record_of p ++ x ≡ record_of q ++ y → (p ≡ q) × (x ≡ y)
same_record p q x y is-p is-q e =
    let long : length p ≡ length q = sym (field_is p x is-p) ∙ ap (from_be_bytes w32) e ∙ field_is q y is-q in
    let both : p ++ x ≡ q ++ y = sym (drop_field p x) ∙ ap (drop 4) e ∙ drop_field q y in (
      sym (take_at p x (length q) long) ∙ ap (take (length q)) both ∙ take_at q y (length q) refl,
      sym (drop_at p x (length q) long) ∙ ap (drop (length q)) both ∙ drop_at q y (length q) refl,
    )
