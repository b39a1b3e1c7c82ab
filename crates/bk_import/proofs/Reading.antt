-- What was consumed of an input is a record, or no record begins it.
use Rattle.std.proofs.Common.{◌≡◌, ℕ, ◌+◌, ◌<◌, ◌≤◌, List, [], ◌++◌, length, Option, Some, None, IfSome, arith, sym, ap, ◌∙◌, subst, length-append, append-nil}
use Rattle.std.proofs.Math.Decide.{dec_le}
use Rattle.std.proofs.KnownBytes.{Consumes-trans}
use Rattle.std.proofs.lemmas.Nat.{from_be_bytes-to_be_bytes_4}
use Rattle.std.specs.Int.{w32, to_be_bytes, from_be_bytes}
use Rattle.std.specs.Io.KnownBytes.{Consumes, IsAtEnd}
use Rattle.bk_record.specs.Record.{record_of, length_field}
use Rattle.bk_record.proofs.Records.{length-record_of, length_field-append, length_field-record_of}
use Rattle.bk_import.specs.Records.{IsAddedLength, BeginsNoRecord}

-- a length field, and then so many bytes, are the record of these
pub Consumes-record_of : (before mid after : Option (List ℕ)) (field payload : List ℕ) → field ≡ to_be_bytes w32 (length payload)
    → Consumes before mid field → Consumes mid after payload → Consumes before after (record_of payload)
unfolding record_of
Consumes-record_of before mid after field payload is first second =
    subst (λ (f : List ℕ). Consumes before after (f ++ payload)) is (Consumes-trans before mid after field payload first second)

pub at_end_before : (before after : Option (List ℕ)) → Consumes before after [] → IsAtEnd after → IsAtEnd before
at_end_before None after consumed end = consumed
at_end_before (Some x) None consumed end = absurd consumed
at_end_before (Some x) (Some y) consumed end = consumed ∙ end

-- the length field of a record that begins the bytes
field_is : (bytes field rest payload behind : List ℕ) → length field ≡ 4 → bytes ≡ field ++ rest → IsAddedLength (length payload) → bytes ≡ record_of payload ++ behind
    → from_be_bytes w32 field ≡ length payload
unfolding length_field
field_is bytes field rest payload behind four is added e =
    let least = added.least in
    let most = added.most in
    sym (length_field-append field rest four) ∙ ap length_field (sym is ∙ e) ∙ length_field-record_of payload behind (omega arith)

-- the number of bytes, if a record begins them
length_is : (bytes payload behind : List ℕ) → bytes ≡ record_of payload ++ behind → length bytes ≡ 4 + length payload + length behind
length_is bytes payload behind e = ap length e ∙ omega (arith, length-append (record_of payload) behind, length-record_of payload)

no_field : (bytes field rest : List ℕ) → bytes ≡ field ++ rest → length field ≤ 4 → (length field < 4 → rest ≡ [])
    → (length field ≡ 4 → IsAddedLength (from_be_bytes w32 field) → ⊥) → BeginsNoRecord bytes
no_field bytes field rest is few end bad payload behind added e =
    elim (dec_le 4 (length field)) [
      | yes enough ↦ let four : length field ≡ 4 = omega arith in
          bad four (subst IsAddedLength (sym (field_is bytes field rest payload behind four is added e)) added)
      | no less ↦ let cut : length field < 4 = omega arith in
          omega (arith, ap length is, length-append field rest, ap length (end cut), length_is bytes payload behind e)
    ]

-- No record begins an input whose first four bytes are cut off, or are no length of a payload that
-- is added.
pub begins_no_record_field : (before after : Option (List ℕ)) (field : List ℕ) → Consumes before after field → length field ≤ 4 → (length field < 4 → IsAtEnd after)
    → (length field ≡ 4 → IsAddedLength (from_be_bytes w32 field) → ⊥) → IfSome before BeginsNoRecord
begins_no_record_field None after field consumed few end bad = consumed
begins_no_record_field (Some x) None field consumed few end bad = absurd consumed
begins_no_record_field (Some x) (Some y) field consumed few end bad = no_field x field y consumed few end bad

cut_payload : (bytes field part rest : List ℕ) (n : ℕ) → IsAddedLength n → field ≡ to_be_bytes w32 n → bytes ≡ field ++ rest → rest ≡ part → length part < n
    → BeginsNoRecord bytes
cut_payload bytes field part rest n allowed written is whole less payload behind added e =
    let most = allowed.most in
    let four : length field ≡ 4 = ap length written in
    let same : n ≡ length payload =
    sym (from_be_bytes-to_be_bytes_4 n (omega arith)) ∙ ap (from_be_bytes w32) (sym written) ∙ field_is bytes field rest payload behind four is added e in
    omega (arith, ap length is, length-append field rest, ap length whole, length_is bytes payload behind e)

-- Nor does one begin an input that ends before as many bytes as its length field has.
pub begins_no_record_cut : (before mid after : Option (List ℕ)) (field part : List ℕ) (n : ℕ) → IsAddedLength n → field ≡ to_be_bytes w32 n
    → Consumes before mid field → Consumes mid after part → IsAtEnd after → length part < n → IfSome before BeginsNoRecord
begins_no_record_cut None mid after field part n allowed written first second end less = first
begins_no_record_cut (Some x) None after field part n allowed written first second end less = absurd first
begins_no_record_cut (Some x) (Some y) None field part n allowed written first second end less = absurd second
begins_no_record_cut (Some x) (Some y) (Some z) field part n allowed written first second end less =
    cut_payload x field part y n allowed written first (second ∙ ap (λ (l : List ℕ). part ++ l) end ∙ append-nil part) less
