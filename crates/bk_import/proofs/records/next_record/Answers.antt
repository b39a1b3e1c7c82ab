use Rattle.std.proofs.Common.{◌≡◌, ◌<◌, ℕ, List, length, arith, ap, sym, ◌∙◌, subst}
use Rattle.std.specs.Int.{w32, to_be_bytes, from_be_bytes}
use Rattle.bk_import.specs.Records.{IsAddedLength}
use Rattle.bk_import.proofs.Reading.{Consumes-record_of, begins_no_record_field, begins_no_record_cut}
use Rattle.bk_import.proofs.records.next_record.Goals as goal

pub returns-in_default-clause-bad : goal.returns-in_default-clause-bad
returns-in_default-clause-bad g c _ =
    begins_no_record_field _ _ c.in_ok-field.field.items c.in_ok-field.ensures.bytes c.in_ok-field.ensures.within c.in_ok-field.ensures.end
    (subst (λ (f : List ℕ). length f ≡ 4 → IsAddedLength (from_be_bytes w32 f) → ⊥) c.deref.ensures.value c.in_default.ensures.none)

pub returns-then-len-length-clause-bad : goal.returns-then-len-length-clause-bad
returns-then-len-length-clause-bad g c _ =
    let part = c.in_ok-payload.payload.items in
    let found = c.in-Some.ensures.some in
    let less : length part < c.in-Some.length = omega (arith, c.in_ok-payload.payload.ok, c.if-len-length.true, c.len.ensures) in
    begins_no_record_cut _ _ _ c.in_ok-field.field.items part c.in-Some.length found.1 (sym c.deref.ensures.value ∙ found.0) c.in_ok-field.ensures.bytes
    c.in_ok-payload.ensures.bytes (c.in_ok-payload.ensures.end less) less

pub returns-clause-read : goal.returns-clause-read
returns-clause-read g c =
    let payload = c.in_ok-payload.payload.items in
    let found = c.in-Some.ensures.some in
    let size : c.in-Some.length ≡ length payload =
    omega (arith, c.in_ok-payload.payload.ok, c.in_ok-payload.ensures.within, c.if-len-length.false, c.len.ensures) in
    let written = sym c.deref.ensures.value ∙ found.0 ∙ ap (to_be_bytes w32) size in
    (subst IsAddedLength size found.1, Consumes-record_of _ _ _ c.in_ok-field.field.items payload written c.in_ok-field.ensures.bytes c.in_ok-payload.ensures.bytes)
