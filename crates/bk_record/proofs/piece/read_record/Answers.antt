use Rattle.std.proofs.Common.{◌⊎◌, inl, inr, ℕ, ◌^◌, ◌≤◌, ◌-◌, ◌+◌, ◌<◌, length, take, drop, refl, ap, arith}
use Rattle.std.proofs.lemmas.List.{take_rest}
use Rattle.std.proofs.lemmas.Bool.Decides.{nat_tests}
use Rattle.bk_record.proofs.Pieces.{short_here, cut_here, bad_here, begins_at, some_key, none_key}
use Rattle.bk_record.proofs.piece.read_record.Goals as goal
use Rattle.bk_record.proofs.piece.read_record.Goals.{then-size-lt-IDS_LENGTH-via-then-size-lt-IDS_LENGTH}
use Rattle.bk_record.proofs.piece.read_record.Goals.{then-size-lt-IDS_LENGTH-via-else-size-lt-IDS_LENGTH+then-size-gt-MAX_PAYLOAD}

pub returns-then-left-lt-LENGTH_FIELD : goal.returns-then-left-lt-LENGTH_FIELD
returns-then-left-lt-LENGTH_FIELD c =
    let some : 0 < length (take (length c.args.bytes.now - c.args.pos) (drop c.args.pos c.args.bytes.now)) = grind (arith, nat_tests) in
    short_here _ _ (take_rest c.args.bytes.now c.args.pos) some c.if-left-lt-LENGTH_FIELD.true

pub returns-then-size-lt-IDS_LENGTH : goal.returns-then-size-lt-IDS_LENGTH
returns-then-size-lt-IDS_LENGTH c =
    let low : (c.read_u32-field.result < 16) ⊎ (2 ^ 31 ≤ c.read_u32-field.result) = elim c.then-size-lt-IDS_LENGTH.branch [
      | then-size-lt-IDS_LENGTH-via-then-size-lt-IDS_LENGTH w ↦ inl w.if-size-lt-IDS_LENGTH.true
      | then-size-lt-IDS_LENGTH-via-else-size-lt-IDS_LENGTH+then-size-gt-MAX_PAYLOAD w ↦ inr (omega (arith, w.if-size-gt-MAX_PAYLOAD.true))
    ] in
    bad_here _ _ _ _ _ (take_rest c.args.bytes.now c.args.pos) c.read_u32-field.ensures c.if-left-lt-LENGTH_FIELD.false c.read_u32-field.type_inv low
    c.cast_signed.ensures

pub returns-then-left-size : goal.returns-then-left-size
returns-then-left-size c =
    cut_here _ _ _ (take_rest c.args.bytes.now c.args.pos) c.read_u32-field.ensures c.if-left-lt-LENGTH_FIELD.false c.if-size-lt-IDS_LENGTH.false
    c.if-size-gt-MAX_PAYLOAD.false c.if-left-size.true

pub returns-in-Ok : goal.returns-in-Ok
returns-in-Ok c =
    let begins = begins_at _ _ _ c.type_inv.bytes c.read_u32-field.ensures c.if-left-lt-LENGTH_FIELD.false c.if-size-lt-IDS_LENGTH.false
    c.if-size-gt-MAX_PAYLOAD.false c.if-left-size.false in
    (_, (begins.0, (some_key _ _ c.in-Ok.ensures, (refl, ap (λ (n : ℕ). c.args.pos + 4 + n) begins.1))))

pub returns-in-Err : goal.returns-in-Err
returns-in-Err c =
    let begins = begins_at _ _ _ c.type_inv.bytes c.read_u32-field.ensures c.if-left-lt-LENGTH_FIELD.false c.if-size-lt-IDS_LENGTH.false
    c.if-size-gt-MAX_PAYLOAD.false c.if-left-size.false in
    (_, (begins.0, (none_key _ _ c.in-Err.ensures begins.0.legal.0, ap (λ (n : ℕ). c.args.pos + 4 + n) begins.1)))
