use Rattle.std.proofs.Common.{sym, ◌∙◌, arith, refl}
use Rattle.std.proofs.lemmas.Bool.{false≢true}
use Rattle.bk_log.proofs.Fronts.{rest_short, rest_cut, bad_shown, record_shown, ids_are_long}
use Rattle.bk_record.proofs.ReadKeys.{read_key-some, read_key-no}
use Rattle.bk_log.proofs.front.front_of.Goals as goal
use Rattle.bk_log.proofs.front.front_of.Goals.{in-Ok, in-Err}

pub returns-then-left-lt4-clause-front : goal.returns-then-left-lt4-clause-front
returns-then-left-lt4-clause-front c = λ bytes long is. rest_short bytes (omega (arith, c.if-left-lt4.true))

pub returns-then-not-is_payload_length-clause-front : goal.returns-then-not-is_payload_length-clause-front
returns-then-not-is_payload_length-clause-front c = λ bytes long is.
    bad_shown bytes _ _ _ is (omega (arith, c.if-left-lt4.false)) c.length_in-length.ensures.value c.length_in-length.type_inv
    (λ legal. absurd (false≢true (c.if-not-is_payload_length.ensures.1 legal))) c.cast_signed.ensures

pub returns-then-left-from-clause-front : goal.returns-then-left-from-clause-front
returns-then-left-from-clause-front c = λ bytes long is.
    let legal = c.if-not-is_payload_length.ensures.0 refl in
    rest_cut bytes _ _ is (omega (arith, c.if-left-lt4.false)) c.length_in-length.ensures.value legal.0 legal.1
    (omega (arith, c.if-left-from.true, c.from.ensures))

pub returns-clause-front : goal.returns-clause-front
returns-clause-front c = λ bytes long is.
    let legal = c.if-not-is_payload_length.ensures.0 refl in
    let ids = ids_are_long _ _ c.requires (omega (arith, c.if-left-from.false, c.from.ensures, legal.0)) in
    record_shown bytes _ _ _ _ is c.length_in-length.ensures.written legal.0 legal.1 (omega (arith, c.if-left-from.false, c.from.ensures)) refl
    (elim c.match-key_of.branch [
      | in-Ok w ↦ w.key-is ∙ sym (read_key-some _ _ ids (sym c.key_of.ensures ∙ w.in-Ok.is))
      | in-Err w ↦ w.key-is ∙ sym (read_key-no _ _ ids (sym c.key_of.ensures ∙ w.in-Err.is))
    ])
