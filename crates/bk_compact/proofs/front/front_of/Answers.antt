use Rattle.std.proofs.Common.{not, is_some, refl, sym, ap, ◌∙◌, arith}
use Rattle.std.proofs.lemmas.Bool.{false≢true}
use Rattle.bk_log.proofs.Fronts.{rest_short, rest_cut, bad_shown, record_shown, ids_are_long}
use Rattle.bk_compact.proofs.front.front_of.Goals as goal

pub returns-then-left-lt4-clause-front : goal.returns-then-left-lt4-clause-front
returns-then-left-lt4-clause-front c = λ bytes long is. rest_short bytes (omega (arith, c.if-left-lt4.true))

pub returns-then-not-is_payload_length-clause-front : goal.returns-then-not-is_payload_length-clause-front
returns-then-not-is_payload_length-clause-front c = λ bytes long is.
    let bad = bad_shown bytes _ _ _ is (omega (arith, c.if-left-lt4.false)) c.length_in-length.ensures.value c.length_in-length.type_inv
    (λ legal. absurd (false≢true (c.if-not-is_payload_length.ensures.1 legal))) refl in
    (_, bad.0, bad.1.0, bad.1.1.0)

pub returns-then-left-from-clause-front : goal.returns-then-left-from-clause-front
returns-then-left-from-clause-front c = λ bytes long is.
    let legal = c.if-not-is_payload_length.ensures.0 refl in
    rest_cut bytes _ _ is (omega (arith, c.if-left-lt4.false)) c.length_in-length.ensures.value legal.0 legal.1
    (omega (arith, c.if-left-from.true, c.from.ensures))

pub returns-then-is_foreign-clause-front : goal.returns-then-is_foreign-clause-front
returns-then-is_foreign-clause-front c = λ bytes long is.
    let legal = c.if-not-is_payload_length.ensures.0 refl in
    let ids = ids_are_long _ _ c.requires (omega (arith, c.if-left-from.false, c.from.ensures, legal.0)) in
    let shown = record_shown bytes _ _ _ _ is c.length_in-length.ensures.written legal.0 legal.1
    (omega (arith, c.if-left-from.false, c.from.ensures)) refl refl in
    (shown.0, shown.1.0, sym (ap (λ o. not (is_some o)) shown.1.1.1) ∙ sym c.if-is_foreign.ensures, shown.1.1.0)

pub returns-else-is_foreign-clause-front : goal.returns-else-is_foreign-clause-front
returns-else-is_foreign-clause-front c = λ bytes long is.
    let legal = c.if-not-is_payload_length.ensures.0 refl in
    let ids = ids_are_long _ _ c.requires (omega (arith, c.if-left-from.false, c.from.ensures, legal.0)) in
    let shown = record_shown bytes _ _ _ _ is c.length_in-length.ensures.written legal.0 legal.1
    (omega (arith, c.if-left-from.false, c.from.ensures)) refl refl in
    (shown.0, shown.1.0, sym (ap (λ o. not (is_some o)) shown.1.1.1) ∙ sym c.if-is_foreign.ensures)
