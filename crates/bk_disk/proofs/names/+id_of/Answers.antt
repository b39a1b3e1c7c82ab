use Rattle.std.proofs.Common.{◌≡◌, ◌<◌, ◌≤◌, ◌/◌, ◌%◌, ◌^◌, Some, length, ap, sym, ◌∙◌, arith}
use Rattle.std.proofs.lemmas.Bool.{eqb-true, eqb-false}
use Rattle.std.proofs.lemmas.Option.{same_Some}
use Rattle.std.proofs.lemmas.Nat.{div_below, le-div, mod_below}
use Rattle.bk_disk.proofs.Digits.{id_text-some, front_of, by_digits, id_text-from_one, id_text-from_more, joined_digits, not_none}
use Rattle.bk_disk.proofs.names.+id_of.Goals as goal
use Rattle.bk_disk.proofs.names.+id_of.Goals.{then-high-eq0-via-then-high-eq0, then-high-eq0-via-else-high-eq0+then-high}

pub returns-in_default-clause-found : goal.returns-in_default-clause-found
returns-in_default-clause-found t c = λ log low is. absurd (omega (arith, id_text-some log low, ap length is, c.in_default.len_below))

pub returns-in_err-low-clause-found : goal.returns-in_err-low-clause-found
returns-in_err-low-clause-found t c = λ log low is.
    by_digits c.args.text.now log (omega (arith, c.in-len1-up.len_at_least)) low is
    (λ one _ last. not_none log (c.in_err-low.ensures.found log one last))
    (λ more _ last. not_none (log % 16) (c.in_err-low.ensures.found (log % 16) (mod_below log 16 (omega arith)) last))

pub returns-then-is_empty-clause-named : goal.returns-then-is_empty-clause-named
returns-then-is_empty-clause-named t c =
    let digit = c.in_ok-low.ensures.named in
    let none : length (front_of c.args.text.now) ≡ 0 = eqb-true _ _ (sym c.is_empty.ensures ∙ c.if-is_empty.true) in
    (omega (arith, digit.0), id_text-from_one c.args.text.now c.in_ok-low.low (omega (arith, c.in-len1-up.len_at_least)) none digit.0 digit.1)

pub returns-then-is_empty-clause-found : goal.returns-then-is_empty-clause-found
returns-then-is_empty-clause-found t c = λ log low is.
    let none : length (front_of c.args.text.now) ≡ 0 = eqb-true _ _ (sym c.is_empty.ensures ∙ c.if-is_empty.true) in
    by_digits c.args.text.now log (omega (arith, c.in-len1-up.len_at_least)) low is
    (λ one _ last. c.in_ok-low.ensures.found log one last)
    (λ more front last. let short : log / 16 < 2 ^ 31 = div_below log 16 (2 ^ 31) (omega arith) (omega arith) in
    absurd (omega (arith, id_text-some (log / 16) short, ap length front, none)))

pub returns-in_err-high-clause-found : goal.returns-in_err-high-clause-found
returns-in_err-high-clause-found t c = λ log low is.
    by_digits c.args.text.now log (omega (arith, c.in-len1-up.len_at_least)) low is
    (λ one none last. absurd (eqb-false _ _ (sym c.is_empty.ensures ∙ c.if-is_empty.false) none))
    (λ more front last. not_none (log / 16) (c.in_err-high.ensures.found (log / 16) (div_below log 16 (2 ^ 31) (omega arith) (omega arith)) front))

pub returns-then-high-eq0-clause-found : goal.returns-then-high-eq0-clause-found
returns-then-high-eq0-clause-found t c = λ log low is.
    by_digits c.args.text.now log (omega (arith, c.in-len1-up.len_at_least)) low is
    (λ one none last. absurd (eqb-false _ _ (sym c.is_empty.ensures ∙ c.if-is_empty.false) none))
    (λ more front last.
    let below : log / 16 < 2 ^ 27 = div_below log 16 (2 ^ 27) (omega arith) (omega arith) in
    let some : 1 ≤ log / 16 = le-div 1 log 16 (omega arith) (omega arith) in
    let same : c.in_ok-high.high ≡ log / 16 = same_Some _ _ (c.in_ok-high.ensures.found (log / 16) (omega arith) front) in
    absurd (elim c.then-high-eq0.branch [
      | then-high-eq0-via-then-high-eq0 w ↦ omega (arith, same, some, w.if-high-eq0.true)
      | then-high-eq0-via-else-high-eq0+then-high w ↦ omega (arith, same, below, w.if-high.true)
    ]))

pub returns-clause-named : goal.returns-clause-named
returns-clause-named t c =
    let digit = c.in_ok-low.ensures.named in
    let front = c.in_ok-high.ensures.named in (
      omega (arith, digit.0, c.if-high.false),
      id_text-from_more c.args.text.now c.in_ok-high.high c.in_ok-low.low (omega (arith, c.in-len1-up.len_at_least)) (omega (arith, c.if-high-eq0.false))
          (omega (arith, c.if-high.false))
          digit.0 front.1 digit.1,
    )

pub returns-clause-found : goal.returns-clause-found
returns-clause-found t c = λ log low is.
    by_digits c.args.text.now log (omega (arith, c.in-len1-up.len_at_least)) low is
    (λ one none last. absurd (eqb-false _ _ (sym c.is_empty.ensures ∙ c.if-is_empty.false) none))
    (λ more front last.
    let high = same_Some _ _ (c.in_ok-high.ensures.found (log / 16) (div_below log 16 (2 ^ 31) (omega arith) (omega arith)) front) in
    let digit = same_Some _ _ (c.in_ok-low.ensures.found (log % 16) (mod_below log 16 (omega arith)) last) in
    ap Some (joined_digits log c.in_ok-high.high c.in_ok-low.low high digit))
