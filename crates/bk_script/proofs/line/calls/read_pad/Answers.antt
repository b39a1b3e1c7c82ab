use Rattle.std.proofs.Common.{[], ◌∷◌, arith, ap, sym, ◌∙◌}
use Rattle.bk_script.specs.Line.{numbered}
use Rattle.bk_script.proofs.Numbered.{numbered-injective}
use Rattle.bk_script.proofs.Parts.{pad_text_of, small_three}
use Rattle.bk_script.proofs.Lines.{spelled_pad}
use Rattle.bk_script.proofs.line.calls.read_pad.Goals as goal

pub returns-in_default-clause-bad : goal.returns-in_default-clause-bad
returns-in_default-clause-bad c = λ _ step spells.
    let t = pad_text_of _ _ step (omega (arith, c.ranges.last_reader.fits)) spells in
    let low = t.ledger_fits in
    let high = t.entry_fits in
    let small = t.size_fits in
    c.in_default.ensures.none (t.ledger ∷ t.entry ∷ t.size ∷ []) (small_three _ _ _ (omega (arith, low)) (omega (arith, high)) (omega (arith, small)))
    (omega arith) t.is

pub returns-in-Some-three-clause-ok : goal.returns-in-Some-three-clause-ok
returns-in-Some-three-clause-ok c =
    let fits = c.in-Some-three.ensures.value in
    spelled_pad _ _ _ _ _ _ (omega (arith, fits.0)) (omega (arith, fits.1)) fits.2 (c.in-Some.ensures.value ∙ ap numbered fits.3) c.pad.ensures

pub returns-in-None-clause-bad : goal.returns-in-None-clause-bad
returns-in-None-clause-bad c = λ _ step spells.
    let t = pad_text_of _ _ step (omega (arith, c.ranges.last_reader.fits)) spells in
    let low = t.ledger_fits in
    let high = t.entry_fits in
    let small = t.size_fits in
    let three = small_three t.ledger t.entry t.size (omega (arith, low)) (omega (arith, high)) (omega (arith, small)) in
    c.in-None.ensures.none t.ledger t.entry t.size (omega (arith, low)) (omega (arith, high)) small
    (numbered-injective _ (t.ledger ∷ t.entry ∷ t.size ∷ []) c.in-Some.ensures.small three (sym c.in-Some.ensures.value ∙ t.is))
