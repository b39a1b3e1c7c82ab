use Rattle.std.proofs.Common.{◌≡◌, arith, sym, ◌∙◌, Some, [], ap, Bor, List, ℕ}
use Rattle.std.specs.Fmt.{decimal}
use Rattle.bk_script.specs.Line.{followed}
use Rattle.bk_script.proofs.Words.{empty_from_test, filled_from_test}
use Rattle.bk_script.proofs.Parts.{add_text_of}
use Rattle.bk_script.proofs.Lines.{add_words, spelled_add, spelled_add_text}
use Rattle.bk_script.proofs.line.calls.read_add.Goals as goal

pub returns-in_default-clause-bad : goal.returns-in_default-clause-bad
returns-in_default-clause-bad c = λ _ step spells.
    let t = add_text_of _ _ _ step (omega (arith, c.ranges.last_reader.fits)) spells in
    c.in_default.ensures.none t.ledger (followed (decimal t.entry) t.rest) (let h = t.ledger_fits in omega arith) t.is

pub returns-in_default-number-clause-bad : goal.returns-in_default-number-clause-bad
returns-in_default-number-clause-bad c = λ _ step spells.
    let t = add_text_of _ _ _ step (omega (arith, c.ranges.last_reader.fits)) spells in
    c.in_default-number.ensures.none t.entry (let h = t.entry_fits in omega arith)
    (add_words _ _ _ _ _ t (omega (arith, c.in-Some.ensures.value.0)) c.split_word.ensures.word c.in-Some.ensures.value.1 c.split_word.ensures.whole).0

pub returns-in-None-clause-ok : goal.returns-in-None-clause-ok
returns-in-None-clause-ok c =
    let whole = rw c.in-None.is at c.split_word.ensures.whole in
    spelled_add _ _ _ _ _ _ _ (omega (arith, c.in-Some.ensures.value.0)) (omega (arith, c.in-Some-number.ensures.value.0)) c.in-Some.ensures.value.1
    (whole ∙ c.in-Some-number.ensures.value.1) c.add.ensures

pub returns-in-Some-data-clause-bad : goal.returns-in-Some-data-clause-bad
returns-in-Some-data-clause-bad c = λ _ step spells.
    let t = add_text_of _ _ _ step (omega (arith, c.ranges.last_reader.fits)) spells in
    let whole = rw (empty_from_test _ _ c.is_empty.ensures c.if-is_empty.true) at (rw c.in-Some-data.is at c.split_word.ensures.whole) in
    t.some (sym (add_words _ _ _ (Some []) _ t (omega (arith, c.in-Some.ensures.value.0)) c.split_word.ensures.word c.in-Some.ensures.value.1 whole).1)

pub returns-in-Some-2-clause-ok : goal.returns-in-Some-2-clause-ok
returns-in-Some-2-clause-ok c =
    let whole = rw c.in-Some-number.ensures.value.1 at (rw c.in-Some-2.is at c.split_word.ensures.whole) in
    spelled_add_text _ _ _ _ _ _ _ _ (omega (arith, c.in-Some.ensures.value.0))
    (omega (arith, c.in-Some-number.ensures.value.0)) c.requires c.in-Some.ensures.value.1 whole
    (λ e. let same : c.in-Some-data.text ≡ c.in-Some-2.text = cc in
    filled_from_test _ _ c.is_empty.ensures c.if-is_empty.false (ap (λ (t : Bor (List ℕ)). t.now) same ∙ e)) c.add-in-Some-2.ensures
