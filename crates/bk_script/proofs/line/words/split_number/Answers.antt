use Rattle.std.proofs.Common.{arith, sym, ◌∙◌, Some, None}
use Rattle.bk_script.proofs.Words.{IsWord-decimal, followed-injective, word_before, word_without}
use Rattle.bk_script.proofs.line.words.split_number.Goals as goal

pub returns-in_err-word-clause-none : goal.returns-in_err-word-clause-none
returns-in_err-word-clause-none c = rw c.from_residual.ensures (λ n rest small is.
    let word = word_without _ _ c.split_once.ensures.cases c.in_err-word.was in
    let e = (followed-injective _ _ None (Some rest) word (IsWord-decimal n (omega arith)) is).1 in cc)

pub returns-in_err-number-clause-none : goal.returns-in_err-number-clause-none
returns-in_err-number-clause-none c = rw c.from_residual-in_err-number.ensures (λ n rest small is.
    let parts = word_before _ _ _ c.split_once.ensures.cases c.in_ok-word.was in
    c.in_err-number.ensures.none n small
    (followed-injective _ _ (Some c.in_ok-word.rest.now) (Some rest) parts.1 (IsWord-decimal n (omega arith)) (sym parts.0 ∙ is)).0)
