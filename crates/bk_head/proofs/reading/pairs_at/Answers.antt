use Rattle.std.proofs.Common.{ℕ, ◌∙◌, refl, ap, take}
use Rattle.std.proofs.lemmas.List.{take_min}
use Rattle.std.proofs.lemmas.Result.{err_from_is_err_and}
use Rattle.bk_head.proofs.reading.pairs_at.Goals as goal

pub returns-in_err-count-clause-err : goal.returns-in_err-count-clause-err
returns-in_err-count-clause-err c =
    let p = err_from_is_err_and c.from_residual.result c.from_residual.ensures.1 in
    let shown = ap (λ (n : ℕ). take n c.args.bytes.now) c.min.ensures ∙ take_min 24 c.args.bytes.now in
    rw (p.1, p.2) (c.in_err-count.ensures.err c.args.bytes.now (refl, shown))
